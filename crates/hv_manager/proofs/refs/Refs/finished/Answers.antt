use Rattle.std.proofs.Common.{arith, sym, subst}
use Rattle.hv_manager.specs.Progress.{IsNextWritten}
use Rattle.hv_manager.proofs.CountLemmas.{counted_held, counted_less}
use Rattle.hv_manager.proofs.refs.Refs.finished.Goals as goal

pub take_off_named-requires-clause-held : goal.take_off_named-requires-clause-held
take_off_named-requires-clause-held c k below =
    let next = subst (λ p. IsNextWritten p c.args.k) (sym c.self.view_is) c.requires.next in
    counted_held c.self.inside.structure c.self.inside.written c.args.k c.self.inside.live.items k
    c.self.invariant.ranges next.more next.is c.self.invariant.counts below

pub invariant_of-self : goal.invariant_of-self
invariant_of-self c =
    let next = subst (λ p. IsNextWritten p c.args.k) (sym c.self.view_is) c.requires.next in
    record {
      ranges = c.self.invariant.ranges;
      begun = c.self.invariant.begun;
      written = omega (arith, next.more);
      filtered = c.self.invariant.filtered;
      counts = counted_less c.self.inside.structure c.self.inside.written c.args.k c.self.inside.live.items
          c.take_off_named.new.live.items c.self.invariant.ranges next.more next.is c.self.invariant.counts
          c.take_off_named.ensures.count c.take_off_named.ensures.each;
    }
