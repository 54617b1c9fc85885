use Rattle.std.proofs.Common.{◌∙◌, ◌<◌, ap, arith, sym, subst}
use Rattle.std.specs.Prelude.{slice_index}
use Rattle.std.proofs.lemmas.List.{get_or_read}
use Rattle.hv_manager.proofs.CountLemmas.{counted_most}
use Rattle.hv_manager.proofs.refs.Refs.live.Goals as goal

pub returns-clause-most : goal.returns-clause-most
returns-clause-most c =
    let below = subst (λ p. c.args.k < p.count) (sym c.self.view_is) c.requires in
    let live = c.self.inside.live.items in
    let read = get_or_read live c.from.result c.index.result.now
    (omega (arith, c.from.ensures, below, c.self.invariant.counts.long)) c.index.ensures 0 in
    omega (
      arith,
      c.from-2.ensures,
      read ∙ ap (slice_index live) c.from.ensures,
      ap (λ p. p.count) c.self.view_is,
      counted_most c.self.inside.structure c.self.inside.written live c.args.k c.self.invariant.ranges
          c.self.invariant.counts below,
    )
