use Rattle.std.proofs.Common.{◌-◌, arith, length-set, ◌∙◌}
use Rattle.hv_cabac.proofs.NumberLemmas.{carry_on, carry_ends}
use Rattle.hv_cabac.proofs.register.add_carry.Goals as goal

pub loop-at-preserved : goal.loop-at-preserved
loop-at-preserved c =
    let l = c.loop-at in
    let same = length-set l.out (l.at - 1) 0 in
    record {
      inside = omega (arith, same);
      same = same ∙ l.invariant.same;
      pending =
          carry_on l.out l.at _ c.loop-at-test.true l.invariant.inside l.invariant.pending
          c.if-out-at.true;
    }

pub returns-else-out-at-clause-more : goal.returns-else-out-at-clause-more
returns-else-out-at-clause-more c room =
    let l = c.loop-at in
    carry_ends l.out l.at _ c.loop-at-test.true l.invariant.inside l.invariant.pending
