use Rattle.std.proofs.Common.{◌+◌, ◌∙◌, cond, nat_lt, refl, arith}
use Rattle.std.proofs.lemmas.List.{length-set}
use Rattle.hv_interp.proofs.PlaceLemmas.{HasFirst-set}
use Rattle.hv_search.proofs.coarse.mask_of.Goals as goal

pub loop-i-preserved : goal.loop-i-preserved
loop-i-preserved c = (
  length-set c.loop-i.mask c.loop-i.i c.mask_lane.result ∙ c.loop-i.invariant.0,
  HasFirst-set 0 c.loop-i.i (c.loop-i.i + 1) (λ i. cond (nat_lt i c.args.columns) 255 0) c.loop-i.mask
      c.mask_lane.result (omega (arith, c.loop-i.invariant.0, c.loop-i-test.true)) c.loop-i.invariant.1
      c.mask_lane.ensures refl,
)

pub returns : goal.returns
returns c = λ i below. c.loop-i.invariant.1 i (omega (arith, below, c.loop-i-test.false))
