use Rattle.std.proofs.Common.{refl, ◌-◌}
use Rattle.hv_residual.specs.Levels.{one_remaining_bins}
use Rattle.hv_residual.proofs.PuttingLemmas.{going_by, going_done}
use Rattle.hv_residual.proofs.RemainingLemmas.{level_step, no_level}
use Rattle.hv_residual.proofs.remaining.put_all_remaining.Goals as goal

pub loop-m-preserved : goal.loop-m-preserved
loop-m-preserved g c =
    let ms = c.args.magnitudes.now in
    let i = c.loop-m.m-index in
    let step = level_step ms i c.loop-m.rice c.loop-m.left _ c.base_of-base.result.base_level
    c.saturating_sub-left.result c.rice_behind-rice.result c.loop-m.first c.args.greater2
    c.base_of-base.result.has_remaining c.still_first-first.result c.loop-m-test.true refl
    c.base_of-base.ensures c.saturating_sub-left.ensures c.still_first-first.ensures
    c.rice_behind-rice.ensures.value in
    record {
      small = c.rice_behind-rice.ensures.most;
      going = going_by g.B.BinSink.stands_for _ _ _
          (one_remaining_bins c.base_of-base.result.has_remaining c.loop-m.rice
          (_ - c.base_of-base.result.base_level)) _ _ _ c.loop-m.invariant.going step
          c.put_above_base.ensures;
    }

pub returns : goal.returns
returns g c = going_done g.B.BinSink.stands_for _ _ _ _ c.loop-m.invariant.going
    (no_level c.loop-m.left c.loop-m.first c.args.greater2 c.args.magnitudes.now c.loop-m.m-index
    c.loop-m.rice c.loop-m-test.false)
