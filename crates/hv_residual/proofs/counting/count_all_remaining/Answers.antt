use Rattle.std.proofs.Common.{◌-◌, ◌+◌, length, length-append, ap, ◌∙◌, refl, arith, get_or, drop, List}
use Rattle.hv_residual_model.specs.UnitBins.{UnitBin}
use Rattle.hv_residual_model.specs.ResidualBins.{all_remaining_bins}
use Rattle.hv_residual.specs.Levels.{one_remaining_bins}
use Rattle.hv_residual.proofs.RemainingLemmas.{here, level_step, no_level}
use Rattle.hv_residual.proofs.counting.count_all_remaining.Goals as goal

pub loop-m-preserved : goal.loop-m-preserved
loop-m-preserved c =
    let ms = c.args.magnitudes.now in
    let i = c.loop-m.m-index in
    let base = c.base_of-base.result in
    let step = level_step ms i c.loop-m.rice c.loop-m.left (get_or ms i 0) base.base_level
    c.saturating_sub-left.result c.rice_behind-rice.result c.loop-m.first c.args.greater2
    base.has_remaining c.still_first-first.result c.loop-m-test.true refl
    c.base_of-base.ensures c.saturating_sub-left.ensures c.still_first-first.ensures
    c.rice_behind-rice.ensures.value in
    let one : List UnitBin = one_remaining_bins base.has_remaining c.loop-m.rice
    (get_or ms i 0 - base.base_level) in
    let rest : List UnitBin = all_remaining_bins
    (here c.saturating_sub-left.result c.still_first-first.result c.args.greater2 (drop (i + 1) ms))
    (drop (i + 1) ms) c.rice_behind-rice.result in
    let lengths = ap length step ∙ length-append one rest in
    record {
      small = c.rice_behind-rice.ensures.most;
      most = omega (arith, c.loop-m.invariant.most, c.count_above_base-total.ensures.most);
      value = omega (arith, c.loop-m.invariant.value, lengths, c.count_above_base-total.ensures.value);
    }

pub returns-clause-value : goal.returns-clause-value
returns-clause-value c =
    let none = ap length (no_level c.loop-m.left c.loop-m.first c.args.greater2 c.args.magnitudes.now
    c.loop-m.m-index c.loop-m.rice c.loop-m-test.false) in
    omega (arith, c.loop-m.invariant.value, none)
