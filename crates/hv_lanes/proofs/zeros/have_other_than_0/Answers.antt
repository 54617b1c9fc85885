use Rattle.std.proofs.Common.{◌≡◌, ◌+◌, ◌-◌, ◌*◌, ◌∙◌, ap, sym, arith, take}
use Rattle.std.specs.List.{list_any}
use Rattle.hv_lanes.specs.Ranges.{is_other_than_0}
use Rattle.hv_lanes.proofs.ZeroLemmas.{any_part, none_more}
use Rattle.hv_lanes.proofs.zeros.have_other_than_0.Goals as goal

pub returns-then-has_other_than_0 : goal.returns-then-has_other_than_0
returns-then-has_other_than_0 c =
    sym (any_part is_other_than_0 (8 * c.loop-g.g) (8 * c.loop-g.g + 8 - 8 * c.loop-g.g) c.args.numbers.now (sym c.if-has_other_than_0.ensures))

pub loop-g-preserved : goal.loop-g-preserved
loop-g-preserved c =
    let next : 8 * (c.loop-g.g + 1) ≡ 8 * c.loop-g.g + (8 * c.loop-g.g + 8 - 8 * c.loop-g.g) = omega arith in
    ap (λ n. list_any is_other_than_0 (take n c.args.numbers.now)) next ∙
    none_more is_other_than_0 (8 * c.loop-g.g) (8 * c.loop-g.g + 8 - 8 * c.loop-g.g) c.args.numbers.now (omega arith) c.loop-g.invariant (sym c.if-has_other_than_0.ensures)
