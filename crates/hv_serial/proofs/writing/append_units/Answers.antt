-- The next unit is the next one of the output.
use Rattle.std.proofs.Common.{◌++◌, map, ap, ap₂, sym, ◌∙◌, arith, append_assoc}
use Rattle.hv_serial.proofs.UnitLemmas.{units_more}
use Rattle.hv_serial.proofs.writing.append_units.Goals as goal

pub loop-unit-preserved : goal.loop-unit-preserved
loop-unit-preserved c =
    c.in_ok-extend_from_slice.ensures.items ∙
    ap₂ (λ front back. front ++ back) c.loop-unit.invariant c.deref.ensures.value ∙
    append_assoc c.args.bytes.now.items _ c.unit-item.result.items ∙
    ap (λ units. c.args.bytes.now.items ++ units)
    (sym (units_more c.deref-unit-items.result.now (λ v. v.items) c.args.output.now.slices
    c.loop-unit.unit-index c.unit-item.result
    (ap (map (λ v. v.items)) c.deref-unit-items.ensures.value ∙ ap (λ o. o.slices) c.output.view_is)
    (omega (arith, c.loop-unit-test.true, c.loop-unit.auto.unit-index-end)) c.unit-item.is))
