-- The next picture is the next one of those that are shown.
use Rattle.std.proofs.Common.{◌++◌, map, ap, ap₂, sym, ◌∙◌, arith}
use Rattle.hv_serial.proofs.UnitLemmas.{units_more}
use Rattle.hv_serial.proofs.writing.shown_bytes.Goals as goal

pub loop-picture-preserved : goal.loop-picture-preserved
loop-picture-preserved c =
    c.in_ok-extend_from_slice.ensures.items ∙
    ap₂ (λ front back. front ++ back) c.loop-picture.invariant c.deref.ensures.value ∙
    sym (units_more c.deref-picture-items.result.now (λ v. v.items) c.args.output.now.shown
    c.loop-picture.picture-index c.picture-item.result
    (ap (map (λ v. v.items)) c.deref-picture-items.ensures.value ∙
    ap (λ o. o.shown) c.output.view_is)
    (omega (arith, c.loop-picture-test.true, c.loop-picture.auto.picture-index-end))
    c.picture-item.is)
