-- Each row is that of the plane, up to the width.
use Rattle.std.proofs.Common.{ap, ◌∙◌, arith}
use Rattle.hv_types.specs.Windows.{row_of_block}
use Rattle.hv_serial.proofs.CropLemmas.{no_rows, row_appended}
use Rattle.hv_serial.proofs.shown.append_cropped.Goals as goal

pub loop-y-init : goal.loop-y-init
loop-y-init c = no_rows c.args.plane.now c.args.width c.args.bytes.now.items

pub loop-y-preserved : goal.loop-y-preserved
loop-y-preserved c =
    let part = c.window-part.result in
    c.in_ok-extend_from_slice.ensures.items ∙
    row_appended c.args.plane.now c.args.bytes.now.items c.loop-y.bytes.items part.samples.now
    c.row.result.now c.args.width part.stride c.loop-y.y c.loop-y.invariant
    c.window-part.ensures.samples c.window-part.ensures.stride
    (omega (
      arith,
      part.whole c.loop-y.y (omega (arith, c.loop-y-test.true)),
      c.window-part.ensures.columns,
    ))
    (c.row.ensures ∙
    ap (λ w. row_of_block part.samples.now part.stride w c.loop-y.y) c.window-part.ensures.columns)
