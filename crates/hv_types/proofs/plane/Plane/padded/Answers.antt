use Rattle.std.proofs.Common.{◌∙◌, sym, ap, ◌++◌, ◌*◌, refl, length, min, ◌-◌, arith}
use Rattle.hv_types.proofs.SampleLemmas.{padded_rows, padded_rows_none, padded_rows_more, padded_rows_all, length-padded_rows}
use Rattle.hv_types.specs.Samples.{lengthened_row}
use Rattle.hv_types.proofs.plane.Plane.padded.Goals as goal

pub loop-y-init : goal.loop-y-init
loop-y-init c =
    c.in_ok-padded.ensures.items ∙ sym
    (padded_rows_none c.args.samples.now c.args.from.width c.args.from.height c.args.to.width)

pub loop-y-preserved : goal.loop-y-preserved
loop-y-preserved c =
    c.in_ok-append_row.ensures
    ∙ ap (λ t. t ++ lengthened_row c.row_or_last-row.result.now c.args.to.width) c.loop-y.invariant
    ∙ ap (λ row. padded_rows c.args.samples.now c.args.from.width c.args.from.height c.args.to.width
    c.loop-y.y ++ lengthened_row row c.args.to.width) c.row_or_last-row.ensures
    ∙ padded_rows_more c.args.samples.now c.args.from.width c.args.from.height c.args.to.width
    c.loop-y.y (min c.loop-y.y (c.args.from.height - 1)) c.requires.count c.requires.wide
    c.requires.high c.requires.wider refl

pub invariant_of-result : goal.invariant_of-result
invariant_of-result c = record {
  count = ap (λ t. length t) c.loop-y.invariant ∙ length-padded_rows c.args.samples.now
      c.args.from.width c.args.from.height c.args.to.width c.loop-y.y ∙ ap
      (λ n. c.args.to.width * n) (omega arith);
  wide = omega arith;
  high = omega arith;
}

pub returns : goal.returns
returns c =
    padded_rows_all c.args.samples.now c.args.from.width c.args.from.height c.args.to.width
    c.args.to.height c.loop-y.y c.loop-y.padded.items c.loop-y.invariant (omega arith)
