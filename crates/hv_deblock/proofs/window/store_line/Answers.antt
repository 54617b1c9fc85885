use Rattle.std.proofs.Common.{◌≡◌, ◌+◌, ◌-◌, ◌*◌, ◌%◌, ◌∙◌, ap, arith, subst, sym}
use Rattle.hv_deblock_model.specs.Deblocking.{Samples, line_sample}
use Rattle.hv_deblock.specs.Filled.{IsFilled}
use Rattle.hv_deblock.proofs.FilledLemmas.{sample_more}
use Rattle.hv_deblock.proofs.SegmentLemmas.{kept_left, kept_right}
use Rattle.hv_deblock.proofs.window.store_line.Goals as goal

pub loop-i-preserved : goal.loop-i-preserved
loop-i-preserved g c =
    let left = 8 * c.args.k - 4 in
    let place : c.loop-i.i ≡ (left + c.loop-i.i + 4) % 8 = omega (arith, c.requires.least, c.loop-i-test.true) in
    let f : Samples = λ a b. line_sample c.args.line ((a + 4) % 8) in
    subst (λ p. IsFilled g.E.Edges.direction left (left + (c.loop-i.i + 1)) c.args.y (c.args.y + 1) f c.args.plane.now p) (sym c.set.ensures)
    (sample_more g.E.Edges.direction left (left + c.loop-i.i) (left + (c.loop-i.i + 1)) c.args.y c.line_sample.result f c.args.plane.now c.loop-i.plane
    (omega arith) (omega arith) (omega (arith, c.requires.k, c.requires.least, c.loop-i-test.true)) c.requires.y
    (c.line_sample.ensures ∙ ap (line_sample c.args.line) place)
    c.loop-i.invariant)

pub loop-i-init : goal.loop-i-init
loop-i-init g c =
    kept_left g.E.Edges.direction c.args.margin c.args.k c.args.y c.args.line c.args.plane.now c.requires.margin c.requires.least
    c.requires.whole c.requires.kept

pub returns : goal.returns
returns g c =
    kept_right g.E.Edges.direction c.args.margin c.args.k c.args.y (8 * c.args.k - 4 + c.loop-i.i) c.args.line c.args.plane.now c.loop-i.plane
    c.requires.margin c.requires.least c.requires.k c.requires.y
    (omega (arith, c.loop-i-test.false, c.loop-i.auto.i-end (omega (arith, c.requires.margin)), c.requires.margin, c.requires.least))
    c.requires.kept c.loop-i.invariant
