use Rattle.std.proofs.Common.{◌+◌, ◌≡◌, ◌∙◌, nat_eq, refl, ap, arith}
use Rattle.hv_deblock_model.specs.EdgeFilters.{tc, chroma_line}
use Rattle.hv_deblock_model.specs.Deblocking.{Samples, line_at}
use Rattle.hv_deblock.specs.declared.component.Component.TheVariants.{Chroma}
use Rattle.hv_deblock.specs.Filled.{samples_of}
use Rattle.hv_deblock.proofs.SegmentLemmas.{lines_as_segment, chroma_edge_2, nothing_changes}
use Rattle.hv_deblock.proofs.segment.filter_chroma.Goals as goal

pub returns-then-strength-eq2 : goal.returns-then-strength-eq2
returns-then-strength-eq2 g c =
    let old : Samples = samples_of g.E.Edges.direction c.args.plane.now in
    let first = line_at old c.args.k c.args.top in
    let last = line_at old c.args.k (c.args.top + 3) in
    lines_as_segment Chroma g.E.Edges.direction c.args.qp c.args.strength c.args.k c.args.top (c.args.top + 4) (chroma_line c.tc-tc.result)
    first last c.args.plane.now c.filter_lines.new.plane refl refl
    (λ line.
    ap (λ t. chroma_line t line) (c.tc-tc.ensures.value ∙ ap (λ q. tc q c.args.strength) c.chroma_qp.ensures.value)
    ∙ chroma_edge_2 c.args.qp c.args.strength first last c.if-strength-eq2.true line)
    c.filter_lines.ensures

pub returns-else-strength-eq2 : goal.returns-else-strength-eq2
returns-else-strength-eq2 g c =
    let old : Samples = samples_of g.E.Edges.direction c.args.plane.now in
    let one : c.args.strength ≡ 1 = omega (arith, c.if-strength-eq2.false, c.requires.some, c.requires.strength) in
    nothing_changes Chroma g.E.Edges.direction c.args.qp c.args.strength c.args.k c.args.top (c.args.top + 4)
    (line_at old c.args.k c.args.top) (line_at old c.args.k (c.args.top + 3)) c.args.plane.now refl refl
    (ap (λ b. nat_eq b 2) one) c.requires.least c.requires.whole
