use Rattle.std.proofs.Common.{◌+◌, ◌∙◌, sym, ap, ap₂}
use Rattle.hv_deblock_model.specs.EdgeFilters.{tc, is_filtered, is_strong, is_smooth, strong_line, normal_line}
use Rattle.hv_deblock.proofs.SegmentLemmas.{lines_as_segment, strong_edge, normal_edge, unfiltered, nothing_changes}
use Rattle.hv_deblock.specs.declared.component.Component.TheVariants.{Luma}
use Rattle.hv_deblock.proofs.segment.filter_luma.Goals as goal

pub returns-then-not-is_filtered : goal.returns-then-not-is_filtered
returns-then-not-is_filtered g c =
    let first = c.load_line-first.result in
    let last = c.load_line-last.result in
    nothing_changes Luma g.E.Edges.direction c.args.qp c.args.strength c.args.k c.args.top (c.args.top + 4) first last c.args.plane.now
    c.load_line-first.ensures c.load_line-last.ensures
    (unfiltered c.args.qp c.args.strength first last
    (sym (c.is_filtered.ensures ∙ ap (λ b. is_filtered b first last) c.beta-beta.ensures.value) ∙ c.if-not-is_filtered.true))
    c.requires.least c.requires.whole

pub returns-then-is_strong : goal.returns-then-is_strong
returns-then-is_strong g c =
    let first = c.load_line-first.result in
    let last = c.load_line-last.result in
    lines_as_segment Luma g.E.Edges.direction c.args.qp c.args.strength c.args.k c.args.top (c.args.top + 4) (strong_line c.tc-tc.result)
    first last c.args.plane.now c.filter_lines.new.plane c.load_line-first.ensures c.load_line-last.ensures
    (λ line.
    ap (λ t. strong_line t line) c.tc-tc.ensures.value
    ∙ strong_edge c.args.qp c.args.strength first last c.requires.some
    (sym (c.is_filtered.ensures ∙ ap (λ b. is_filtered b first last) c.beta-beta.ensures.value) ∙ c.if-not-is_filtered.false)
    (sym (c.is_strong.ensures ∙ ap₂ (λ b t. is_strong b t first last) c.beta-beta.ensures.value c.tc-tc.ensures.value) ∙ c.if-is_strong.true)
    line)
    c.filter_lines.ensures

pub returns-else-is_strong : goal.returns-else-is_strong
returns-else-is_strong g c =
    let first = c.load_line-first.result in
    let last = c.load_line-last.result in
    let smooth_p = c.is_smooth-smooth_p.result in
    let smooth_q = c.is_smooth-smooth_q.result in
    lines_as_segment Luma g.E.Edges.direction c.args.qp c.args.strength c.args.k c.args.top (c.args.top + 4)
    (normal_line c.tc-tc.result smooth_p smooth_q)
    first last c.args.plane.now c.filter_lines-else-is_strong.new.plane c.load_line-first.ensures c.load_line-last.ensures
    (λ line.
    ap (λ t. normal_line t smooth_p smooth_q line) c.tc-tc.ensures.value
    ∙ ap₂ (λ p q. normal_line (tc c.args.qp c.args.strength) p q line)
    (c.is_smooth-smooth_p.ensures ∙ ap (λ b. is_smooth b first.p last.p) c.beta-beta.ensures.value)
    (c.is_smooth-smooth_q.ensures ∙ ap (λ b. is_smooth b first.q last.q) c.beta-beta.ensures.value)
    ∙ normal_edge c.args.qp c.args.strength first last c.requires.some
    (sym (c.is_filtered.ensures ∙ ap (λ b. is_filtered b first last) c.beta-beta.ensures.value) ∙ c.if-not-is_filtered.false)
    (sym (c.is_strong.ensures ∙ ap₂ (λ b t. is_strong b t first last) c.beta-beta.ensures.value c.tc-tc.ensures.value) ∙ c.if-is_strong.false)
    line)
    c.filter_lines-else-is_strong.ensures
