use Rattle.std.proofs.Common.{ap, ap₂, ◌+◌, ◌∙◌}
use Rattle.hv_mode.specs.NodeErrors.{errors_by_rows}
use Rattle.hv_mode.specs.Vectors.{references_of}
use Rattle.hv_mode.proofs.SeenErrorLemmas.{node_errors_seen}
use Rattle.hv_mode.proofs.errors.node_errors.Goals as goal
use Rattle.hv_recon.proofs.NodeLemmas.{node_of_block}

pub returns-clause-value : goal.returns-clause-value
returns-clause-value c = λ d seen.
    let input = c.args.task.now.input.now in
    let luma = c.node_squares.result.luma in
    let chroma = c.node_squares.result.chroma in
    ap₂ (λ a b. a + b)
    (c.from.ensures ∙ c.square_errors.ensures ∙
    ap (λ own. errors_by_rows 64 input.luma own luma) c.luma.ensures.value)
    (ap₂ (λ a b. a + b)
    (c.from-2.ensures ∙ c.square_errors-2.ensures ∙
    ap (λ own. errors_by_rows 32 input.cb own chroma) c.cb.ensures.value)
    (c.from-3.ensures ∙ c.square_errors-3.ensures ∙
    ap (λ own. errors_by_rows 32 input.cr own chroma) c.cr.ensures.value)) ∙
    node_errors_seen c.args.task.now.place c.args.task.now.near.now c.args.samples.now input d
    (references_of c.args.task.now) c.args.size c.args.address
    (node_of_block c.args.size c.args.address c.requires.node)
    (record { across = c.requires.right; down = c.requires.bottom }) seen luma chroma
    c.node_squares.ensures.luma c.node_squares.ensures.chroma
