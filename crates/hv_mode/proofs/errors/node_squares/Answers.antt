use Rattle.hv_mode.proofs.SeenErrorLemmas.{squares_fit}
use Rattle.hv_mode.proofs.errors.node_squares.Goals as goal
use Rattle.hv_recon.proofs.NodeLemmas.{node_of_block}

pub returns-clause-fit : goal.returns-clause-fit
returns-clause-fit c =
    squares_fit c.args.task.now.place c.args.task.now.input.now c.args.size c.args.address
    c.luma_square-luma.result c.chroma_square.result
    (node_of_block c.args.size c.args.address c.requires.node)
    (record { across = c.requires.right; down = c.requires.bottom }) c.args.task.now.whole
    c.luma_square-luma.ensures c.chroma_square.ensures
