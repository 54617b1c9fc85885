use Rattle.std.proofs.Common.{◌*◌, ◌/◌, ◌∙◌, ap₂, pos}
use Rattle.hv_search_model.specs.MotionSearch.{vector, least_around}
use Rattle.hv_search.specs.Coarse.{block_score}
use Rattle.hv_search.specs.Windows.{plane_of_grid}
use Rattle.hv_search.proofs.BlockLemmas.{node_found_is}
use Rattle.hv_search.proofs.VectorLemmas.{coarse_within}
use Rattle.hv_search.proofs.vectors.block_vectors.Goals as goal

pub put_block-requires-clause-near : goal.put_block-requires-clause-near
put_block-requires-clause-near c =
    coarse_within (block_score (plane_of_grid c.quarter_of.result) (plane_of_grid c.quarter_of-2.result) (64 * c.args.column / 4) (64 * c.args.row / 4)) c.coarse_vector-coarse.result c.coarse_vector-coarse.ensures

pub returns-clause-has : goal.returns-clause-has
returns-clause-has c = λ n below inside.
    c.put_block.ensures.found n below inside ∙
    node_found_is c.args.effort c.args.input.luma.now c.args.reference.luma.now c.args.column c.args.row n c.coarse_vector-coarse.result below
    (c.coarse_vector-coarse.ensures ∙
    ap₂ (λ p q. least_around (block_score p q (64 * c.args.column / 4) (64 * c.args.row / 4)) 16 1 (vector (pos 0) (pos 0))) c.quarter_of.ensures.value c.quarter_of-2.ensures.value)
