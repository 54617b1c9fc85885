use Rattle.hv_deblock_model.proofs.InsideLemmas.{differences_do_not_count}
use Rattle.hv_deblock_model.proofs.squares_inside.differences_of_vectors_do_not_count.Goals as goal

pub returns : goal.returns
returns c = differences_do_not_count
