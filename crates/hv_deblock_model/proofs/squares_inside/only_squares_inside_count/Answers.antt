use Rattle.hv_deblock_model.proofs.InsideLemmas.{inside_counts}
use Rattle.hv_deblock_model.proofs.squares_inside.only_squares_inside_count.Goals as goal

pub returns : goal.returns
returns c = inside_counts
