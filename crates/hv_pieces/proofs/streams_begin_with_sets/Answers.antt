use Rattle.hv_pieces.proofs.PieceLemmas.{streams_begin_with_sets}
use Rattle.hv_pieces.proofs.streams_begin_with_sets.Goals as goal

pub returns : goal.returns
returns c = streams_begin_with_sets
