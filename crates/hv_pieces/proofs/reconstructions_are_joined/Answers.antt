use Rattle.hv_pieces.proofs.PieceLemmas.{reconstructions_are_joined}
use Rattle.hv_pieces.proofs.reconstructions_are_joined.Goals as goal

pub returns : goal.returns
returns c = reconstructions_are_joined c.inter_reconstruction_appends.ensures
