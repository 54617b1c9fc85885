use Rattle.hv_pieces.proofs.PieceLemmas.{streams_are_joined}
use Rattle.hv_pieces.proofs.streams_are_joined.Goals as goal

pub returns : goal.returns
returns c = streams_are_joined c.inter_encoding_appends.ensures
