use Rattle.hv_pieces.proofs.PieceLemmas.{many_streams_are_joined}
use Rattle.hv_pieces.proofs.many_streams_are_joined.Goals as goal

pub returns : goal.returns
returns c = many_streams_are_joined c.streams_are_joined.ensures
