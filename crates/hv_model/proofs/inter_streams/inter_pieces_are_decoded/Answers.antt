use Rattle.hv_model.proofs.InterPieceLemmas.{pieces_decoded}
use Rattle.hv_model.proofs.inter_streams.inter_pieces_are_decoded.Goals as goal

pub returns : goal.returns
returns c = pieces_decoded c.inter_groups_are_decoded.ensures
