use Rattle.hv_model.proofs.InterPieceLemmas.{group_decoded}
use Rattle.hv_model.proofs.inter_streams.inter_group_is_decoded.Goals as goal

pub returns : goal.returns
returns c = group_decoded c.inter_groups_are_decoded.ensures
