use Rattle.hv_model.proofs.InterStreamLemmas.{inter_groups_decoded}
use Rattle.hv_model.proofs.inter_streams.inter_groups_are_decoded.Goals as goal

pub returns : goal.returns
returns c =
    inter_groups_decoded c.other_slices_are_read.ensures c.other_slices_are_codable.ensures
    c.slices_of_groups_are_allowed.ensures
