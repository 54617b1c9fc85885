use Rattle.hv_model.proofs.InterStreamLemmas.{inter_stream_decoded}
use Rattle.hv_model.proofs.inter_pictures.inter_streams_are_decoded.Goals as goal

pub returns : goal.returns
returns c =
    inter_stream_decoded c.other_slices_are_read.ensures c.other_slices_are_codable.ensures
    c.slices_of_groups_are_allowed.ensures
