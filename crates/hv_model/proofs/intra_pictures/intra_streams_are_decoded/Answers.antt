use Rattle.hv_model.proofs.IntraStreamLemmas.{intra_stream_decoded}
use Rattle.hv_model.proofs.intra_pictures.intra_streams_are_decoded.Goals as goal

pub returns : goal.returns
returns c =
    intra_stream_decoded c.other_slices_are_read.ensures c.other_slices_are_codable.ensures
    c.slices_of_groups_are_allowed.ensures
