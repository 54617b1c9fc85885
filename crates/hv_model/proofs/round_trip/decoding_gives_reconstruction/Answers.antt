use Rattle.hv_model.proofs.RoundTripLemmas.{decoding_gives}
use Rattle.hv_model.proofs.round_trip.decoding_gives_reconstruction.Goals as goal

pub returns : goal.returns
returns c =
    decoding_gives c.other_slices_are_read.ensures c.other_slices_are_codable.ensures
    c.slices_of_groups_are_allowed.ensures c.blank_pictures_are_grey.ensures
    c.flat_pictures_are_kept.ensures.shown
