use Rattle.hv_model.proofs.BlankChoiceLemmas.{videos_blank}
use Rattle.hv_model.proofs.intra_pictures.videos_are_blank_at_effort_zero.Goals as goal

pub returns : goal.returns
returns c =
    videos_blank c.blank_pictures_are_grey.ensures c.flat_pictures_are_kept.ensures.shown
