use Rattle.hv_model.proofs.BlankChoiceLemmas.{nothing_chosen}
use Rattle.hv_model.proofs.intra_pictures.nothing_is_chosen_at_effort_zero.Goals as goal

pub returns : goal.returns
returns c =
    nothing_chosen c.blank_pictures_are_grey.ensures c.flat_pictures_are_kept.ensures.shown
