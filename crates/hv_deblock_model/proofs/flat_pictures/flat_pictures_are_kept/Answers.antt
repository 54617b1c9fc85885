use Rattle.hv_deblock_model.proofs.FlatLemmas.{flat_kept, flat_shown}
use Rattle.hv_deblock_model.proofs.flat_pictures.flat_pictures_are_kept.Goals as goal

pub returns : goal.returns
returns c = record { deblocked = flat_kept; shown = flat_shown }
