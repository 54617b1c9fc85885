use Rattle.hv_mode_model.proofs.IntraAloneLemmas.{alone_where_nothing_found}
use Rattle.hv_mode_model.proofs.mode_laws.nothing_found_is_intra_alone.Goals as goal

pub returns : goal.returns
returns c = alone_where_nothing_found
