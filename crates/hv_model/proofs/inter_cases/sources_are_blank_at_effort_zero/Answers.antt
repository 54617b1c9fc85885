use Rattle.hv_model.proofs.BlankCaseLemmas.{sources_blank}
use Rattle.hv_model.proofs.inter_cases.sources_are_blank_at_effort_zero.Goals as goal

pub returns : goal.returns
returns c = sources_blank c.blank_pictures_are_grey.ensures c.flat_pictures_are_kept.ensures.shown
