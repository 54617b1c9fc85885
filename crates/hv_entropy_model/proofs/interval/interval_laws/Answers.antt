use Rattle.hv_entropy_model.proofs.IntervalLemmas.{shift_fits, cut_within}
use Rattle.hv_entropy_model.proofs.interval.interval_laws.Goals as goal

pub returns-clause-doubled : goal.returns-clause-doubled
returns-clause-doubled c = shift_fits

pub returns-clause-cut : goal.returns-clause-cut
returns-clause-cut c = cut_within
