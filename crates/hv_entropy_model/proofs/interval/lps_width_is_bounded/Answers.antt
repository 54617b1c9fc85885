use Rattle.hv_entropy_model.proofs.IntervalLemmas.{lps_bounds}
use Rattle.hv_entropy_model.proofs.interval.lps_width_is_bounded.Goals as goal

pub returns : goal.returns
returns c = lps_bounds
