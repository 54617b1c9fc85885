use Rattle.hv_forward.proofs.RowLaneLemmas.{sums_folded, differences_folded}
use Rattle.hv_forward.proofs.row_lanes.folded.Goals as goal

pub returns-clause-sums : goal.returns-clause-sums
returns-clause-sums c = λ most f g few h k. sums_folded most f g c.args.first c.args.second few h k

pub returns-clause-differences : goal.returns-clause-differences
returns-clause-differences c = λ most f g few h k. differences_folded most f g c.args.first c.args.second few h k
