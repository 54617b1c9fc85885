use Rattle.hv_forward.proofs.RowLaneLemmas.{low_in_turn, high_in_turn}
use Rattle.hv_forward.proofs.row_lanes.interleaved.Goals as goal

pub returns-clause-low : goal.returns-clause-low
returns-clause-low c = λ f g h k. low_in_turn f g c.args.first c.args.second h k

pub returns-clause-high : goal.returns-clause-high
returns-clause-high c = λ f g h k. high_in_turn f g c.args.first c.args.second h k
