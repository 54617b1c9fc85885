use Rattle.std.proofs.Common.{◌≡◌, length, cond, nat_lt, ◌+◌, ◌%◌, ◌/◌}
use Rattle.hv_types.specs.Samples.{sample_at}
use Rattle.hv_interp.specs.Filters.{HasFirst}
use Rattle.hv_search.specs.Windows.{plane_of_grid}
use Rattle.hv_search.proofs.coarse.put_source.Given as goal

abbrev pub invariant-loop-k : goal.invariant-loop-k
invariant-loop-k l =
    (length l.source ≡ 256) ×
    HasFirst 0 l.k (λ k. cond (nat_lt (k % 16) l.columns) (sample_at (plane_of_grid l.input) (l.left + k % 16) (l.top + k / 16)) 0) l.source
