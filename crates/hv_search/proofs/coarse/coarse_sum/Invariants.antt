use Rattle.std.proofs.Common.{◌≡◌, ◌+◌, ◌*◌, ◌≤◌, get_or}
use Rattle.std.specs.Int.{abs_diff}
use Rattle.hv_sample_model.specs.Blocks.{total_of}
use Rattle.hv_search.proofs.coarse.coarse_sum.Given as goal

abbrev pub invariant-loop-k : goal.invariant-loop-k
invariant-loop-k l =
    (l.sum ≡ total_of (4 * l.k) (λ j. total_of l.columns (λ i. abs_diff (get_or l.source (16 * j + i) 0) (get_or l.window (l.at + 48 * j + i) 0)))) ×
    (l.sum ≤ 16320 * l.k)

abbrev pub invariant-loop-j : goal.invariant-loop-j
invariant-loop-j l =
    (l.sum ≡ total_of l.j (λ j. total_of l.columns (λ i. abs_diff (get_or l.source (16 * j + i) 0) (get_or l.window (l.at + 48 * j + i) 0)))) ×
    (l.sum ≤ 16320 * l.j)
