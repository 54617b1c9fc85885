use Rattle.std.proofs.Common.{◌≡◌, ℕ, ◌<◌, ◌≤◌, length, slice_index_or}
use Rattle.hv_search_model.specs.MotionSearch.{least_around}
use Rattle.hv_search.specs.Field.{node_score}
use Rattle.hv_search.specs.Numbers.{IsInside, no_vector}
use Rattle.hv_search.proofs.block.finish.Given as goal

abbrev pub invariant-loop-n : goal.invariant-loop-n
invariant-loop-n l =
    (length l.vectors ≡ 85) ×
    ((m : ℕ) → m < l.n → IsInside l.field.input.now l.field.x l.field.y m → slice_index_or l.vectors m no_vector ≡
    least_around (node_score l.field m) 1 1 (least_around (node_score l.field m) 1 2 (slice_index_or l.initial.vectors m no_vector))) ×
    ((m : ℕ) → l.n ≤ m → slice_index_or l.vectors m no_vector ≡ slice_index_or l.initial.vectors m no_vector)
