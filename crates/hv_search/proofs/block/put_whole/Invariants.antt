use Rattle.std.proofs.Common.{◌≡◌, ◌%◌, length, get_or}
use Rattle.hv_interp.specs.Filters.{HasFirst}
use Rattle.hv_search_model.specs.MotionSearch.{times}
use Rattle.hv_search.specs.Numbers.{full_candidate, no_vector}
use Rattle.hv_search.proofs.block.put_whole.Given as goal

abbrev pub invariant-loop-n : goal.invariant-loop-n
invariant-loop-n l =
    (length l.vectors ≡ 85) ×
    HasFirst no_vector l.n (λ n. times 4 (full_candidate l.centre (get_or l.keys n 0 % 512))) l.vectors
