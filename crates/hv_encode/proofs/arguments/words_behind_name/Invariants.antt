-- The words so far, and the arguments that are left, are all that stand behind the name.
use Rattle.std.proofs.Common.{◌≡◌, ◌++◌, drop, map, string_bytes}
use Rattle.std.specs.Vec.Iter.{into_iter_items, into_iter_len}
use Rattle.hv_encode.proofs.arguments.words_behind_name.Given as goal

abbrev pub invariant-loop-word : goal.invariant-loop-word
invariant-loop-word l =
    l.words ++ map string_bytes (into_iter_items l.arguments) ≡ map string_bytes (drop 1 (into_iter_items l.fn.arguments))

abbrev pub decreases-loop-word : goal.decreases-loop-word
decreases-loop-word l = into_iter_len l.arguments
