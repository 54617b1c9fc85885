use Rattle.std.proofs.Common.{◌≡◌, length}
use Rattle.hv_search.specs.Fraction.{AreScores}
use Rattle.hv_search.specs.Field.{part_score}
use Rattle.hv_search.proofs.fraction.nine_sums.Given as goal

abbrev pub invariant-loop-t : goal.invariant-loop-t
invariant-loop-t l =
    (length l.sums ≡ 9) ×
    AreScores (part_score l.field l.part) l.step l.centre l.t l.sums
