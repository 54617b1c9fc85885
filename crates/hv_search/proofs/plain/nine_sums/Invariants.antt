use Rattle.std.proofs.Common.{◌≡◌, length}
use Rattle.hv_search_model.specs.MotionSearch.{fractional_score}
use Rattle.hv_search.specs.Fraction.{AreScores}
use Rattle.hv_search.proofs.plain.nine_sums.Given as goal

abbrev pub invariant-loop-t : goal.invariant-loop-t
invariant-loop-t l =
    (length l.sums ≡ 9) ×
    AreScores (fractional_score l.fn.input l.fn.reference l.fn.square.x l.fn.square.y l.fn.square.side) l.fn.step l.fn.centre l.t l.sums
