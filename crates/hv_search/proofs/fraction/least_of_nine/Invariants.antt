use Rattle.hv_search_model.specs.MotionSearch.{Score}
use Rattle.hv_search.specs.Fraction.{AreScores, IsBestOfNine}
use Rattle.hv_search.proofs.fraction.least_of_nine.Given as goal

abbrev pub invariant-loop-t : goal.invariant-loop-t
invariant-loop-t l =
    (score : Score) → AreScores score l.fn.step l.fn.centre 9 l.fn.sums →
    IsBestOfNine score l.fn.step l.fn.centre l.t l.best
