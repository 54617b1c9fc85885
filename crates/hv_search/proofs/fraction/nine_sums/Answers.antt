use Rattle.std.proofs.Common.{◌-◌, sym, subst, arith}
use Rattle.hv_search_model.specs.MotionSearch.{times}
use Rattle.hv_search.specs.Field.{IsNear}
use Rattle.hv_search.proofs.FieldLemmas.{around_near}
use Rattle.hv_search.proofs.fraction.nine_sums.Goals as goal

pub sum_at-requires-clause-near : goal.sum_at-requires-clause-near
sum_at-requires-clause-near c =
    subst (IsNear 35 (times 4 c.args.field.centre)) (sym c.candidate-mv.ensures)
    (around_near (35 - c.args.step) 35 c.args.step c.loop-t.t (times 4 c.args.field.centre) c.args.centre c.requires.step
    c.loop-t-test.true (omega (arith, c.requires.step)) c.requires.near)
