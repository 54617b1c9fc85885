use Rattle.std.proofs.Common.{◌∙◌, ap, subst, sym, arith}
use Rattle.hv_search_model.specs.MotionSearch.{least_around, times, Score}
use Rattle.hv_search.specs.Fraction.{IsLeastAround}
use Rattle.hv_search.specs.Field.{IsNear, part_score}
use Rattle.hv_search.proofs.FieldLemmas.{least_near, near_within}
use Rattle.hv_search.proofs.fraction.quarter_vector.Goals as goal

pub nine_sums-sums-requires-2-clause-near : goal.nine_sums-sums-requires-2-clause-near
nine_sums-sums-requires-2-clause-near c =
    let score : Score = part_score c.args.field c.args.part in
    let half : IsLeastAround score 2 c.args.whole c.least_of_nine.result = c.least_of_nine.ensures score c.nine_sums-sums.ensures in
    subst (IsNear 34 (times 4 c.args.field.centre)) (sym half.is)
    (least_near score 32 34 2 (times 4 c.args.field.centre) c.args.whole (omega arith) (omega arith) c.requires.near)

pub least_of_nine-requires-2-clause-near : goal.least_of_nine-requires-2-clause-near
least_of_nine-requires-2-clause-near c =
    let score : Score = part_score c.args.field c.args.part in
    let half : IsLeastAround score 2 c.args.whole c.least_of_nine.result = c.least_of_nine.ensures score c.nine_sums-sums.ensures in
    near_within 34 c.args.field.centre c.least_of_nine.result.mv (omega arith) c.args.field.near
    (subst (IsNear 34 (times 4 c.args.field.centre)) (sym half.is)
    (least_near score 32 34 2 (times 4 c.args.field.centre) c.args.whole (omega arith) (omega arith) c.requires.near))

pub returns : goal.returns
returns c =
    let score : Score = part_score c.args.field c.args.part in
    let half : IsLeastAround score 2 c.args.whole c.least_of_nine.result = c.least_of_nine.ensures score c.nine_sums-sums.ensures in
    let last : IsLeastAround score 1 c.least_of_nine.result.mv c.least_of_nine-2.result = c.least_of_nine-2.ensures score c.nine_sums-sums-2.ensures in
    last.is ∙ ap (least_around score 1 1) half.is
