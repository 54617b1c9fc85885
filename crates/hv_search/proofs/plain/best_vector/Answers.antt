use Rattle.std.proofs.Common.{◌≡◌, ℕ, ◌∙◌, ap, sym, subst, refl, arith, pos}
use Rattle.hv_plan.specs.declared.prediction.Mv.{Mv}
use Rattle.hv_types.specs.Samples.{Plane}
use Rattle.hv_search_model.specs.MotionSearch.{vector, times, least_around, Score, coarse_score, full_score, fractional_score, scores_of, whole_vector}
use Rattle.hv_search_model.specs.MotionLaws.{IsWithin}
use Rattle.hv_search_model.proofs.ReachLemmas.{least_around_within}
use Rattle.hv_search.specs.Windows.{plane_of_grid}
use Rattle.hv_search.specs.Fraction.{IsLeastAround}
use Rattle.hv_search.proofs.BlockLemmas.{times_4_within}
use Rattle.hv_search.proofs.VectorLemmas.{coarse_within}
use Rattle.hv_search.proofs.FractionLemmas.{longer}
use Rattle.hv_search.proofs.PlainLemmas.{coarse_is, full_is, shown_within, whole_within, best_low, best_high}
use Rattle.hv_search.proofs.plain.best_vector.Goals as goal

module _ (input reference : Plane) (x y side : ℕ) (coarse full whole : Mv)
    (a : coarse ≡ least_around (coarse_score input reference x y) 16 1 (vector (pos 0) (pos 0)))
    (d : full ≡ least_around (full_score input reference x y side) 8 1 (times 4 coarse))
    (e : whole ≡ times 4 full) where
  near_coarse : IsWithin 16 coarse
  near_coarse = coarse_within (coarse_score input reference x y) coarse a

  near_full : IsWithin 72 full
  near_full = shown_within (full_score input reference x y side) (times 4 coarse) full (times_4_within coarse near_coarse) d

  near_whole : IsWithin 288 whole
  near_whole = whole_within full whole near_full e

  whole_is : whole ≡ whole_vector (scores_of input reference x y side)
  whole_is = e ∙ ap (times 4) (d ∙ ap (λ v. least_around (full_score input reference x y side) 8 1 (times 4 v)) a)

pub quadrupled-requires : goal.quadrupled-requires
quadrupled-requires c =
    let input : Plane = c.args.input.luma.now in
    let reference : Plane = c.args.reference.luma.now in
    let x : ℕ = c.args.square.x in
    let y : ℕ = c.args.square.y in
    let coarse : Mv = c.least_whole-coarse.result in
    let a : coarse ≡ least_around (coarse_score input reference x y) 16 1 (vector (pos 0) (pos 0)) =
    c.least_whole-coarse.ensures ∙
    coarse_is input reference (plane_of_grid c.quarter_of-small.result) (plane_of_grid c.quarter_of-small_reference.result) x y c.min-columns.result c.min-rows.result
    c.quarter_of-small.ensures.value c.quarter_of-small_reference.ensures.value (omega (arith, c.min-columns.ensures)) (omega (arith, c.min-rows.ensures)) in
    longer 16 600 coarse (omega arith) (coarse_within (coarse_score input reference x y) coarse a)

pub least_whole-full-requires-clause-near : goal.least_whole-full-requires-clause-near
least_whole-full-requires-clause-near c =
    let input : Plane = c.args.input.luma.now in
    let reference : Plane = c.args.reference.luma.now in
    let x : ℕ = c.args.square.x in
    let y : ℕ = c.args.square.y in
    let coarse : Mv = c.least_whole-coarse.result in
    let a : coarse ≡ least_around (coarse_score input reference x y) 16 1 (vector (pos 0) (pos 0)) =
    c.least_whole-coarse.ensures ∙
    coarse_is input reference (plane_of_grid c.quarter_of-small.result) (plane_of_grid c.quarter_of-small_reference.result) x y c.min-columns.result c.min-rows.result
    c.quarter_of-small.ensures.value c.quarter_of-small_reference.ensures.value (omega (arith, c.min-columns.ensures)) (omega (arith, c.min-rows.ensures)) in
    subst (IsWithin 64) (sym c.quadrupled.ensures) (times_4_within coarse (coarse_within (coarse_score input reference x y) coarse a))

pub quadrupled-whole-requires : goal.quadrupled-whole-requires
quadrupled-whole-requires c =
    let input : Plane = c.args.input.luma.now in
    let reference : Plane = c.args.reference.luma.now in
    let x : ℕ = c.args.square.x in
    let y : ℕ = c.args.square.y in
    let coarse : Mv = c.least_whole-coarse.result in
    let a : coarse ≡ least_around (coarse_score input reference x y) 16 1 (vector (pos 0) (pos 0)) =
    c.least_whole-coarse.ensures ∙
    coarse_is input reference (plane_of_grid c.quarter_of-small.result) (plane_of_grid c.quarter_of-small_reference.result) x y c.min-columns.result c.min-rows.result
    c.quarter_of-small.ensures.value c.quarter_of-small_reference.ensures.value (omega (arith, c.min-columns.ensures)) (omega (arith, c.min-rows.ensures)) in
    let side : ℕ = c.args.square.side in
    let full : Mv = c.least_whole-full.result in
    let d : full ≡ least_around (full_score input reference x y side) 8 1 (times 4 coarse) =
    c.least_whole-full.ensures ∙
    full_is input reference (plane_of_grid c.grid_of-grid.result) (plane_of_grid c.grid_of-reference_grid.result) x y side c.from-side.result (times 4 coarse) c.quadrupled.result
    c.grid_of-grid.ensures c.grid_of-reference_grid.ensures c.from-side.ensures c.quadrupled.ensures in
    longer 72 600 full (omega arith) (near_full input reference x y side coarse full (times 4 full) a d refl)

pub returns-then-effort-lt2 : goal.returns-then-effort-lt2
returns-then-effort-lt2 c =
    let input : Plane = c.args.input.luma.now in
    let reference : Plane = c.args.reference.luma.now in
    let x : ℕ = c.args.square.x in
    let y : ℕ = c.args.square.y in
    let coarse : Mv = c.least_whole-coarse.result in
    let a : coarse ≡ least_around (coarse_score input reference x y) 16 1 (vector (pos 0) (pos 0)) =
    c.least_whole-coarse.ensures ∙
    coarse_is input reference (plane_of_grid c.quarter_of-small.result) (plane_of_grid c.quarter_of-small_reference.result) x y c.min-columns.result c.min-rows.result
    c.quarter_of-small.ensures.value c.quarter_of-small_reference.ensures.value (omega (arith, c.min-columns.ensures)) (omega (arith, c.min-rows.ensures)) in
    let side : ℕ = c.args.square.side in
    let full : Mv = c.least_whole-full.result in
    let d : full ≡ least_around (full_score input reference x y side) 8 1 (times 4 coarse) =
    c.least_whole-full.ensures ∙
    full_is input reference (plane_of_grid c.grid_of-grid.result) (plane_of_grid c.grid_of-reference_grid.result) x y side c.from-side.result (times 4 coarse) c.quadrupled.result
    c.grid_of-grid.ensures c.grid_of-reference_grid.ensures c.from-side.ensures c.quadrupled.ensures in
    best_low c.args.effort (scores_of input reference x y side) c.quadrupled-whole.result c.if-effort-lt2.true
    (whole_is input reference x y side coarse full c.quadrupled-whole.result a d c.quadrupled-whole.ensures)

pub nine_sums-sums-requires-clause-near : goal.nine_sums-sums-requires-clause-near
nine_sums-sums-requires-clause-near c =
    let input : Plane = c.args.input.luma.now in
    let reference : Plane = c.args.reference.luma.now in
    let x : ℕ = c.args.square.x in
    let y : ℕ = c.args.square.y in
    let coarse : Mv = c.least_whole-coarse.result in
    let a : coarse ≡ least_around (coarse_score input reference x y) 16 1 (vector (pos 0) (pos 0)) =
    c.least_whole-coarse.ensures ∙
    coarse_is input reference (plane_of_grid c.quarter_of-small.result) (plane_of_grid c.quarter_of-small_reference.result) x y c.min-columns.result c.min-rows.result
    c.quarter_of-small.ensures.value c.quarter_of-small_reference.ensures.value (omega (arith, c.min-columns.ensures)) (omega (arith, c.min-rows.ensures)) in
    let side : ℕ = c.args.square.side in
    let full : Mv = c.least_whole-full.result in
    let d : full ≡ least_around (full_score input reference x y side) 8 1 (times 4 coarse) =
    c.least_whole-full.ensures ∙
    full_is input reference (plane_of_grid c.grid_of-grid.result) (plane_of_grid c.grid_of-reference_grid.result) x y side c.from-side.result (times 4 coarse) c.quadrupled.result
    c.grid_of-grid.ensures c.grid_of-reference_grid.ensures c.from-side.ensures c.quadrupled.ensures in
    let score : Score = fractional_score input reference x y side in
    let whole : Mv = c.quadrupled-whole.result in
    let near : IsWithin 288 whole = near_whole input reference x y side coarse full whole a d c.quadrupled-whole.ensures in
    longer 288 30000 whole (omega arith) near

pub least_of_nine-requires-clause-near : goal.least_of_nine-requires-clause-near
least_of_nine-requires-clause-near c =
    let input : Plane = c.args.input.luma.now in
    let reference : Plane = c.args.reference.luma.now in
    let x : ℕ = c.args.square.x in
    let y : ℕ = c.args.square.y in
    let coarse : Mv = c.least_whole-coarse.result in
    let a : coarse ≡ least_around (coarse_score input reference x y) 16 1 (vector (pos 0) (pos 0)) =
    c.least_whole-coarse.ensures ∙
    coarse_is input reference (plane_of_grid c.quarter_of-small.result) (plane_of_grid c.quarter_of-small_reference.result) x y c.min-columns.result c.min-rows.result
    c.quarter_of-small.ensures.value c.quarter_of-small_reference.ensures.value (omega (arith, c.min-columns.ensures)) (omega (arith, c.min-rows.ensures)) in
    let side : ℕ = c.args.square.side in
    let full : Mv = c.least_whole-full.result in
    let d : full ≡ least_around (full_score input reference x y side) 8 1 (times 4 coarse) =
    c.least_whole-full.ensures ∙
    full_is input reference (plane_of_grid c.grid_of-grid.result) (plane_of_grid c.grid_of-reference_grid.result) x y side c.from-side.result (times 4 coarse) c.quadrupled.result
    c.grid_of-grid.ensures c.grid_of-reference_grid.ensures c.from-side.ensures c.quadrupled.ensures in
    let score : Score = fractional_score input reference x y side in
    let whole : Mv = c.quadrupled-whole.result in
    let near : IsWithin 288 whole = near_whole input reference x y side coarse full whole a d c.quadrupled-whole.ensures in
    longer 288 30000 whole (omega arith) near

pub nine_sums-sums-requires-2-clause-near : goal.nine_sums-sums-requires-2-clause-near
nine_sums-sums-requires-2-clause-near c =
    let input : Plane = c.args.input.luma.now in
    let reference : Plane = c.args.reference.luma.now in
    let x : ℕ = c.args.square.x in
    let y : ℕ = c.args.square.y in
    let coarse : Mv = c.least_whole-coarse.result in
    let a : coarse ≡ least_around (coarse_score input reference x y) 16 1 (vector (pos 0) (pos 0)) =
    c.least_whole-coarse.ensures ∙
    coarse_is input reference (plane_of_grid c.quarter_of-small.result) (plane_of_grid c.quarter_of-small_reference.result) x y c.min-columns.result c.min-rows.result
    c.quarter_of-small.ensures.value c.quarter_of-small_reference.ensures.value (omega (arith, c.min-columns.ensures)) (omega (arith, c.min-rows.ensures)) in
    let side : ℕ = c.args.square.side in
    let full : Mv = c.least_whole-full.result in
    let d : full ≡ least_around (full_score input reference x y side) 8 1 (times 4 coarse) =
    c.least_whole-full.ensures ∙
    full_is input reference (plane_of_grid c.grid_of-grid.result) (plane_of_grid c.grid_of-reference_grid.result) x y side c.from-side.result (times 4 coarse) c.quadrupled.result
    c.grid_of-grid.ensures c.grid_of-reference_grid.ensures c.from-side.ensures c.quadrupled.ensures in
    let score : Score = fractional_score input reference x y side in
    let whole : Mv = c.quadrupled-whole.result in
    let near : IsWithin 288 whole = near_whole input reference x y side coarse full whole a d c.quadrupled-whole.ensures in
    let half : IsLeastAround score 2 whole c.least_of_nine.result = c.least_of_nine.ensures score c.nine_sums-sums.ensures in
    let near_half : IsWithin 290 c.least_of_nine.result.mv = subst (IsWithin 290) (sym half.is) (least_around_within score 288 1 2 whole near) in
    longer 290 30000 c.least_of_nine.result.mv (omega arith) near_half

pub least_of_nine-requires-2-clause-near : goal.least_of_nine-requires-2-clause-near
least_of_nine-requires-2-clause-near c =
    let input : Plane = c.args.input.luma.now in
    let reference : Plane = c.args.reference.luma.now in
    let x : ℕ = c.args.square.x in
    let y : ℕ = c.args.square.y in
    let coarse : Mv = c.least_whole-coarse.result in
    let a : coarse ≡ least_around (coarse_score input reference x y) 16 1 (vector (pos 0) (pos 0)) =
    c.least_whole-coarse.ensures ∙
    coarse_is input reference (plane_of_grid c.quarter_of-small.result) (plane_of_grid c.quarter_of-small_reference.result) x y c.min-columns.result c.min-rows.result
    c.quarter_of-small.ensures.value c.quarter_of-small_reference.ensures.value (omega (arith, c.min-columns.ensures)) (omega (arith, c.min-rows.ensures)) in
    let side : ℕ = c.args.square.side in
    let full : Mv = c.least_whole-full.result in
    let d : full ≡ least_around (full_score input reference x y side) 8 1 (times 4 coarse) =
    c.least_whole-full.ensures ∙
    full_is input reference (plane_of_grid c.grid_of-grid.result) (plane_of_grid c.grid_of-reference_grid.result) x y side c.from-side.result (times 4 coarse) c.quadrupled.result
    c.grid_of-grid.ensures c.grid_of-reference_grid.ensures c.from-side.ensures c.quadrupled.ensures in
    let score : Score = fractional_score input reference x y side in
    let whole : Mv = c.quadrupled-whole.result in
    let near : IsWithin 288 whole = near_whole input reference x y side coarse full whole a d c.quadrupled-whole.ensures in
    let half : IsLeastAround score 2 whole c.least_of_nine.result = c.least_of_nine.ensures score c.nine_sums-sums.ensures in
    let near_half : IsWithin 290 c.least_of_nine.result.mv = subst (IsWithin 290) (sym half.is) (least_around_within score 288 1 2 whole near) in
    longer 290 30000 c.least_of_nine.result.mv (omega arith) near_half

pub returns : goal.returns
returns c =
    let input : Plane = c.args.input.luma.now in
    let reference : Plane = c.args.reference.luma.now in
    let x : ℕ = c.args.square.x in
    let y : ℕ = c.args.square.y in
    let coarse : Mv = c.least_whole-coarse.result in
    let a : coarse ≡ least_around (coarse_score input reference x y) 16 1 (vector (pos 0) (pos 0)) =
    c.least_whole-coarse.ensures ∙
    coarse_is input reference (plane_of_grid c.quarter_of-small.result) (plane_of_grid c.quarter_of-small_reference.result) x y c.min-columns.result c.min-rows.result
    c.quarter_of-small.ensures.value c.quarter_of-small_reference.ensures.value (omega (arith, c.min-columns.ensures)) (omega (arith, c.min-rows.ensures)) in
    let side : ℕ = c.args.square.side in
    let full : Mv = c.least_whole-full.result in
    let d : full ≡ least_around (full_score input reference x y side) 8 1 (times 4 coarse) =
    c.least_whole-full.ensures ∙
    full_is input reference (plane_of_grid c.grid_of-grid.result) (plane_of_grid c.grid_of-reference_grid.result) x y side c.from-side.result (times 4 coarse) c.quadrupled.result
    c.grid_of-grid.ensures c.grid_of-reference_grid.ensures c.from-side.ensures c.quadrupled.ensures in
    let score : Score = fractional_score input reference x y side in
    let whole : Mv = c.quadrupled-whole.result in
    let near : IsWithin 288 whole = near_whole input reference x y side coarse full whole a d c.quadrupled-whole.ensures in
    let half : IsLeastAround score 2 whole c.least_of_nine.result = c.least_of_nine.ensures score c.nine_sums-sums.ensures in
    let near_half : IsWithin 290 c.least_of_nine.result.mv = subst (IsWithin 290) (sym half.is) (least_around_within score 288 1 2 whole near) in
    let last : IsLeastAround score 1 c.least_of_nine.result.mv c.least_of_nine-2.result = c.least_of_nine-2.ensures score c.nine_sums-sums-2.ensures in
    best_high c.args.effort (scores_of input reference x y side) c.least_of_nine-2.result.mv c.if-effort-lt2.false
    (last.is ∙ ap (least_around score 1 1) (half.is ∙ ap (least_around score 1 2)
    (whole_is input reference x y side coarse full whole a d c.quadrupled-whole.ensures)))
