-- The vectors of a picture, block by block.
use Rattle.std.proofs.Common.{◌≡◌, ℕ, ◌+◌, ◌*◌, ◌/◌, ◌%◌, ◌<◌, ◌≤◌, List, ◌++◌, length, slice_index_or, arith, sym, subst, ap, ap₂, ◌∙◌, length-append, pos}
use mathlib.Core.Logic.{◌⊎◌, inl, inr}
use Rattle.std.proofs.lemmas.Bool.{cases_lt}
use Rattle.std.proofs.lemmas.List.{get_or_append_left, get_or-append_right}
use Rattle.hv_types.specs.Samples.{Plane}
use Rattle.hv_plan.specs.declared.prediction.Mv.{Mv}
use Rattle.hv_filter_model.specs.Blocks.{luma_side, blocks_over}
use Rattle.hv_search_model.specs.MotionSearch.{vector, Score, least_around}
use Rattle.hv_search_model.specs.MotionLaws.{IsWithin}
use Rattle.hv_search_model.proofs.ReachLemmas.{least_around_within}
use Rattle.hv_search.specs.Numbers.{IsInside, no_vector}
use Rattle.hv_search.specs.Vectors.{best_of_node, IsAppended, AreVectors}

-- a vector of the coarse stage
pub coarse_within : (score : Score) (coarse : Mv) → coarse ≡ least_around score 16 1 (vector (pos 0) (pos 0)) → IsWithin 16 coarse
coarse_within score coarse is =
    subst (IsWithin 16) (sym is)
    (least_around_within score 0 16 1 (vector (pos 0) (pos 0)) (record { across = omega arith; down = omega arith }))

-- one block more
pub vectors_more : (effort : ℕ) (input reference : Plane) (index column row : ℕ) (old new : List Mv) →
    AreVectors effort input reference index old → column ≡ index % blocks_over luma_side input.width →
    row ≡ index / blocks_over luma_side input.width → IsAppended effort input reference column row old new →
    AreVectors effort input reference (index + 1) new
vectors_more effort input reference index column row old new before across down more = record {
  long = ap (λ l. length l) more.is ∙ length-append old more.block ∙ omega (arith, before.long, more.count);
  each = λ i n below within inside. ap (λ l. slice_index_or l (85 * i + n) no_vector) more.is ∙ by_block i n below within inside (cases_lt i index);
}
  where
    across_of : ℕ
    across_of = blocks_over luma_side input.width

    Wanted : ℕ → ℕ → Type 0
    Wanted i n = slice_index_or (old ++ more.block) (85 * i + n) no_vector ≡ best_of_node effort input reference (i % across_of) (i / across_of) n

    by_block : (i n : ℕ) → i < index + 1 → n < 85 → IsInside input (64 * (i % across_of)) (64 * (i / across_of)) n →
        (i < index) ⊎ (index ≤ i) → Wanted i n
    by_block i n below within inside (inl less) =
        get_or_append_left old more.block no_vector (85 * i + n) (omega (arith, before.long, less, within)) ∙
        before.each i n less within inside
    by_block i n below within inside (inr last) =
        let here : index ≡ i = omega (arith, below, last) in
        let column_is : column ≡ i % across_of = across ∙ ap (λ k. k % across_of) here in
        let row_is : row ≡ i / across_of = down ∙ ap (λ k. k / across_of) here in
        let inside_here : IsInside input (64 * column) (64 * row) n =
        subst (λ a. IsInside input (64 * a) (64 * row) n) (sym column_is) (subst (λ b. IsInside input (64 * (i % across_of)) (64 * b) n) (sym row_is) inside) in
        get_or-append_right old more.block (85 * index) (85 * i + n) no_vector before.long (omega (arith, here)) ∙
        ap (λ k. slice_index_or more.block k no_vector) (omega (arith, here)) ∙
        more.has n within inside_here ∙
        ap₂ (λ a b. best_of_node effort input reference a b n) column_is row_is
