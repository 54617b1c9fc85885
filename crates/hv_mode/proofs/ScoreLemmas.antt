-- Scores of modes: those of the definition are those by blocks of samples.
use Rattle.std.proofs.Common.{◌≡◌, ℕ, suc, ◌+◌, ◌*◌, ◌<◌, ◌≤◌, Bool, true, false, cond, List, [], ◌∷◌, ◌++◌, length, map, sum, refl, sym, ap, ap₂, ◌∙◌, arith, pos, get_or, ltb-true, ◌^◌}
use Rattle.std.specs.Prelude.{◌-ℤ◌, nat_lt, slice_index_or}
use Rattle.std.specs.List.{fold}
use Rattle.std.specs.Int.{abs_diff}
use Rattle.std.specs.Int.RustNames.{unsigned_abs}
use Rattle.std.proofs.lemmas.Int.{ints}
use Rattle.hv_sample_model.specs.IntraPrediction.{predicted, substituted}
use Rattle.hv_tree_model.specs.Trees.{log2TrafoSize}
use Rattle.hv_tree_model.specs.MostProbableModes.{planar}
use Rattle.hv_recon_model.specs.Reconstruction.{neighbours}
use Rattle.hv_filter_model.specs.Costs.{first_least}
use Rattle.hv_mode_model.specs.ModeDecision.{differences, block_samples, first_block, further_modes, score, luma_mode, mode_bins, mode_bin_weight}
use Rattle.hv_kernel.specs.Differences.{sad_of}
use Rattle.hv_lemmas.specs.Lists.{tabulate}
use Rattle.hv_lemmas.proofs.ListLemmas.{tabulate_push}
use Rattle.hv_lemmas.proofs.ComputedLemmas.{holds_below}
use Rattle.hv_filter_model.proofs.CostLemmas.{first_least_push, first_least_same}
use Rattle.hv_mode.specs.declared.luma_mode.Scored.{Scored}
use Rattle.hv_mode.specs.LumaModes.{further_count, further_mode, LumaModesAreThoseOfBlocks}

-- the size of a difference
size_of_difference : (a b : ℕ) → unsigned_abs (pos a -ℤ pos b) ≡ abs_diff a b
size_of_difference a b = omega (arith, ints)

sum_from : (a : ℕ) (xs : List ℕ) → fold ◌+◌ a xs ≡ a + sum xs
sum_from a [] = omega arith
sum_from a (x ∷ xs) =
    let first : sum (x ∷ xs) ≡ x + sum xs = sum_from (0 + x) xs ∙ omega arith in
    sum_from (a + x) xs ∙ omega (arith, first)

pub sad_is : (xs ys : List ℕ) → sum (map unsigned_abs (differences xs ys)) ≡ sad_of xs ys
sad_is [] ys = refl
sad_is (x ∷ xs) [] = refl
sad_is (x ∷ xs) (y ∷ ys) =
    sum_from (0 + unsigned_abs (pos x -ℤ pos y)) (map unsigned_abs (differences xs ys)) ∙
    omega (arith, size_of_difference x y, sad_is xs ys)

pub modes_of_blocks : LumaModesAreThoseOfBlocks
unfolding luma_mode score
modes_of_blocks g size address before =
    first_least_same (score g size address before) _ planar (further_modes g.effort)
    (λ mode. ap (λ n. n + mode_bins g address before mode * mode_bin_weight g.qp)
    (sad_is (block_samples g.input.luma (first_block g size address))
    (predicted (log2TrafoSize size) mode true
    (substituted (neighbours before.decoded.luma (first_block g size address))))))

-- ---- bounds

sum_most : (xs ys : List ℕ) → ((k : ℕ) → get_or xs k 0 < 256) → ((k : ℕ) → get_or ys k 0 < 256) →
    sad_of xs ys ≤ 255 * length xs
sum_most [] ys few many = omega arith
sum_most (x ∷ xs) [] few many = omega arith
sum_most (x ∷ xs) (y ∷ ys) few many =
    let rest : sad_of xs ys ≤ 255 * length xs =
    sum_most xs ys (λ k. few (suc k)) (λ k. many (suc k)) in
    omega (arith, ints, few 0, many 0, rest)

pub sad_most : (xs ys : List ℕ) → ((k : ℕ) → get_or xs k 0 < 256) →
    ((k : ℕ) → get_or ys k 0 < 256) → length xs ≤ 1024 → sad_of xs ys ≤ 2 ^ 18
sad_most xs ys few many short = omega (arith, sum_most xs ys few many)

pub samples_most : (log2 : ℕ) → log2 ≤ 5 → 4 ^ log2 ≤ 1024
samples_most log2 most =
    let below : 4 ^ log2 < 1025 =
    ltb-true (4 ^ log2) 1025 (holds_below 6 (λ n. nat_lt (4 ^ n) 1025) refl log2 (omega arith)) in
    omega (arith, below)

-- ---- the modes behind planar

pub modes_are : (effort : ℕ) →
    tabulate (further_count effort) (further_mode effort) ≡ further_modes effort
unfolding tabulate
modes_are effort = by_test (nat_lt effort 2)
  where
    by_test : (test : Bool) →
        tabulate (cond test 3 34)
        (λ i. cond test (slice_index_or (1 ∷ 10 ∷ 26 ∷ []) i 0) (i + 1)) ≡
        cond test (1 ∷ 10 ∷ 26 ∷ []) (tabulate 34 (λ mode. mode + 1))
    by_test true = refl
    by_test false = refl

pub no_modes : (f : ℕ → ℕ) → tabulate 0 f ≡ []
unfolding tabulate
no_modes f = refl

pub one_mode_more : (n : ℕ) (f : ℕ → ℕ) → tabulate (n + 1) f ≡ tabulate n f ++ f n ∷ []
one_mode_more n f =
    let next : n + 1 ≡ suc n = omega arith in
    ap (λ m. tabulate m f) next ∙ tabulate_push n f

-- ---- the first of least score, mode by mode

abbrev pub IsBest : (ℕ → ℕ) → List ℕ → Scored → Type 0
IsBest f modes best = (best.mode ≡ first_least f planar modes) × (best.score ≡ f best.mode)

pub best_more : (f : ℕ → ℕ) (modes more : List ℕ) (y : ℕ) (best next after : Scored) →
    IsBest f modes best → next.mode ≡ y → next.score ≡ f y →
    after ≡ cond (nat_lt next.score best.score) next best → more ≡ modes ++ y ∷ [] →
    IsBest f more after
best_more f modes more y best next after is named priced chosen grown =
    by_test (nat_lt next.score best.score) chosen
    (ap₂ (λ a b. nat_lt a b) priced (is.1 ∙ ap f is.0))
  where
    first : ℕ
    first = first_least f planar modes

    now : cond (nat_lt (f y) (f first)) y first ≡ first_least f planar more
    now = sym (ap (λ list. first_least f planar list) grown ∙ first_least_push f planar modes y)

    by_test : (test : Bool) → after ≡ cond test next best → test ≡ nat_lt (f y) (f first) →
        IsBest f more after
    by_test true same less = (
      ap (λ s. s.mode) same ∙ named ∙ ap (λ t. cond t y first) less ∙ now,
      ap (λ s. s.score) same ∙ priced ∙ ap f (sym (ap (λ s. s.mode) same ∙ named)),
    )
    by_test false same less = (
      ap (λ s. s.mode) same ∙ is.0 ∙ ap (λ t. cond t y first) less ∙ now,
      ap (λ s. s.score) same ∙ is.1 ∙ ap f (sym (ap (λ s. s.mode) same)),
    )
