-- The full stage: sums over windows are scores of vectors.
use Rattle.std.proofs.Common.{◌≡◌, ℕ, ◌+◌, ◌-◌, ◌*◌, ◌/◌, ◌%◌, ◌<◌, ◌≤◌, zero, suc, List, [], ◌∷◌, length, take, drop, get_or, refl, arith, sym, subst, ap, ap₂, ◌∙◌, cond, nat_lt, ℤ, pos, ◌+ℤ◌, ◌-ℤ◌, length-drop}
use Rattle.std.specs.Int.{abs_diff}
use Rattle.std.proofs.lemmas.Int.{ints, clamps}
use Rattle.std.proofs.lemmas.List.{get_or-drop}
use Rattle.hv_lemmas.specs.Lists.{tabulate}
use Rattle.hv_types.specs.Samples.{Plane, sample_at}
use Rattle.hv_plan.specs.declared.prediction.Mv.{Mv}
use Rattle.hv_kernel.specs.Differences.{sad_of}
use Rattle.hv_kernel.specs.Blocks.{sum_of_rows}
use Rattle.hv_kernel.proofs.PairLemmas.{sum_of_pairs-take_more}
use Rattle.hv_sample_model.specs.Blocks.{total_of}
use Rattle.hv_sample_model.proofs.SumLemmas.{total_of_same}
use Rattle.hv_search_model.specs.MotionSearch.{vector, moved, around, least_around, Score, nearest, moved_sample, full_score}
use Rattle.hv_search.specs.Nodes.{piece, node_sad, column_at, row_at, score_at, place_of, IsFirstLeast, ShowsBest}
use Rattle.hv_search.specs.Numbers.{full_candidate, side_of, place_among, ShowFull}
use Rattle.hv_search.proofs.LeastKeyLemmas.{place_below}
use Rattle.hv_search.proofs.FirstLeastLemmas.{first_least_at, first_least_agrees}
use Rattle.hv_filter_model.specs.Costs.{first_least}
use Rattle.hv_lemmas.proofs.ListLemmas.{tabulate-same}
use Rattle.hv_lemmas.proofs.ComparisonLemmas.{lt_below, lt_not_below}
use mathlib.Core.Logic.{◌⊎◌, inl, inr}
use Rattle.std.proofs.lemmas.Bool.{cases_lt}
use Rattle.hv_search.specs.Windows.{Shows, nearest_sample}

pub total_of_rows : (f : ℕ → ℕ) (n : ℕ) → sum_of_rows f n ≡ total_of n f
unfolding sum_of_rows total_of
total_of_rows f zero = refl
total_of_rows f (suc n) = ap (λ s. s + f n) (total_of_rows f n)

pub take_one : (xs : List ℕ) (i : ℕ) → i < length xs → take 1 (drop i xs) ≡ get_or xs i 0 ∷ []
take_one [] i below = absurd (omega arith)
take_one (x ∷ xs) zero below = refl
take_one (x ∷ xs) (suc i) below = take_one xs i (omega (arith, below))

-- two runs of samples
pub sad_of_runs : (s r : List ℕ) (a b n : ℕ) → a + n ≤ length s → b + n ≤ length r →
    sad_of (take n (drop a s)) (take n (drop b r)) ≡
    total_of n (λ i. abs_diff (get_or s (a + i) 0) (get_or r (b + i) 0))
unfolding total_of
sad_of_runs s r a b zero p q = refl
sad_of_runs s r a b (suc n) p q =
    let xs : List ℕ = drop a s in
    let ys : List ℕ = drop b r in
    let more : suc n ≡ n + 1 = omega arith in
    let first : take 1 (drop n xs) ≡ get_or s (a + n) 0 ∷ [] =
    take_one xs n (omega (arith, length-drop a s, p)) ∙ ap (λ v. v ∷ []) (get_or-drop a s n 0) in
    let second : take 1 (drop n ys) ≡ get_or r (b + n) 0 ∷ [] =
    take_one ys n (omega (arith, length-drop b r, q)) ∙ ap (λ v. v ∷ []) (get_or-drop b r n 0) in
    ap (λ m. sad_of (take m xs) (take m ys)) more ∙
    sum_of_pairs-take_more abs_diff n 1 xs ys (omega (arith, length-drop a s, p)) (omega (arith, length-drop b r, q)) ∙
    ap₂ (λ u v. u + v) (sad_of_runs s r a b n (omega (arith, p)) (omega (arith, q)))
    (ap₂ sad_of first second ∙ omega arith)

-- a coordinate inside
pub nearest_inside : (side at : ℕ) → at < side → nearest side (pos at) ≡ at
nearest_inside side at below = omega (arith, ints, clamps, below)

same_coordinate : (block ahead d i : ℕ) (v : ℤ) →
    (pos block +ℤ v -ℤ pos 8) +ℤ pos (ahead + d + i) ≡ pos (block + ahead + i) +ℤ (v +ℤ (pos d -ℤ pos 8))
same_coordinate block ahead d i v = omega (arith, ints)

pub moved_none : (mv : Mv) → moved mv (pos 0) (pos 0) ≡ mv
moved_none mv = ap₂ vector (omega (arith, ints)) (omega (arith, ints))

next_place : (i : ℕ) → place_of (suc i) ≡ i
next_place i = grind arith

around_8 : (mv : Mv) → around 8 1 mv ≡
    tabulate 289 (λ t. moved mv (pos (t % 17) -ℤ pos 8) (pos (t / 17) -ℤ pos 8))
unfolding tabulate
around_8 mv = refl

-- the first of least score among the numbered ones
pub least_of_numbered : (score : Score) (mv : Mv) (k : ℕ) →
    IsFirstLeast (λ i. score (full_candidate mv i)) 290 k →
    least_around score 8 1 mv ≡ full_candidate mv k
unfolding least_around
least_of_numbered score mv k first =
    let others : around 8 1 mv ≡ tabulate 289 (λ i. full_candidate mv (suc i)) =
    around_8 mv ∙
    tabulate-same 289 (λ t. moved mv (pos (t % 17) -ℤ pos 8) (pos (t / 17) -ℤ pos 8))
    (λ i. full_candidate mv (suc i))
    (λ i below. ap (λ t. moved mv (pos (t % 17) -ℤ pos 8) (pos (t / 17) -ℤ pos 8)) (sym (next_place i))) in
    ap₂ (first_least score) (sym (moved_none mv)) others ∙
    first_least_at score (full_candidate mv) 289 k first

-- ---- a node of this side that begins in column x and row y of the block at (block_x, block_y)

module _ (input reference : Plane) (block_x block_y : ℕ) (mv : Mv) (s r : List ℕ)
    (whole_s : length s ≡ 6400) (whole_r : length r ≡ 6400)
    (shows_s : Shows input (pos block_x) (pos block_y) 80 s)
    (shows_r : Shows reference (pos block_x +ℤ mv.x -ℤ pos 8) (pos block_y +ℤ mv.y -ℤ pos 8) 80 r)
    (x y side : ℕ) (x_most : x + side ≤ 64) (y_most : y + side ≤ 64)
    (across : block_x + x + side ≤ input.width) (down : block_y + y + side ≤ input.height)
  where
    input_sample : (i j : ℕ) → i < side → j < side →
        get_or s ((y + j) * 80 + x + i) 0 ≡ sample_at input (block_x + x + i) (block_y + y + j)
    input_sample i j p q =
        let at : (y + j) * 80 + x + i ≡ (y + j) * 80 + (x + i) = omega arith in
        let column : pos block_x +ℤ pos (x + i) ≡ pos (block_x + x + i) = omega (arith, ints) in
        let row : pos block_y +ℤ pos (y + j) ≡ pos (block_y + y + j) = omega (arith, ints) in
        ap (λ k. get_or s k 0) at ∙ shows_s (x + i) (y + j) (omega (arith, p, x_most)) (omega (arith, q, y_most)) ∙
        ap₂ (λ u v. nearest_sample input u v) column row ∙
        ap₂ (λ u v. sample_at input u v)
        (nearest_inside input.width (block_x + x + i) (omega (arith, p, across)))
        (nearest_inside input.height (block_y + y + j) (omega (arith, q, down)))

    reference_sample : (dx dy i j : ℕ) → dx < 17 → dy < 17 → i < side → j < side →
        get_or r ((y + dy + j) * 80 + (x + dx) + i) 0 ≡
        moved_sample reference (moved mv (pos dx -ℤ pos 8) (pos dy -ℤ pos 8)) (block_x + x + i) (block_y + y + j)
    reference_sample dx dy i j a b p q =
        let at : (y + dy + j) * 80 + (x + dx) + i ≡ (y + dy + j) * 80 + (x + dx + i) = omega arith in
        ap (λ k. get_or r k 0) at ∙
        shows_r (x + dx + i) (y + dy + j) (omega (arith, a, p, x_most)) (omega (arith, b, q, y_most)) ∙
        ap₂ (λ u v. nearest_sample reference u v) (same_coordinate block_x x dx i mv.x) (same_coordinate block_y y dy j mv.y)

    pub node_score : (dx dy : ℕ) → dx < 17 → dy < 17 → node_sad s r 80 x y side dx dy ≡
        full_score input reference (block_x + x) (block_y + y) side (moved mv (pos dx -ℤ pos 8) (pos dy -ℤ pos 8))
    node_score dx dy a b =
        total_of_rows (λ j. sad_of (piece s 80 x (y + j) side) (piece r 80 (x + dx) (y + dy + j) side)) side ∙
        total_of_same side (λ j. sad_of (piece s 80 x (y + j) side) (piece r 80 (x + dx) (y + dy + j) side))
        (λ j. total_of side (λ i. abs_diff (sample_at input (block_x + x + i) (block_y + y + j))
        (moved_sample reference (moved mv (pos dx -ℤ pos 8) (pos dy -ℤ pos 8)) (block_x + x + i) (block_y + y + j))))
        (λ j q.
        sad_of_runs s r ((y + j) * 80 + x) ((y + dy + j) * 80 + (x + dx)) side
        (omega (arith, whole_s, q, x_most, y_most)) (omega (arith, whole_r, a, b, q, x_most, y_most)) ∙
        total_of_same side
        (λ i. abs_diff (get_or s ((y + j) * 80 + x + i) 0) (get_or r ((y + dy + j) * 80 + (x + dx) + i) 0))
        (λ i. abs_diff (sample_at input (block_x + x + i) (block_y + y + j))
        (moved_sample reference (moved mv (pos dx -ℤ pos 8) (pos dy -ℤ pos 8)) (block_x + x + i) (block_y + y + j)))
        (λ i p. ap₂ abs_diff (input_sample i j p q) (reference_sample dx dy i j a b p q)))

    pub node_shown : (p key : ℕ) → x ≡ 8 * column_at p → y ≡ 8 * row_at p → ShowsBest s r 80 p side key →
        least_around (full_score input reference (block_x + x) (block_y + y) side) 8 1 mv ≡
        full_candidate mv (key % 512)
    node_shown p key across_is down_is best =
        least_of_numbered (full_score input reference (block_x + x) (block_y + y) side) mv (key % 512)
        (first_least_agrees (λ i. score_at s r 80 p side (place_of i))
        (λ i. full_score input reference (block_x + x) (block_y + y) side (full_candidate mv i)) 290 (key % 512)
        (λ i below.
        let inside : place_of i < 289 = place_below i below in
        ap₂ (λ a b. node_sad s r 80 a b side (place_of i % 17) (place_of i / 17)) (sym across_is) (sym down_is) ∙
        node_score (place_of i % 17) (place_of i / 17) (omega arith) (omega (arith, inside)))
        best.0)

-- ---- all nodes of a block by their numbers

module _ (input reference : Plane) (block_x block_y : ℕ) (mv : Mv) (keys : List ℕ) where
  abbrev NodeShown : ℕ → ℕ → ℕ → Type 0
  NodeShown p side key =
      block_x + 8 * column_at p + side ≤ input.width → block_y + 8 * row_at p + side ≤ input.height →
      least_around (full_score input reference (block_x + 8 * column_at p) (block_y + 8 * row_at p) side) 8 1 mv ≡
      full_candidate mv (key % 512)

  at_number : (n p side key : ℕ) → place_among n ≡ p → side_of n ≡ side → get_or keys n 0 ≡ key →
      NodeShown p side key → NodeShown (place_among n) (side_of n) (get_or keys n 0)
  at_number n p side key e f g shown =
      subst (λ p. NodeShown p (side_of n) (get_or keys n 0)) (sym e)
      (subst (λ side. NodeShown p side (get_or keys n 0)) (sym f)
      (subst (λ key. NodeShown p side key) (sym g) shown))

  pub all_shown : ((p : ℕ) → p < 64 → NodeShown p 8 (get_or keys p 0)) →
      ((p : ℕ) → p < 16 → NodeShown p 16 (get_or keys (64 + p) 0)) →
      ((p : ℕ) → p < 4 → NodeShown p 32 (get_or keys (80 + p) 0)) →
      NodeShown 0 64 (get_or keys 84 0) → ShowFull input reference block_x block_y mv keys
  all_shown eights sixteens thirty_twos whole n below inside =
      of_size (cases_lt n 64) (cases_lt n 80) (cases_lt n 84) inside.across inside.down
    where
      of_size : (n < 64) ⊎ (64 ≤ n) → (n < 80) ⊎ (80 ≤ n) → (n < 84) ⊎ (84 ≤ n) →
          NodeShown (place_among n) (side_of n) (get_or keys n 0)
      of_size (inl a) b c =
          let e = lt_below n 64 a in
          at_number n n 8 (get_or keys n 0) (ap (λ t. cond t n (cond (nat_lt n 80) (n - 64) (cond (nat_lt n 84) (n - 80) 0))) e)
          (ap (λ t. cond t 8 (cond (nat_lt n 80) 16 (cond (nat_lt n 84) 32 64))) e) refl (eights n a)
      of_size (inr a) (inl b) c =
          let e = lt_not_below n 64 a in
          let f = lt_below n 80 b in
          at_number n (n - 64) 16 (get_or keys (64 + (n - 64)) 0)
          (ap₂ (λ t u. cond t n (cond u (n - 64) (cond (nat_lt n 84) (n - 80) 0))) e f)
          (ap₂ (λ t u. cond t 8 (cond u 16 (cond (nat_lt n 84) 32 64))) e f)
          (ap (λ k. get_or keys k 0) (omega (arith, a))) (sixteens (n - 64) (omega (arith, a, b)))
      of_size (inr a) (inr b) (inl c) =
          let e = lt_not_below n 64 a in
          let f = lt_not_below n 80 b in
          let g = lt_below n 84 c in
          at_number n (n - 80) 32 (get_or keys (80 + (n - 80)) 0)
          (ap₂ (λ t u. cond t n (cond u (n - 64) (cond (nat_lt n 84) (n - 80) 0))) e f ∙ ap (λ t. cond t (n - 80) 0) g)
          (ap₂ (λ t u. cond t 8 (cond u 16 (cond (nat_lt n 84) 32 64))) e f ∙ ap (λ t. cond t 32 64) g)
          (ap (λ k. get_or keys k 0) (omega (arith, b))) (thirty_twos (n - 80) (omega (arith, b, c)))
      of_size (inr a) (inr b) (inr c) =
          let e = lt_not_below n 64 a in
          let f = lt_not_below n 80 b in
          let g = lt_not_below n 84 c in
          at_number n 0 64 (get_or keys 84 0)
          (ap₂ (λ t u. cond t n (cond u (n - 64) (cond (nat_lt n 84) (n - 80) 0))) e f ∙ ap (λ t. cond t (n - 80) 0) g)
          (ap₂ (λ t u. cond t 8 (cond u 16 (cond (nat_lt n 84) 32 64))) e f ∙ ap (λ t. cond t 32 64) g)
          (ap (λ k. get_or keys k 0) (omega (arith, c, below))) whole
