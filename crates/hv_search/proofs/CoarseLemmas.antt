-- The coarse stage: sums of masked rows, and the best of places.
use Rattle.std.proofs.Common.{◌≡◌, ℕ, ◌+◌, ◌-◌, ◌*◌, ◌/◌, ◌%◌, ◌<◌, ◌≤◌, zero, suc, Bool, true, false, cond, nat_lt, min, List, [], ◌∷◌, ◌++◌, length, take, drop, get_or, refl, arith, sym, ap, ap₂, ◌∙◌, add-one, pos, ◌+ℤ◌, ◌-ℤ◌}
use Rattle.std.specs.Int.{abs_diff}
use Rattle.std.specs.Simd.Lanes.{zip2}
use Rattle.std.proofs.lemmas.Int.{ints}
use Rattle.std.proofs.lemmas.List.{get_or-take, get_or-drop}
use Rattle.std.proofs.lemmas.Simd.{get_or-zip2, length-zip2, length-chunk}
use Rattle.std.proofs.Math.Seq.{take-length}
use Rattle.hv_lemmas.specs.Lists.{tabulate}
use Rattle.hv_lemmas.proofs.ListLemmas.{tabulate_push}
use Rattle.hv_lemmas.proofs.ComparisonLemmas.{lt_below, lt_not_below}
use Rattle.hv_kernel.specs.Differences.{sad_of}
use Rattle.hv_sample_model.specs.Blocks.{total_of}
use Rattle.hv_sample_model.proofs.SumLemmas.{total_of_same}
use Rattle.std.proofs.lemmas.Nat.{mod-mul-add, div-mul-add}
use Rattle.hv_types.specs.Samples.{Plane, sample_at}
use Rattle.hv_interp.specs.Filters.{HasFirst}
use Rattle.hv_filter_model.specs.Costs.{first_least}
use Rattle.hv_filter_model.proofs.CostLemmas.{first_least_push}
use Rattle.hv_plan.specs.declared.prediction.Mv.{Mv}
use Rattle.hv_search_model.specs.MotionSearch.{vector, around, Score, least_around, moved_sample}
use Rattle.hv_search.specs.Windows.{Shows, nearest_sample}
use Rattle.hv_search.specs.declared.best.Best.{Best}
use Rattle.hv_search.specs.Coarse.{IsMask, masked_sum, four_sums, block_score, vector_in, IsBest}
use Rattle.hv_search.proofs.FullLemmas.{sad_of_runs}
use Rattle.hv_search.proofs.SadLemmas.{sad_of_four}

pub total_of_none : (f : ℕ → ℕ) → total_of 0 f ≡ 0
unfolding total_of
total_of_none f = refl

pub total_more : (n : ℕ) (f : ℕ → ℕ) → total_of (n + 1) f ≡ total_of n f + f n
unfolding total_of
total_more n f = rw add-one refl

-- nothing is added behind place c
total_cut : (f : ℕ → ℕ) (c n : ℕ) → ((i : ℕ) → c ≤ i → i < c + n → f i ≡ 0) →
    total_of (c + n) f ≡ total_of c f
unfolding total_of
total_cut f c zero none = ap (λ m. total_of m f) (omega arith)
total_cut f c (suc n) none =
    let more : c + suc n ≡ suc (c + n) = omega arith in
    ap (λ m. total_of m f) more ∙
    omega (arith, total_cut f c n (λ i p q. none i p (omega (arith, q))), none (c + n) (omega arith) (omega arith))

-- two lists of n
sad_of_lists : (xs ys : List ℕ) (n : ℕ) → length xs ≡ n → length ys ≡ n →
    sad_of xs ys ≡ total_of n (λ i. abs_diff (get_or xs i 0) (get_or ys i 0))
sad_of_lists xs ys n e f =
    let first : take n xs ≡ xs = ap (λ m. take m xs) (sym e) ∙ take-length xs in
    let second : take n ys ≡ ys = ap (λ m. take m ys) (sym f) ∙ take-length ys in
    let at_0 : (i : ℕ) → 0 + i ≡ i = λ i. omega arith in
    sym (ap₂ sad_of first second) ∙
    sad_of_runs xs ys 0 0 n (omega (arith, e)) (omega (arith, f)) ∙
    total_of_same n (λ i. abs_diff (get_or xs (0 + i) 0) (get_or ys (0 + i) 0))
    (λ i. abs_diff (get_or xs i 0) (get_or ys i 0))
    (λ i below. ap (λ k. abs_diff (get_or xs k 0) (get_or ys k 0)) (at_0 i))

-- a row of a block against a masked one
masked_row : (source window mask : List ℕ) (a b columns : ℕ) → columns ≤ 16 → length mask ≡ 16 → IsMask columns mask →
    a + 16 ≤ length source → b + 16 ≤ length window → ((k : ℕ) → get_or window k 0 < 256) →
    ((i : ℕ) → columns ≤ i → i < 16 → get_or source (a + i) 0 ≡ 0) →
    sad_of (take 16 (drop a source)) (zip2 min (take 16 (drop b window)) mask) ≡
    total_of columns (λ i. abs_diff (get_or source (a + i) 0) (get_or window (b + i) 0))
masked_row source window mask a b columns few long is_mask p q bytes none =
    sad_of_lists xs (zip2 min ys mask) 16 long_xs (length-zip2 min ys mask (long_ys ∙ sym long) ∙ long_ys) ∙
    total_of_same 16 (λ i. abs_diff (get_or xs i 0) (get_or (zip2 min ys mask) i 0)) masked lane ∙
    ap (λ m. total_of m masked) (omega (arith, few)) ∙
    total_cut masked columns (16 - columns)
    (λ i from to. ap₂ abs_diff (none i from (omega (arith, to, few))) (ap (min (get_or window (b + i) 0)) (is_mask i (omega (arith, to, few)) ∙ ap (λ t. cond t 255 0) (lt_not_below i columns from))) ∙ omega arith) ∙
    total_of_same columns masked (λ i. abs_diff (get_or source (a + i) 0) (get_or window (b + i) 0))
    (λ i below. ap (abs_diff (get_or source (a + i) 0)) (ap (min (get_or window (b + i) 0)) (is_mask i (omega (arith, below, few)) ∙ ap (λ t. cond t 255 0) (lt_below i columns below)) ∙ omega (arith, bytes (b + i))))
  where
    xs : List ℕ
    xs = take 16 (drop a source)

    ys : List ℕ
    ys = take 16 (drop b window)

    long_xs : length xs ≡ 16
    long_xs = length-chunk a 16 source p

    long_ys : length ys ≡ 16
    long_ys = length-chunk b 16 window q

    masked : ℕ → ℕ
    masked i = abs_diff (get_or source (a + i) 0) (min (get_or window (b + i) 0) (get_or mask i 0))

    lane : (i : ℕ) → i < 16 → abs_diff (get_or xs i 0) (get_or (zip2 min ys mask) i 0) ≡ masked i
    lane i below =
        ap₂ abs_diff (get_or-take 16 (drop a source) i 0 below ∙ get_or-drop a source i 0)
        (get_or-zip2 min ys mask i 0 0 0 (omega (arith, below, long_ys)) (omega (arith, below, long)) ∙
        ap (λ v. min v (get_or mask i 0)) (get_or-take 16 (drop b window) i 0 below ∙ get_or-drop b window i 0))

-- four rows that are joined
pub four_sums_joined : (source mask : List ℕ) (a : ℕ) (window : List ℕ) (b : ℕ) → length mask ≡ 16 →
    a + 64 ≤ length source → b + 160 ≤ length window →
    sad_of ((take 16 (drop a source) ++ take 16 (drop (a + 16) source)) ++
    (take 16 (drop (a + 2 * 16) source) ++ take 16 (drop (a + 3 * 16) source)))
    ((zip2 min (take 16 (drop b window)) mask ++ zip2 min (take 16 (drop (b + 48) window)) mask) ++
    (zip2 min (take 16 (drop (b + 96) window)) mask ++ zip2 min (take 16 (drop (b + 144) window)) mask)) ≡
    four_sums source mask a window b
four_sums_joined source mask a window b long p q =
    sad_of_four (take 16 (drop a source)) (take 16 (drop (a + 16) source)) (take 16 (drop (a + 32) source)) (take 16 (drop (a + 48) source))
    (row b) (row (b + 48)) (row (b + 96)) (row (b + 144))
    (length-chunk a 16 source (omega (arith, p)) ∙ sym (long_row b (omega (arith, q))))
    (length-chunk (a + 16) 16 source (omega (arith, p)) ∙ sym (long_row (b + 48) (omega (arith, q))))
    (length-chunk (a + 32) 16 source (omega (arith, p)) ∙ sym (long_row (b + 96) (omega (arith, q))))
  where
    row : ℕ → List ℕ
    row at = zip2 min (take 16 (drop at window)) mask

    long_row : (at : ℕ) → at + 16 ≤ length window → length (row at) ≡ 16
    long_row at inside =
        let all : length (take 16 (drop at window)) ≡ 16 = length-chunk at 16 window inside in
        length-zip2 min (take 16 (drop at window)) mask (all ∙ sym long) ∙ all

-- four rows more
pub total_of_four_more : (f : ℕ → ℕ) (k : ℕ) →
    total_of (4 * (k + 1)) f ≡
    total_of (4 * k) f + ((f (4 * k) + f (4 * k + 1)) + (f (4 * k + 2) + f (4 * k + 3)))
total_of_four_more f k =
    let all : 4 * (k + 1) ≡ 4 * k + 3 + 1 = omega arith in
    let second : total_of (4 * k + 2) f ≡ total_of (4 * k + 1) f + f (4 * k + 1) =
    ap (λ n. total_of n f) (omega arith) ∙ total_more (4 * k + 1) f in
    let third : total_of (4 * k + 3) f ≡ total_of (4 * k + 2) f + f (4 * k + 2) =
    ap (λ n. total_of n f) (omega arith) ∙ total_more (4 * k + 2) f in
    ap (λ n. total_of n f) all ∙
    omega (arith, total_more (4 * k) f, second, third, total_more (4 * k + 3) f)

module _ (source window mask : List ℕ) (at columns rows : ℕ) (few : columns ≤ 16) (long : length mask ≡ 16)
    (is_mask : IsMask columns mask) (room : 16 * rows ≤ length source) (ahead : at + 736 ≤ length window) (most : rows ≤ 16)
    (bytes : (k : ℕ) → get_or window k 0 < 256)
    (none : (k : ℕ) → k < 16 * rows → columns ≤ k % 16 → get_or source k 0 ≡ 0) where
  abbrev pub row_sum : ℕ → ℕ
  row_sum j = total_of columns (λ i. abs_diff (get_or source (16 * j + i) 0) (get_or window (at + 48 * j + i) 0))

  -- row j, by the places at which it begins
  pub row_at : (j a b : ℕ) → j < rows → a ≡ 16 * j → b ≡ at + 48 * j →
      masked_sum source mask a window b ≡ row_sum j
  row_at j a b below e f =
      ap₂ (λ a b. masked_sum source mask a window b) e f ∙
      masked_row source window mask (16 * j) (at + 48 * j) columns few long is_mask
      (omega (arith, room, below)) (omega (arith, ahead, below, most)) bytes
      (λ i from to. none (16 * j + i) (omega (arith, to, below)) (omega (arith, from, to)))

  pub four_rows_at : (k : ℕ) → 4 * k + 4 ≤ rows →
      four_sums source mask (64 * k) window (at + 192 * k) ≡
      (row_sum (4 * k) + row_sum (4 * k + 1)) + (row_sum (4 * k + 2) + row_sum (4 * k + 3))
  four_rows_at k inside =
      ap₂ (λ u v. u + v)
      (ap₂ (λ u v. u + v)
      (row_at (4 * k) (64 * k) (at + 192 * k) (omega (arith, inside)) (omega arith) (omega arith))
      (row_at (4 * k + 1) (64 * k + 16) (at + 192 * k + 48) (omega (arith, inside)) (omega arith) (omega arith)))
      (ap₂ (λ u v. u + v)
      (row_at (4 * k + 2) (64 * k + 32) (at + 192 * k + 96) (omega (arith, inside)) (omega arith) (omega arith))
      (row_at (4 * k + 3) (64 * k + 48) (at + 192 * k + 144) (omega (arith, inside)) (omega arith) (omega arith)))

-- ---- the best of places

around_16 : around 16 1 (vector (pos 0) (pos 0)) ≡ tabulate 1089 (λ t. vector_in 16 (t % 33) (t / 33))
unfolding tabulate
around_16 = refl

pub best_of_none : (score : Score) (best : Best) → best.right ≡ 16 → best.down ≡ 16 →
    best.sum ≡ score (vector_in 16 16 16) → IsBest score 0 best
unfolding tabulate
best_of_none score best right down sum =
    let at : vector_in 16 best.right best.down ≡ vector_in 16 16 16 = ap₂ (vector_in 16) right down in
    record { is = at; sum = sum ∙ ap score (sym at) }

picked : (b : Bool) (second first : Best) →
    vector_in 16 (cond b second first).right (cond b second first).down ≡
    cond b (vector_in 16 second.right second.down) (vector_in 16 first.right first.down)
picked true second first = refl
picked false second first = refl

picked_sum : (score : Score) (b : Bool) (second first : Best) →
    second.sum ≡ score (vector_in 16 second.right second.down) →
    first.sum ≡ score (vector_in 16 first.right first.down) →
    (cond b second first).sum ≡ score (vector_in 16 (cond b second first).right (cond b second first).down)
picked_sum score true second first e f = e
picked_sum score false second first e f = f

pub best_of_more : (score : Score) (t : ℕ) (first second : Best) → IsBest score t first →
    second.sum ≡ score (vector_in 16 second.right second.down) → t % 33 ≡ second.right →
    t / 33 ≡ second.down → IsBest score (t + 1) (cond (nat_lt second.sum first.sum) second first)
best_of_more score t first second best sum right down = record {
  is = picked (nat_lt second.sum first.sum) second first ∙
      ap₂ (λ a b. cond (nat_lt a b) new old) sum best.sum ∙
      ap₂ (λ a b. cond (nat_lt (score a) (score b)) a b) here best.is ∙
      sym (ap (first_least score zero_vector) pushed ∙ first_least_push score zero_vector (tabulate t places) (places t));
  sum = picked_sum score (nat_lt second.sum first.sum) second first sum best.sum;
}
  where
    zero_vector : Mv
    zero_vector = vector (pos 0) (pos 0)

    places : ℕ → Mv
    places t = vector_in 16 (t % 33) (t / 33)

    new : Mv
    new = vector_in 16 second.right second.down

    old : Mv
    old = vector_in 16 first.right first.down

    here : new ≡ places t
    here = sym (ap₂ (vector_in 16) right down)

    pushed : tabulate (t + 1) places ≡ tabulate t places ++ places t ∷ []
    pushed = ap (λ n. tabulate n places) (add-one t) ∙ tabulate_push t places

pub best_of_all : (score : Score) (t : ℕ) (best : Best) → t ≡ 1089 → IsBest score t best →
    vector_in 16 best.right best.down ≡ least_around score 16 1 (vector (pos 0) (pos 0))
unfolding least_around
best_of_all score t best all is =
    is.is ∙ ap (λ n. first_least score (vector (pos 0) (pos 0)) (tabulate n (λ t. vector_in 16 (t % 33) (t / 33)))) all ∙
    ap (first_least score (vector (pos 0) (pos 0))) (sym around_16)

-- ---- scores

moved_coordinate : (place right i : ℕ) →
    (pos place +ℤ pos 0 -ℤ pos 16) +ℤ pos (right + i) ≡ pos (place + i) +ℤ (pos right -ℤ pos 16)
moved_coordinate place right i = omega (arith, ints)

module _ (input reference : Plane) (left top columns rows : ℕ) (source window : List ℕ)
    (across : columns ≡ min 16 (input.width - left)) (down : rows ≡ min 16 (input.height - top))
    (filled : HasFirst 0 (16 * rows) (λ k. cond (nat_lt (k % 16) columns) (sample_at input (left + k % 16) (top + k / 16)) 0) source)
    (shows : Shows reference (pos left +ℤ pos 0 -ℤ pos 16) (pos top +ℤ pos 0 -ℤ pos 16) 48 window) where
  pub none_behind : (k : ℕ) → k < 16 * rows → columns ≤ k % 16 → get_or source k 0 ≡ 0
  none_behind k below behind =
      filled k below ∙ ap (λ t. cond t (sample_at input (left + k % 16) (top + k / 16)) 0) (lt_not_below (k % 16) columns behind)

  source_at : (i j : ℕ) → i < columns → j < rows → get_or source (16 * j + i) 0 ≡ sample_at input (left + i) (top + j)
  source_at i j p q =
      let few : i < 16 = omega (arith, p, across) in
      let at : 16 * j + i ≡ j * 16 + i = omega arith in
      let column : (16 * j + i) % 16 ≡ i = ap (λ k. k % 16) at ∙ mod-mul-add j 16 i few in
      let row : (16 * j + i) / 16 ≡ j = ap (λ k. k / 16) at ∙ div-mul-add j 16 i few in
      filled (16 * j + i) (omega (arith, q, few)) ∙
      ap₂ (λ a b. cond (nat_lt a columns) (sample_at input (left + a) (top + b)) 0) column row ∙
      ap (λ t. cond t (sample_at input (left + i) (top + j)) 0) (lt_below i columns p)

  window_at : (dx dy i j : ℕ) → dx < 33 → dy < 33 → i < 16 → j < 16 →
      get_or window (48 * dy + dx + 48 * j + i) 0 ≡ moved_sample reference (vector_in 16 dx dy) (left + i) (top + j)
  window_at dx dy i j a b p q =
      let at : 48 * dy + dx + 48 * j + i ≡ (dy + j) * 48 + (dx + i) = omega arith in
      ap (λ k. get_or window k 0) at ∙
      shows (dx + i) (dy + j) (omega (arith, a, p)) (omega (arith, b, q)) ∙
      ap₂ (λ u v. nearest_sample reference u v) (moved_coordinate left dx i) (moved_coordinate top dy j)

  pub coarse_score_is : (dx dy : ℕ) → dx < 33 → dy < 33 →
      total_of rows (λ j. total_of columns (λ i. abs_diff (get_or source (16 * j + i) 0) (get_or window (48 * dy + dx + 48 * j + i) 0))) ≡
      block_score input reference left top (vector_in 16 dx dy)
  coarse_score_is dx dy a b =
      let term : ℕ → ℕ → ℕ = λ j i. abs_diff (sample_at input (left + i) (top + j)) (moved_sample reference (vector_in 16 dx dy) (left + i) (top + j)) in
      total_of_same rows (λ j. total_of columns (λ i. abs_diff (get_or source (16 * j + i) 0) (get_or window (48 * dy + dx + 48 * j + i) 0)))
      (λ j. total_of columns (term j))
      (λ j q.
      total_of_same columns (λ i. abs_diff (get_or source (16 * j + i) 0) (get_or window (48 * dy + dx + 48 * j + i) 0)) (term j)
      (λ i p. ap₂ abs_diff (source_at i j p q) (window_at dx dy i j a b (omega (arith, p, across)) (omega (arith, q, down))))) ∙
      ap₂ (λ m n. total_of m (λ j. total_of n (term j))) down across
