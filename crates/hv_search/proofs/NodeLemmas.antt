-- The sums of nodes: of woven squares, and of four smaller nodes.
use Rattle.std.proofs.Common.{◌≡◌, ℕ, ◌+◌, ◌*◌, ◌<◌, ◌≤◌, zero, suc, List, length, take, drop, get_or, refl, arith, sym, ap, ◌∙◌, Fits, w8, ap₂, length-drop}
use Rattle.std.specs.Int.{abs_diff}
use Rattle.std.proofs.lemmas.Simd.{length-chunk, chunk-fits}
use Rattle.std.proofs.lemmas.List.{drop-drop}
use Rattle.hv_kernel.specs.Differences.{sad_of}
use Rattle.hv_kernel.specs.Blocks.{sum_of_rows}
use Rattle.hv_search.specs.Nodes.{weave, piece, node_sad, woven_rows, woven_sad, there_of, column_at, row_at, IsWovenWindow, IsWovenBlock, square_sad, Holds, sum_16, sum_32, sum_64, score_at}
use Rattle.hv_kernel.proofs.PairLemmas.{sum_of_pairs-take_more}
use Rattle.hv_kernel.proofs.LaneLemmas.{sum_of_gaps, sum_of_measures}
use Rattle.hv_search.proofs.WeaveLemmas.{sad_weave}

pub sum_same : (f g : ℕ → ℕ) (n : ℕ) → ((i : ℕ) → i < n → f i ≡ g i) → sum_of_rows f n ≡ sum_of_rows g n
unfolding sum_of_rows
sum_same f g zero e = refl
sum_same f g (suc n) e = rw (sum_same f g n (λ i h. e i (omega arith)), e n (omega arith)) refl

pub sum_both : (f g : ℕ → ℕ) (n : ℕ) → sum_of_rows (λ i. f i + g i) n ≡ sum_of_rows f n + sum_of_rows g n
unfolding sum_of_rows
sum_both f g zero = refl
sum_both f g (suc n) = omega (arith, sum_both f g n)

pub sum_split : (f : ℕ → ℕ) (m n : ℕ) → sum_of_rows f (m + n) ≡ sum_of_rows f m + sum_of_rows (λ i. f (m + i)) n
unfolding sum_of_rows
sum_split f m zero =
    let e : m + 0 ≡ m = omega arith in
    let z : sum_of_rows f m + 0 ≡ sum_of_rows f m = omega arith in
    ap (sum_of_rows f) e ∙ sym z
sum_split f m (suc n) =
    let e : m + suc n ≡ suc (m + n) = omega arith in
    rw e (omega (arith, sum_split f m n))

pub sum_of_eight : (f : ℕ → ℕ) → sum_of_rows f 8 ≡ ((f 0 + f 1) + (f 2 + f 3)) + ((f 4 + f 5) + (f 6 + f 7))
unfolding sum_of_rows
sum_of_eight f = omega arith

pub sum_small : (f : ℕ → ℕ) (b n : ℕ) → ((i : ℕ) → i < n → f i ≤ b) → sum_of_rows f n ≤ b * n
unfolding sum_of_rows
sum_small f b zero h = omega arith
sum_small f b (suc n) h = omega (arith, sum_small f b n (λ i k. h i (omega arith)), h n (omega arith))

-- two rows of a square, woven
two_rows : (s r us vs : List ℕ) (stride x x' y y' i : ℕ) → us ≡ weave (piece s stride x (y + i) 8) (piece s stride x (y + (i + 1)) 8) → vs ≡ weave (piece r stride x' (y' + i) 8) (piece r stride x' (y' + i + 1) 8) → (y + i) * stride + x + 8 ≤ length s → (y + (i + 1)) * stride + x + 8 ≤ length s → (y' + i) * stride + x' + 8 ≤ length r → (y' + i + 1) * stride + x' + 8 ≤ length r → sad_of us vs ≡ sad_of (piece s stride x (y + i) 8) (piece r stride x' (y' + i) 8) + sad_of (piece s stride x (y + (i + 1)) 8) (piece r stride x' (y' + (i + 1)) 8)
two_rows s r us vs stride x x' y y' i ue ve p q p' q' =
    let a = length-chunk ((y + i) * stride + x) 8 s p in
    let b = length-chunk ((y + (i + 1)) * stride + x) 8 s q in
    let d = length-chunk ((y' + i) * stride + x') 8 r p' in
    let e = length-chunk ((y' + i + 1) * stride + x') 8 r q' in
    let next : y' + i + 1 ≡ y' + (i + 1) = omega arith in
    rw (ue, ve) (sad_weave (piece s stride x (y + i) 8) (piece s stride x (y + (i + 1)) 8) (piece r stride x' (y' + i) 8) (piece r stride x' (y' + i + 1) 8) (a ∙ sym b) (a ∙ sym d) (a ∙ sym e)
    ∙ ap (λ k. sad_of (piece s stride x (y + i) 8) (piece r stride x' (y' + i) 8) + sad_of (piece s stride x (y + (i + 1)) 8) (piece r stride x' k 8)) next)

-- the sum over a woven square is the plain sum
pub woven_is_square : (s r packed window : List ℕ) (stride p dx dy : ℕ) → Holds s stride 64 → Holds r stride 80 → IsWovenBlock s stride packed → IsWovenWindow r stride window → p < 64 → dx < 17 → dy < 17 → column_at p < 8 → row_at p < 8 → woven_sad packed (64 * p) window (there_of p dx dy) ≡ square_sad s r stride dx dy p
woven_is_square s r packed window stride p dx dy hs hr block win hp hx hy hc hrow = go (column_at p) (row_at p) refl refl hc hrow
  where
    go : (col row : ℕ) → col ≡ column_at p → row ≡ row_at p → col < 8 → row < 8 → woven_sad packed (64 * p) window (160 * (8 * row + dy) + 16 * col + 2 * dx) ≡ node_sad s r stride (8 * col) (8 * row) 8 dx dy
    go col row ce re hc hrow =
        omega (arith, pair 0 (64 * p) (160 * (8 * row + dy) + 16 * col + 2 * dx) (omega arith) (omega arith) (omega arith), pair 1 (64 * p + 16) (160 * (8 * row + dy) + 16 * col + 2 * dx + 320) (omega arith) (omega arith) (omega arith), pair 2 (64 * p + 32) (160 * (8 * row + dy) + 16 * col + 2 * dx + 640) (omega arith) (omega arith) (omega arith), pair 3 (64 * p + 48) (160 * (8 * row + dy) + 16 * col + 2 * dx + 960) (omega arith) (omega arith) (omega arith), sum_of_eight of_row)
      where
        of_row : ℕ → ℕ
        of_row i = sad_of (piece s stride (8 * col) (8 * row + i) 8) (piece r stride (8 * col + dx) (8 * row + dy + i) 8)

        rows_of : (q : ℕ) → woven_rows s stride p q ≡ weave (piece s stride (8 * col) (8 * row + 2 * q) 8) (piece s stride (8 * col) (8 * row + (2 * q + 1)) 8)
        rows_of q = rw (ce, re) refl

        pair : (q at there : ℕ) → q < 4 → at ≡ 64 * p + 16 * q → there ≡ 160 * (8 * row + dy + 2 * q) + 2 * (8 * col + dx) → sad_of (take 16 (drop at packed)) (take 16 (drop there window)) ≡ of_row (2 * q) + of_row (2 * q + 1)
        pair q at there hq ae te =
            two_rows s r (take 16 (drop at packed)) (take 16 (drop there window)) stride (8 * col) (8 * col + dx) (8 * row) (8 * row + dy) (2 * q)
            (ap (λ k. take 16 (drop k packed)) ae ∙ (block p q hp hq ∙ rows_of q))
            (ap (λ k. take 16 (drop k window)) te ∙ win (8 * row + dy + 2 * q) (8 * col + dx) (omega arith) (omega arith))
            (omega (arith, hs (8 * row + 2 * q) (omega arith))) (omega (arith, hs (8 * row + (2 * q + 1)) (omega arith)))
            (omega (arith, hr (8 * row + dy + 2 * q) (omega arith))) (omega (arith, hr (8 * row + dy + 2 * q + 1) (omega arith)))

-- a square of 8x8 has a small sum
pub square_small : (s r : List ℕ) (stride x y dx dy : ℕ) → ((k : ℕ) → Fits w8 (get_or s k 0)) → ((k : ℕ) → Fits w8 (get_or r k 0)) → Holds s stride 64 → Holds r stride 80 → x + 8 ≤ 64 → y + 8 ≤ 64 → dx < 17 → dy < 17 → node_sad s r stride x y 8 dx dy ≤ 16320
square_small s r stride x y dx dy fs fr hs hr hx hy hdx hdy =
    omega (arith, sum_small (λ i. sad_of (piece s stride x (y + i) 8) (piece r stride (x + dx) (y + dy + i) 8)) 2040 8 of_row)
  where
    of_row : (i : ℕ) → i < 8 → sad_of (piece s stride x (y + i) 8) (piece r stride (x + dx) (y + dy + i) 8) ≤ 2040
    of_row i h =
        let a : ℕ = (y + i) * stride + x in
        let b : ℕ = (y + dy + i) * stride + (x + dx) in
        let first = length-chunk a 8 s (omega (arith, hs (y + i) (omega arith))) in
        let second = length-chunk b 8 r (omega (arith, hr (y + dy + i) (omega arith))) in
        rw (← sum_of_measures abs_diff (take 8 (drop a s)) (take 8 (drop b r))) (sum_of_gaps (take 8 (drop a s)) (take 8 (drop b r)) 8 first second (chunk-fits w8 a 8 s fs) (chunk-fits w8 b 8 r fr))

-- a row of 2n samples in two halves
row_in_two : (s r : List ℕ) (n a b : ℕ) → a + n ≤ length s → b + n ≤ length r → sad_of (take (n + n) (drop a s)) (take (n + n) (drop b r)) ≡ sad_of (take n (drop a s)) (take n (drop b r)) + sad_of (take n (drop (a + n) s)) (take n (drop (b + n) r))
row_in_two s r n a b p q =
    sum_of_pairs-take_more abs_diff n n (drop a s) (drop b r) (omega (arith, length-drop a s)) (omega (arith, length-drop b r)) ∙
    ap₂ (λ us vs. sad_of (take n (drop a s)) (take n (drop b r)) + sad_of (take n us) (take n vs)) (drop-drop n a s) (drop-drop n b r)

-- a node is four of half its side
pub node_in_four : (s r : List ℕ) (stride x y n dx dy : ℕ) → Holds s stride 64 → Holds r stride 80 → x + (n + n) ≤ 64 → y + (n + n) ≤ 64 → dx < 17 → dy < 17 → node_sad s r stride x y (n + n) dx dy ≡ (node_sad s r stride x y n dx dy + node_sad s r stride (x + n) y n dx dy) + (node_sad s r stride x (y + n) n dx dy + node_sad s r stride (x + n) (y + n) n dx dy)
node_in_four s r stride x y n dx dy hs hr hx hy hdx hdy =
    let first : sum_of_rows whole n ≡ node_sad s r stride x y n dx dy + node_sad s r stride (x + n) y n dx dy =
    sum_same whole (λ i. left y i + right y i) n (λ i h. in_two i (omega arith)) ∙ sum_both (left y) (right y) n in
    let second : sum_of_rows (λ i. whole (n + i)) n ≡ node_sad s r stride x (y + n) n dx dy + node_sad s r stride (x + n) (y + n) n dx dy =
    sum_same (λ i. whole (n + i)) (λ i. left (y + n) i + right (y + n) i) n (λ i h. in_two (n + i) (omega arith) ∙ lower i) ∙ sum_both (left (y + n)) (right (y + n)) n in
    sum_split whole n n ∙ ap₂ (λ a b. a + b) first second
  where
    whole : ℕ → ℕ
    whole i = sad_of (piece s stride x (y + i) (n + n)) (piece r stride (x + dx) (y + dy + i) (n + n))

    left : ℕ → ℕ → ℕ
    left y i = sad_of (piece s stride x (y + i) n) (piece r stride (x + dx) (y + dy + i) n)

    right : ℕ → ℕ → ℕ
    right y i = sad_of (piece s stride (x + n) (y + i) n) (piece r stride (x + n + dx) (y + dy + i) n)

    in_two : (i : ℕ) → i < n + n → whole i ≡ left y i + right y i
    in_two i h =
        let e : (y + i) * stride + x + n ≡ (y + i) * stride + (x + n) = omega arith in
        let f : (y + dy + i) * stride + (x + dx) + n ≡ (y + dy + i) * stride + (x + n + dx) = omega arith in
        row_in_two s r n ((y + i) * stride + x) ((y + dy + i) * stride + (x + dx)) (omega (arith, hs (y + i) (omega arith))) (omega (arith, hr (y + dy + i) (omega arith))) ∙
        ap₂ (λ a b. left y i + sad_of (take n (drop a s)) (take n (drop b r))) e f

    lower : (i : ℕ) → left y (n + i) + right y (n + i) ≡ left (y + n) i + right (y + n) i
    lower i =
        let e : y + (n + i) ≡ y + n + i = omega arith in
        let f : y + dy + (n + i) ≡ y + n + dy + i = omega arith in
        ap₂ (λ a b. sad_of (piece s stride x a n) (piece r stride (x + dx) b n) + sad_of (piece s stride (x + n) a n) (piece r stride (x + n + dx) b n)) e f

-- where the other three of four squares lie
places_16 : (j : ℕ) → j < 16 → (8 * column_at (16 + j) ≡ 8 * column_at j + 8) × (8 * row_at (16 + j) ≡ 8 * row_at j) × (8 * column_at (32 + j) ≡ 8 * column_at j) × (8 * row_at (32 + j) ≡ 8 * row_at j + 8) × (8 * column_at (48 + j) ≡ 8 * column_at j + 8) × (8 * row_at (48 + j) ≡ 8 * row_at j + 8)
places_16 j h = (omega arith, omega arith, omega arith, omega arith, omega arith, omega arith)

places_4 : (j : ℕ) → j < 4 → (8 * column_at (4 + j) ≡ 8 * column_at j + 16) × (8 * row_at (4 + j) ≡ 8 * row_at j) × (8 * column_at (8 + j) ≡ 8 * column_at j) × (8 * row_at (8 + j) ≡ 8 * row_at j + 16) × (8 * column_at (12 + j) ≡ 8 * column_at j + 16) × (8 * row_at (12 + j) ≡ 8 * row_at j + 16)
places_4 j h = (omega arith, omega arith, omega arith, omega arith, omega arith, omega arith)

inside_16 : (j : ℕ) → j < 16 → (8 * column_at j ≤ 48) × (8 * row_at j ≤ 48)
inside_16 j h = (omega arith, omega arith)

inside_4 : (j : ℕ) → j < 4 → (8 * column_at j ≤ 32) × (8 * row_at j ≤ 32)
inside_4 j h = (omega arith, omega arith)

pub inside_64 : (j : ℕ) → j < 64 → (column_at j < 8) × (row_at j < 8)
inside_64 j h = (omega arith, omega arith)

-- the sums that one displacement's vector holds
module _ (s r sums : List ℕ) (stride at dx dy : ℕ) (hs : Holds s stride 64) (hr : Holds r stride 80) (hdx : dx < 17) (hdy : dy < 17) (value : (p : ℕ) → p < 64 → get_or sums (at + p) 0 ≡ square_sad s r stride dx dy p) where
  abbrev node : ℕ → ℕ → ℕ → ℕ
  node x y n = node_sad s r stride x y n dx dy

  pub sixteen_is : (j : ℕ) → j < 16 → sum_16 sums at j ≡ node_sad s r stride (8 * column_at j) (8 * row_at j) 16 dx dy
  sixteen_is j h =
      let at_places = places_16 j h in
      let b = value (16 + j) (omega arith) ∙ ap₂ (λ x y. node x y 8) at_places.0 at_places.1 in
      let d = value (32 + j) (omega arith) ∙ ap₂ (λ x y. node x y 8) at_places.2 at_places.3 in
      let e = value (48 + j) (omega arith) ∙ ap₂ (λ x y. node x y 8) at_places.4 at_places.5 in
      ap₂ (λ u v. u + v) (ap₂ (λ u v. u + v) (value j (omega arith)) b) (ap₂ (λ u v. u + v) d e) ∙
      sym (node_in_four s r stride (8 * column_at j) (8 * row_at j) 8 dx dy hs hr (omega (arith, (inside_16 j h).0)) (omega (arith, (inside_16 j h).1)) hdx hdy)

  pub thirty_two_is : (j : ℕ) → j < 4 → sum_32 sums at j ≡ node_sad s r stride (8 * column_at j) (8 * row_at j) 32 dx dy
  thirty_two_is j h =
      let at_places = places_4 j h in
      let b = sixteen_is (4 + j) (omega arith) ∙ ap₂ (λ x y. node x y 16) at_places.0 at_places.1 in
      let d = sixteen_is (8 + j) (omega arith) ∙ ap₂ (λ x y. node x y 16) at_places.2 at_places.3 in
      let e = sixteen_is (12 + j) (omega arith) ∙ ap₂ (λ x y. node x y 16) at_places.4 at_places.5 in
      ap₂ (λ u v. u + v) (ap₂ (λ u v. u + v) (sixteen_is j (omega arith)) b) (ap₂ (λ u v. u + v) d e) ∙
      sym (node_in_four s r stride (8 * column_at j) (8 * row_at j) 16 dx dy hs hr (omega (arith, (inside_4 j h).0)) (omega (arith, (inside_4 j h).1)) hdx hdy)

  pub sixty_four_is : sum_64 sums at ≡ node_sad s r stride 0 0 64 dx dy
  sixty_four_is =
      let whole : node 0 0 64 ≡ (node 0 0 32 + node 32 0 32) + (node 0 32 32 + node 32 32 32) = node_in_four s r stride 0 0 32 dx dy hs hr (omega arith) (omega arith) hdx hdy in
      let a : sum_32 sums at 0 ≡ node 0 0 32 = thirty_two_is 0 (omega arith) in
      let b : sum_32 sums at 1 ≡ node 32 0 32 = thirty_two_is 1 (omega arith) in
      let d : sum_32 sums at 2 ≡ node 0 32 32 = thirty_two_is 2 (omega arith) in
      let e : sum_32 sums at 3 ≡ node 32 32 32 = thirty_two_is 3 (omega arith) in
      omega (arith, whole, a, b, d, e)

-- bytes sum to little
module _ (s r : List ℕ) (stride : ℕ) (fs : (k : ℕ) → Fits w8 (get_or s k 0)) (fr : (k : ℕ) → Fits w8 (get_or r k 0)) (hs : Holds s stride 64) (hr : Holds r stride 80) where
  abbrev first : ℕ → ℕ → ℕ → ℕ
  first x y n = node_sad s r stride x y n 0 0

  small_8 : (x y : ℕ) → x + 8 ≤ 64 → y + 8 ≤ 64 → first x y 8 ≤ 16320
  small_8 x y hx hy = square_small s r stride x y 0 0 fs fr hs hr hx hy (omega arith) (omega arith)

  small_16 : (x y : ℕ) → x + 16 ≤ 64 → y + 16 ≤ 64 → first x y 16 ≤ 65280
  small_16 x y hx hy =
      let four : first x y 16 ≡ (first x y 8 + first (x + 8) y 8) + (first x (y + 8) 8 + first (x + 8) (y + 8) 8) = node_in_four s r stride x y 8 0 0 hs hr hx hy (omega arith) (omega arith) in
      omega (arith, four, small_8 x y (omega arith) (omega arith), small_8 (x + 8) y (omega arith) (omega arith), small_8 x (y + 8) (omega arith) (omega arith), small_8 (x + 8) (y + 8) (omega arith) (omega arith))

  small_32 : (x y : ℕ) → x + 32 ≤ 64 → y + 32 ≤ 64 → first x y 32 ≤ 261120
  small_32 x y hx hy =
      let four : first x y 32 ≡ (first x y 16 + first (x + 16) y 16) + (first x (y + 16) 16 + first (x + 16) (y + 16) 16) = node_in_four s r stride x y 16 0 0 hs hr hx hy (omega arith) (omega arith) in
      omega (arith, four, small_16 x y (omega arith) (omega arith), small_16 (x + 16) y (omega arith) (omega arith), small_16 x (y + 16) (omega arith) (omega arith), small_16 (x + 16) (y + 16) (omega arith) (omega arith))

  pub small_at_8 : (p : ℕ) → p < 64 → score_at s r stride p 8 0 ≤ 1044480
  small_at_8 p h = omega (arith, small_8 (8 * column_at p) (8 * row_at p) (omega (arith, (inside_64 p h).0)) (omega (arith, (inside_64 p h).1)))

  pub small_at_16 : (p : ℕ) → p < 16 → score_at s r stride p 16 0 ≤ 1044480
  small_at_16 p h = omega (arith, small_16 (8 * column_at p) (8 * row_at p) (omega (arith, (inside_16 p h).0)) (omega (arith, (inside_16 p h).1)))

  pub small_at_32 : (p : ℕ) → p < 4 → score_at s r stride p 32 0 ≤ 1044480
  small_at_32 p h = omega (arith, small_32 (8 * column_at p) (8 * row_at p) (omega (arith, (inside_4 p h).0)) (omega (arith, (inside_4 p h).1)))

  pub small_at_64 : score_at s r stride 0 64 0 ≤ 1044480
  small_at_64 =
      let four : first 0 0 64 ≡ (first 0 0 32 + first 32 0 32) + (first 0 32 32 + first 32 32 32) = node_in_four s r stride 0 0 32 0 0 hs hr (omega arith) (omega arith) (omega arith) (omega arith) in
      omega (arith, four, small_32 0 0 (omega arith) (omega arith), small_32 32 0 (omega arith) (omega arith), small_32 0 32 (omega arith) (omega arith), small_32 32 32 (omega arith) (omega arith))
