-- The sums of four products in lanes, as sums over numbers in pairs.
use Rattle.std.proofs.Common.{List, [], ap, ap₂, arith, drop, length, map, pos, refl, subst, suc, sym, take, zero, ℕ, ℤ, ◌*ℤ◌, ◌*◌, ◌++◌, ◌+ℤ◌, ◌+◌, ◌<◌, ◌∙◌, ◌∷◌, ◌≡◌, ◌≤◌}
use lib.ListN.{get_or}
use mir.Syntax.{w16, w32}
use mir.Val.{SFits, of_z}
use Rattle.hv_lanes.proofs.LaneSumLemmas.{end, lane, lane_is, numbers}
use Rattle.hv_lanes.specs.Lanes.{FourLanes, Numbers, at, in_pairs, weight}
use Rattle.hv_transform.specs.Columns.{lane_sum, pair_of, quad}
use Rattle.std.proofs.lemmas.List.{get_or-drop, get_or-take, get_or_past, length-take}
use Rattle.hv_lanes.specs.Passes.{table_row}
use Rattle.std.proofs.lemmas.Int.{SFits-int_wrap, ints, to_z-of_z}
use Rattle.std.proofs.Math.IntN.{*ℤ_comm}
use Rattle.std.specs.Int.{int_wrap}
use Rattle.hv_sample_model.specs.Blocks.{sum_of}
use Rattle.hv_lanes.proofs.LaneStepLemmas.{passed, regroup}
use Rattle.hv_lemmas.proofs.ComputedLemmas.{each_of_four}

others : (k : ℕ) (xs : List ℤ) (ys : List ℕ) → length xs ≡ 2 → get_or (map (of_z w16) (take 2 xs) ++ ys) (suc (suc k)) 0 ≡ get_or ys k 0
others k [] ys l = absurd (omega arith)
others k (x ∷ []) ys l = absurd (omega arith)
others k (x ∷ y ∷ []) ys l = refl
others k (x ∷ y ∷ z ∷ xs) ys l = absurd (omega arith)

pub quad_is : (xs₀ bs₀ ws : List ℤ) (ys : List ℕ) (j k : ℕ) → k ≡ 2 * j → k + 10 ≤ 16 → length xs₀ ≡ 2 → length bs₀ ≡ 2 → length ws ≡ 16 → Numbers xs₀ → Numbers bs₀ → Numbers ws
    → (let xs = map (of_z w16) (take 2 xs₀) ++ map (of_z w16) (take 2 bs₀) in
    let vs = map (of_z w16) (take 16 ws) ++ ys in
    lane (get_or xs 0 0) (get_or xs 1 0) (get_or xs 2 0) (get_or xs 3 0) (get_or vs k 0) (get_or vs (k + 1) 0) (get_or vs (8 + k) 0) (get_or vs (8 + k + 1) 0)) ≡ quad xs₀ bs₀ ws j
quad_is xs₀ bs₀ ws ys j k e le la lb lw fa fb fw =
    let rest : List ℕ = map (of_z w16) (take 2 bs₀) in
    rw (
      numbers 2 0 xs₀ rest la (omega arith),
      numbers 2 1 xs₀ rest la (omega arith),
      others 0 xs₀ rest la,
      others 1 xs₀ rest la,
      end 2 0 bs₀ lb (omega arith),
      end 2 1 bs₀ lb (omega arith),
      numbers 16 k ws ys lw (omega arith),
      numbers 16 (k + 1) ws ys lw (omega arith),
      numbers 16 (8 + k) ws ys lw (omega arith),
      numbers 16 (8 + k + 1) ws ys lw (omega arith),
      ← e,
    )
    (lane_is (at xs₀ 0) (at xs₀ 1) (at bs₀ 0) (at bs₀ 1) (at ws k) (at ws (k + 1)) (at ws (8 + k)) (at ws (8 + k + 1)) (fa 0) (fa 1) (fb 0) (fb 1) (fw k) (fw (k + 1)) (fw (8 + k)) (fw (8 + k + 1)))

number_of_pair : (rows : List (List ℤ)) (p i h : ℕ) → h < 2 → at (pair_of (table_row rows p) i) h ≡ in_pairs rows i (2 * p + h)
number_of_pair rows p i h small =
    let row : List ℤ = table_row rows p in
    get_or-take 2 (drop (2 * i) row) h (pos 0) small ∙ get_or-drop (2 * i) row h (pos 0) ∙
    ap₂ (λ a b. at (table_row rows a) (2 * i + b)) (omega (arith, small)) (omega (arith, small))

next_number : (rows : List (List ℤ)) (p i h : ℕ) → h < 2 → at (pair_of (table_row rows (p + 1)) i) h ≡ in_pairs rows i (2 * p + (2 + h))
next_number rows p i h small = number_of_pair rows (p + 1) i h small ∙ ap (in_pairs rows i) (omega arith)

pub quad_sum : (w : List ℤ) (rows : List (List ℤ)) (p i j : ℕ) → quad (pair_of (table_row rows p) i) (pair_of (table_row rows (p + 1)) i) w j ≡ int_wrap w32 (lane_sum w rows i (2 * p) j)
unfolding sum_of
quad_sum w rows p i j =
    let a : List ℤ = pair_of (table_row rows p) i in
    let b : List ℤ = pair_of (table_row rows (p + 1)) i in
    let turn = λ (x y v u : ℤ) (e : x ≡ y) (f : v ≡ u). ap₂ (λ a b. a *ℤ b) e f ∙ *ℤ_comm y u in
    let f : ℕ → ℤ = λ r. weight w j r *ℤ in_pairs rows i (2 * p + r) in
    let t0 : at a 0 *ℤ at w (2 * j) ≡ f 0 = turn _ (in_pairs rows i (2 * p + 0)) _ (weight w j 0) (number_of_pair rows p i 0 (omega arith)) (ap (at w) (omega arith)) in
    let t1 : at a 1 *ℤ at w (2 * j + 1) ≡ f 1 = turn _ (in_pairs rows i (2 * p + 1)) _ (weight w j 1) (number_of_pair rows p i 1 (omega arith)) (ap (at w) (omega arith)) in
    let t2 : at b 0 *ℤ at w (8 + 2 * j) ≡ f 2 = turn _ (in_pairs rows i (2 * p + 2)) _ (weight w j 2) (next_number rows p i 0 (omega arith)) (ap (at w) (omega arith)) in
    let t3 : at b 1 *ℤ at w (8 + 2 * j + 1) ≡ f 3 = turn _ (in_pairs rows i (2 * p + 3)) _ (weight w j 3) (next_number rows p i 1 (omega arith)) (ap (at w) (omega arith)) in
    ap (int_wrap w32) (ap₂ (λ a b. a +ℤ b) (ap₂ (λ a b. a +ℤ b) t0 t1) (ap₂ (λ a b. a +ℤ b) t2 t3) ∙ regroup (f 0) (f 1) (f 2) (f 3))

pub numbers_of_pair : (row : List ℤ) (i : ℕ) → SFits w16 (at (pair_of row i) 0) → SFits w16 (at (pair_of row i) 1) → Numbers (pair_of row i)
numbers_of_pair row i f g zero = f
numbers_of_pair row i f g (suc zero) = g
numbers_of_pair row i f g (suc (suc k)) =
    let few : length (take 2 (drop (2 * i) row)) ≤ suc (suc k) = omega (arith, length-take 2 (drop (2 * i) row)) in
    rw (get_or_past (take 2 (drop (2 * i) row)) (suc (suc k)) (pos 0) few) (record { sfits = omega (arith, ints) })

pub numbers_of_row : (rows : List (List ℤ)) (p i : ℕ) → ((r : ℕ) → r < 4 → SFits w16 (in_pairs rows i (2 * p + r))) → Numbers (pair_of (table_row rows p) i)
numbers_of_row rows p i f =
    numbers_of_pair (table_row rows p) i
    (subst (SFits w16) (sym (number_of_pair rows p i 0 (omega arith))) (f 0 (omega arith)))
    (subst (SFits w16) (sym (number_of_pair rows p i 1 (omega arith))) (f 1 (omega arith)))

pub numbers_of_next : (rows : List (List ℤ)) (p i : ℕ) → ((r : ℕ) → r < 4 → SFits w16 (in_pairs rows i (2 * p + r))) → Numbers (pair_of (table_row rows (p + 1)) i)
numbers_of_next rows p i f =
    numbers_of_pair (table_row rows (p + 1)) i
    (subst (SFits w16) (sym (next_number rows p i 0 (omega arith))) (f 2 (omega arith)))
    (subst (SFits w16) (sym (next_number rows p i 1 (omega arith))) (f 3 (omega arith)))

abbrev quarter : List ℤ → List ℤ → List ℤ → List ℤ
quarter a b w = quad a b w 0 ∷ quad a b w 1 ∷ quad a b w 2 ∷ quad a b w 3 ∷ []

quarter_kept : (a b w : List ℤ) → passed w32 (quarter a b w) ≡ quarter a b w
quarter_kept a b w = λ i. to_z-of_z w32 (quad a b w 0) (SFits-int_wrap w32 _) i ∷ to_z-of_z w32 (quad a b w 1) (SFits-int_wrap w32 _) i ∷ to_z-of_z w32 (quad a b w 2) (SFits-int_wrap w32 _) i ∷ to_z-of_z w32 (quad a b w 3) (SFits-int_wrap w32 _) i ∷ []

quarter_sums : (w : List ℤ) (rows : List (List ℤ)) (p i : ℕ) → FourLanes (lane_sum w rows i (2 * p)) (quarter (pair_of (table_row rows p) i) (pair_of (table_row rows (p + 1)) i) w)
quarter_sums w rows p i =
    let a : List ℤ = pair_of (table_row rows p) i in
    let b : List ℤ = pair_of (table_row rows (p + 1)) i in
    record {
      count = refl;
      each = each_of_four (λ j. at (quarter a b w) j ≡ int_wrap w32 (lane_sum w rows i (2 * p) j))
          (quad_sum w rows p i 0) (quad_sum w rows p i 1) (quad_sum w rows p i 2) (quad_sum w rows p i 3);
    }

pub lane_sums_are : (w : List ℤ) (rows : List (List ℤ)) (p i : ℕ) (a b lanes : List ℤ) → a ≡ pair_of (table_row rows p) i → b ≡ pair_of (table_row rows (p + 1)) i → lanes ≡ quarter a b w → FourLanes (lane_sum w rows i (2 * p)) (passed w32 lanes)
lane_sums_are w rows p i a b lanes e f g =
    let x : List ℤ = pair_of (table_row rows p) i in
    let y : List ℤ = pair_of (table_row rows (p + 1)) i in
    let is : passed w32 lanes ≡ quarter x y w = ap (passed w32) (g ∙ ap₂ (λ a b. quarter a b w) e f) ∙ quarter_kept x y w in
    subst (FourLanes (lane_sum w rows i (2 * p))) (sym is) (quarter_sums w rows p i)
