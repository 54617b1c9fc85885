-- Rows of a block in pairs.
use Rattle.std.proofs.Common.{◌∷◌, List, [], ap, ap₂, arith, drop, length, refl, set, subst, suc, sym, take, zero, ℕ, ℤ, ◌%◌, ◌*◌, ◌+◌, ◌-◌, ◌/◌, ◌<◌, ◌∙◌, ◌≡◌, ◌≤◌}
use Rattle.std.proofs.lemmas.Bool.{cases_lt}
use mathlib.Core.Logic.{⊎_elim}
use Rattle.hv_lanes.specs.Lanes.{ArePairs, AreZero, HasPairs, IsOrder, IsShort, at, entry_of, in_pairs, of_pairs, place, woven}
use Rattle.std.proofs.lemmas.List.{get_or-set_other, get_or-set_same, length-drop, length-set, length-take-le}
use Rattle.hv_lanes.proofs.PartLemmas.{at_part}
use Rattle.hv_lanes.specs.Passes.{HasFirst, table_row}
use Rattle.std.proofs.Math.Nat.{mul-le-mul_right}
use Rattle.hv_lanes.proofs.PlaceLemmas.{row_end}

-- an odd or an even number
pub halves : (Q : ℕ → Type 0) → ((h : ℕ) → Q (2 * h)) → ((h : ℕ) → Q (2 * h + 1)) → (k : ℕ) → Q k
halves Q even odd k =
    ⊎_elim
    (λ (below : k % 2 < 1).
    let e : 2 * (k / 2) ≡ k = omega (arith, below) in
    subst Q e (even (k / 2)))
    (λ (above : 1 ≤ k % 2).
    let e : 2 * (k / 2) + 1 ≡ k = omega (arith, above) in
    subst Q e (odd (k / 2)))
    (cases_lt (k % 2) 1)

-- the entries of an order are its places
pub entry_is : (d pairs r : ℕ) (table : List (List ℕ)) → IsOrder d pairs table → r < 2 * pairs → entry_of table (r / 2) (r % 2) ≡ place d r
entry_is d pairs r table h =
    halves (λ r. r < 2 * pairs → entry_of table (r / 2) (r % 2) ≡ place d r)
    (λ p below.
    let half : 2 * p / 2 ≡ p = omega arith in
    let rest : 2 * p % 2 ≡ 0 = omega arith in
    ap₂ (entry_of table) half rest ∙ h.first p (omega (arith, below)))
    (λ p below.
    let half : (2 * p + 1) / 2 ≡ p = omega arith in
    let rest : (2 * p + 1) % 2 ≡ 1 = omega arith in
    ap₂ (entry_of table) half rest ∙ h.second p (omega (arith, below)))
    r

pub pairs_are : (d pairs n columns : ℕ) (block : List ℤ) (table : List (List ℕ)) (rows : List (List ℤ)) → 2 * pairs ≡ n → IsOrder d pairs table
    → ((i r : ℕ) → i < columns → r < n → in_pairs rows i r ≡ of_pairs n block table i r) → HasPairs d n columns block rows
pairs_are d pairs n columns block table rows e order h i r across down =
    h i r across down ∙ ap (λ y. at block (y * n + i)) (entry_is d pairs r table order (omega (arith, e, down)))

-- one more row of pairs
pub pairs_more : (n columns p : ℕ) (block : List ℤ) (table : List (List ℕ)) (rows : List (List ℤ)) (row a b : List ℤ) → p < length rows
    → ((i r : ℕ) → i < columns → r < 2 * p → in_pairs rows i r ≡ of_pairs n block table i r)
    → a ≡ take columns (drop (entry_of table p 0 * n) block) → b ≡ take columns (drop (entry_of table p 1 * n) block)
    → HasFirst (2 * columns) (woven a b) row
    → (i r : ℕ) → i < columns → r < 2 * (p + 1) → in_pairs (set rows p row) i r ≡ of_pairs n block table i r
pairs_more n columns p block table rows row a b inside old first second new i r across below =
    ⊎_elim
    (λ (less : r / 2 < p).
    ap (λ v. at v (2 * i + r % 2)) (get_or-set_other rows p (r / 2) row [] (λ same. absurd (omega (arith, same, less)))) ∙
    old i r across (omega (arith, less)))
    (λ (more : p ≤ r / 2).
    let here : r / 2 ≡ p = omega (arith, more, below) in
    let value : at row (2 * i + r % 2) ≡ at block (entry_of table p (r % 2) * n + i) =
    new (2 * i + r % 2) (omega (arith, across)) ∙
    by_two (λ h. woven a b (2 * i + h) ≡ at block (entry_of table p h * n + i))
    (woven_even a b i ∙ ap (λ v. at v i) first ∙ at_part (entry_of table p 0 * n) columns i block across)
    (woven_odd a b i ∙ ap (λ v. at v i) second ∙ at_part (entry_of table p 1 * n) columns i block across)
    (r % 2) (omega arith) in
    ap (λ q. at (table_row (set rows p row) q) (2 * i + r % 2)) here ∙
    ap (λ v. at v (2 * i + r % 2)) (get_or-set_same rows p row [] inside) ∙ value ∙
    sym (ap (λ q. at block (entry_of table q (r % 2) * n + i)) here))
    (cases_lt (r / 2) p)
  where
    by_two : (P : ℕ → Type 0) → P 0 → P 1 → (h : ℕ) → h < 2 → P h
    by_two P a b zero p = a
    by_two P a b (suc zero) p = b
    by_two P a b (suc (suc h)) p = absurd (omega (arith, p))

    woven_even : (a b : List ℤ) (i : ℕ) → woven a b (2 * i + 0) ≡ at a i
    woven_even a b i =
        let rest : (2 * i + 0) % 2 ≡ 0 = omega arith in
        let half : (2 * i + 0) / 2 ≡ i = omega arith in
        rw (rest, half) refl

    woven_odd : (a b : List ℤ) (i : ℕ) → woven a b (2 * i + 1) ≡ at b i
    woven_odd a b i =
        let rest : (2 * i + 1) % 2 ≡ 1 = omega arith in
        let half : (2 * i + 1) / 2 ≡ i = omega arith in
        rw (rest, half) refl

pub others_kept : (p : ℕ) (rows first : List (List ℤ)) (row : List ℤ) → ((q : ℕ) → p ≤ q → table_row rows q ≡ table_row first q) → (q : ℕ) → p + 1 ≤ q → table_row (set rows p row) q ≡ table_row first q
others_kept p rows first row old q later =
    get_or-set_other rows p q row [] (λ same. absurd (omega (arith, same, later))) ∙ old q (omega (arith, later))

-- a row of pairs that is 0, as its rows of the block are
pub pairs_of_0 : (n columns p : ℕ) (block : List ℤ) (table : List (List ℕ)) (rows first : List (List ℤ))
    → ((i r : ℕ) → i < columns → r < 2 * p → in_pairs rows i r ≡ of_pairs n block table i r)
    → table_row rows p ≡ table_row first p → AreZero first → IsShort n block → 8 ≤ entry_of table p 0 → entry_of table p 0 < entry_of table p 1
    → (i r : ℕ) → i < columns → r < 2 * (p + 1) → in_pairs rows i r ≡ of_pairs n block table i r
pairs_of_0 n columns p block table rows first old same clear short far rises i r across below =
    ⊎_elim
    (λ (less : r / 2 < p). old i r across (omega (arith, less)))
    (λ (more : p ≤ r / 2).
    let here : r / 2 ≡ p = omega (arith, more, below) in
    let beyond : (h : ℕ) → h < 2 → 8 ≤ entry_of table p h = by_two (λ h. 8 ≤ entry_of table p h) far (omega (arith, far, rises)) in
    let rows_beyond : 8 * n ≤ entry_of table p (r % 2) * n = mul-le-mul_right n (beyond (r % 2) (omega arith)) in
    ap (λ q. at (table_row rows q) (2 * i + r % 2)) here ∙ ap (λ v. at v (2 * i + r % 2)) same ∙ clear p (2 * i + r % 2) ∙
    sym (ap (λ q. at block (entry_of table q (r % 2) * n + i)) here ∙ short (entry_of table p (r % 2) * n + i) (omega (arith, rows_beyond))))
    (cases_lt (r / 2) p)
  where
    by_two : (P : ℕ → Type 0) → P 0 → P 1 → (h : ℕ) → h < 2 → P h
    by_two P a b zero p = a
    by_two P a b (suc zero) p = b
    by_two P a b (suc (suc h)) p = absurd (omega (arith, p))

pub row_part : (n y columns : ℕ) (block : List ℤ) → y < n → columns ≤ n → length block ≡ n * n → length (take columns (drop (y * n) block)) ≡ columns
row_part n y columns block inside few whole =
    let last : (y + 1) * n ≤ n * n = mul-le-mul_right n (omega (arith, inside)) in
    length-take-le columns (drop (y * n) block) (omega (arith, length-drop (y * n) block, whole, few, last, row_end n y))

-- the first numbers of row y of a block of n columns
abbrev part : ℕ → ℕ → List ℤ → ℕ → List ℤ
part n columns block y = take (y * n + columns - y * n) (drop (y * n) block)

between : (a b : ℕ) → a + b - a ≡ b
between a b = omega arith

-- one more row, or one that is left out
pub weave_more : (n columns pairs p : ℕ) (block : List ℤ) (table : List (List ℕ)) (rows first : List (List ℤ)) (row : List ℤ) → p < pairs → length rows ≡ pairs → columns ≤ n → length block ≡ n * n → ArePairs pairs n table
    → ((i r : ℕ) → i < columns → r < 2 * p → in_pairs rows i r ≡ of_pairs n block table i r) × ((q : ℕ) → p ≤ q → table_row rows q ≡ table_row first q) × (length rows ≡ pairs)
    → HasFirst (2 * length (part n columns block (entry_of table p 0))) (woven (part n columns block (entry_of table p 0)) (part n columns block (entry_of table p 1))) row
    → ((i r : ℕ) → i < columns → r < 2 * (p + 1) → in_pairs (set rows p row) i r ≡ of_pairs n block table i r) × ((q : ℕ) → p + 1 ≤ q → table_row (set rows p row) q ≡ table_row first q) × (length (set rows p row) ≡ pairs)
weave_more n columns pairs p block table rows first row inside count few whole order old new =
    let a : List ℤ = take columns (drop (entry_of table p 0 * n) block) in
    let b : List ℤ = take columns (drop (entry_of table p 1 * n) block) in
    let here : (y : ℕ) → part n columns block y ≡ take columns (drop (y * n) block) = λ y. ap (λ m. take m (drop (y * n) block)) (between (y * n) columns) in
    let long : length a ≡ columns = row_part n (entry_of table p 0) columns block (omega (arith, order p inside)) few whole in (
      pairs_more n columns p block table rows row a b (omega (arith, inside, count)) old.0 refl refl (subst (λ m. HasFirst (2 * m) (woven a b) row) long
          (subst (λ v. HasFirst (2 * length v) (woven v b) row) (here (entry_of table p 0)) (subst (λ v. HasFirst (2 * length (part n columns block (entry_of table p 0))) (woven (part n columns block (entry_of table p 0)) v) row) (here (entry_of table p 1)) new))),
      others_kept p rows first row old.1,
      length-set rows p row ∙ count,
    )

-- the four rows of a block of four columns, from two rows of pairs
pub four_rows : (block a b : List ℤ) → ((i h : ℕ) → i < 4 → h < 2 → at a (2 * i + h) ≡ at (take 8 (drop 0 block)) (4 * h + i)) → ((i h : ℕ) → i < 4 → h < 2 → at b (2 * i + h) ≡ at (take 8 (drop 8 block)) (4 * h + i)) → HasPairs 0 4 4 block (a ∷ b ∷ [])
four_rows block a b first second i r across down =
    ⊎_elim
    (λ (less : r < 2).
    let none : r / 2 ≡ 0 = omega (arith, less) in
    let place : 0 + (4 * (r % 2) + i) ≡ r * 4 + i = omega (arith, less) in
    ap (λ p. at (table_row (a ∷ b ∷ []) p) (2 * i + r % 2)) none ∙ first i (r % 2) across (omega arith) ∙
    at_part 0 8 (4 * (r % 2) + i) block (omega (arith, across)) ∙ ap (at block) place)
    (λ (more : 2 ≤ r).
    let one : r / 2 ≡ 1 = omega (arith, more, down) in
    let place : 8 + (4 * (r % 2) + i) ≡ r * 4 + i = omega (arith, more, down) in
    ap (λ p. at (table_row (a ∷ b ∷ []) p) (2 * i + r % 2)) one ∙ second i (r % 2) across (omega arith) ∙
    at_part 8 8 (4 * (r % 2) + i) block (omega (arith, across)) ∙ ap (at block) place)
    (cases_lt r 2)
