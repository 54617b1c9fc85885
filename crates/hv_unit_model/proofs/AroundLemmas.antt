-- What is seen from a coding tree block by the plans of the blocks around it is what is seen in the
-- picture (6.4.1): the blocks around that come before it have their squares in the list of those
-- before, and what comes later isn't in it.
use Rattle.std.proofs.Common.{◌≡◌, ℕ, zero, suc, ◌+◌, ◌-◌, ◌*◌, ◌/◌, ◌%◌, ◌<◌, ◌≤◌, Bool, true, false, cond, List, [], ◌∷◌, ◌++◌, length, length-append, zero-add, refl, sym, ap, ap₂, ◌∙◌, subst, arith, inl, inr}
use Rattle.std.specs.Prelude.{nat_lt, nat_le, ◌&&◌, ◌||◌, slice_index_or, slice_get, Option, Some, None, is_some}
use Rattle.std.proofs.lemmas.List.{length-replicate, get_or_append_left, get_or-append-add, get_or_past, append_assoc, append-nil}
use Rattle.std.proofs.lemmas.Bool.{true≢false, cases_lt, and_parts, leb-true, ltb-true}
use Rattle.std.proofs.lemmas.Bool.Decides.{nat_tests}
use Rattle.std.proofs.lemmas.Option.{slice_get-get_or, slice_get_past}
use Rattle.std.proofs.lemmas.Nat.{mod-mul-add, div-mul-add}
use Rattle.std.proofs.Math.Nat.{mod-lt, div-add-mod, mul_comm}
use Rattle.std.proofs.Math.Dec.{lit<, lit≤}
use Rattle.hv_lemmas.proofs.OptionLemmas.{some_same}
use Rattle.hv_plan.specs.declared.prediction.Unit.{Unit}
use Rattle.hv_tree_model.specs.Trees.{Tree, Split, Outside, depth_of, greatest_size}
use Rattle.hv_tree_model.specs.Sites.{Site, site, blocks_over, ctb_column, ctb_row, has_left, has_above, address_of, column_of, row_of, squares, is_outside}
use Rattle.hv_tree_model.specs.EarlierUnits.{Square, Unavailable, Coded, squares_of, place_of, look_picture}
use Rattle.hv_tree_model.specs.Plans.{Plan, leaf_at, is_leaf, tree_at, tree_of, prediction_of, square_or_none, UnitEdges, UnitsAround, on_right, on_bottom, square_around, square_inside, look_around}
use Rattle.hv_unit_model.proofs.GeometryLemmas.{address_of_place}
use Rattle.hv_unit_model.specs.PlanLaws.{squares_of_plans, squares_before, unit_of_plan, ArePlansBefore, AreSeen, has_above_right, LieAround, PlansAreAppended, BlocksAroundAreThoseOfPicture}

-- ---- how many squares a plan has

length-either : (size : ℕ) (test : Bool) (a b : Tree) → length (squares_of size a) ≡ squares size →
    length (squares_of size b) ≡ squares size →
    length (squares_of size (cond test a b)) ≡ squares size
length-either size true a b h k = h
length-either size false a b h k = k

length-outside : (size : ℕ) → length (squares_of size Outside) ≡ squares size
length-outside zero = length-replicate (squares zero) Unavailable
length-outside (suc size) = length-replicate (squares (suc size)) Unavailable

length-leaf_at : (plan : Plan) (size address : ℕ) (unit : Option Unit) →
    length (squares_of size (leaf_at plan size address unit)) ≡ squares size
length-leaf_at plan zero address None = length-outside zero
length-leaf_at plan (suc size) address None = length-outside (suc size)
length-leaf_at plan zero address (Some unit) =
    length-replicate (squares zero) (Coded (depth_of zero) (prediction_of unit.pred))
length-leaf_at plan (suc size) address (Some unit) =
    length-replicate (squares (suc size)) (Coded (depth_of (suc size)) (prediction_of unit.pred))

length-split : (size : ℕ) (a b c d : Tree) → length (squares_of size a) ≡ squares size →
    length (squares_of size b) ≡ squares size → length (squares_of size c) ≡ squares size →
    length (squares_of size d) ≡ squares size →
    length (squares_of (suc size) (Split a b c d)) ≡ squares (suc size)
length-split size a b c d first second third fourth =
    rw (
      length-append (squares_of size a) (squares_of size b ++
          (squares_of size c ++ squares_of size d)),
      length-append (squares_of size b) (squares_of size c ++ squares_of size d),
      length-append (squares_of size c) (squares_of size d),
    ) (omega (arith, first, second, third, fourth))

pub length-tree_at : (here : Site) (plan : Plan) (size address : ℕ) →
    length (squares_of size (tree_at here plan size address)) ≡ squares size
unfolding tree_at
length-tree_at here plan zero address =
    length-either zero (is_outside here address) Outside _ (length-outside zero)
    (length-leaf_at plan zero address (slice_get plan.units address))
length-tree_at here plan (suc size) address =
    let n : ℕ = squares size in
    length-either (suc size) (is_outside here address) Outside _ (length-outside (suc size))
    (length-either (suc size) (is_leaf (suc size) (slice_get plan.units address)) _ _
    (length-leaf_at plan (suc size) address (slice_get plan.units address))
    (length-split size _ _ _ _ (length-tree_at here plan size address)
    (length-tree_at here plan size (address + n)) (length-tree_at here plan size (address + 2 * n))
    (length-tree_at here plan size (address + 3 * n))))

length-block : (here : Site) (plan : Plan) →
    length (squares_of greatest_size (tree_of here plan)) ≡ 64
length-block here plan = length-tree_at here plan greatest_size 0

pub length-plans : (width height index : ℕ) (plans : List Plan) →
    length (squares_of_plans width height index plans) ≡ 64 * length plans
length-plans width height index [] = refl
length-plans width height index (plan ∷ plans) =
    let block : List Square = squares_of greatest_size (tree_of (site width height index) plan) in
    let more : List Square = squares_of_plans width height (index + 1) plans in
    length-append block more ∙
    omega (
      arith,
      length-block (site width height index) plan,
      length-plans width height (index + 1) plans,
    )

-- ---- where the squares of a plan stand

pub square_in_plans : (width height first : ℕ) (plans : List Plan) (k : ℕ) (plan : Plan) (a : ℕ) →
    slice_get plans k ≡ Some plan → a < 64 →
    slice_index_or (squares_of_plans width height first plans) (64 * k + a) Unavailable ≡
    slice_index_or (squares_of greatest_size (tree_of (site width height (first + k)) plan)) a
    Unavailable
square_in_plans width height first [] k plan a there inside =
    absurd (true≢false (sym (ap is_some there)))
square_in_plans width height first (head ∷ plans) zero plan a there inside =
    let block : List Square = squares_of greatest_size (tree_of (site width height first) head) in
    let more : List Square = squares_of_plans width height (first + 1) plans in
    let here : 64 * 0 + a ≡ a = omega arith in
    let same : first ≡ first + 0 = omega arith in
    let all : length block ≡ 64 = length-block (site width height first) head in
    ap (λ i. slice_index_or (block ++ more) i Unavailable) here ∙
    get_or_append_left block more Unavailable a (omega (arith, all, inside)) ∙
    ap₂ (λ f p. slice_index_or (squares_of greatest_size (tree_of (site width height f) p)) a
    Unavailable) same (some_same head plan there)
square_in_plans width height first (head ∷ plans) (suc k) plan a there inside =
    let block : List Square = squares_of greatest_size (tree_of (site width height first) head) in
    let more : List Square = squares_of_plans width height (first + 1) plans in
    let all : length block ≡ 64 = length-block (site width height first) head in
    let here : 64 * suc k + a ≡ length block + (64 * k + a) = omega (arith, all) in
    let same : first + 1 + k ≡ first + suc k = omega arith in
    ap (λ i. slice_index_or (block ++ more) i Unavailable) here ∙
    get_or-append-add block more (64 * k + a) Unavailable ∙
    square_in_plans width height (first + 1) plans k plan a there inside ∙
    ap (λ f. slice_index_or (squares_of greatest_size (tree_of (site width height f) plan)) a
    Unavailable) same

-- the squares of one block more
append_plan : (width height first : ℕ) (plans : List Plan) (plan : Plan) →
    squares_of_plans width height first (plans ++ plan ∷ []) ≡
    squares_of_plans width height first plans ++
    squares_of greatest_size (tree_of (site width height (first + length plans)) plan)
append_plan width height first [] plan =
    let same : first ≡ first + 0 = omega arith in
    append-nil (squares_of greatest_size (tree_of (site width height first) plan)) ∙
    ap (λ f. squares_of greatest_size (tree_of (site width height f) plan)) same
append_plan width height first (head ∷ plans) plan =
    let block : List Square = squares_of greatest_size (tree_of (site width height first) head) in
    let more : List Square = squares_of_plans width height (first + 1) plans in
    let last : ℕ → List Square =
    λ f. squares_of greatest_size (tree_of (site width height f) plan) in
    let same : first + 1 + length plans ≡ first + suc (length plans) = omega arith in
    ap (λ l. block ++ l) (append_plan width height (first + 1) plans plan) ∙
    ap (λ f. block ++ (more ++ last f)) same ∙
    sym (append_assoc block more (last (first + suc (length plans))))

pub plans_are_appended : PlansAreAppended
plans_are_appended here plans plan long =
    append_plan here.width here.height 0 plans plan ∙
    ap (λ k. squares_before here plans ++
    squares_of greatest_size (tree_of (site here.width here.height k) plan))
    (zero-add (length plans) ∙ long)

-- ---- choices

where_true : (test : Bool) (a b : Square) → test ≡ true → cond test a b ≡ a
where_true test a b e = ap (λ t. cond t a b) e

where_false : (test : Bool) (a b : Square) → (test ≡ true → ⊥) → cond test a b ≡ b
where_false true a b h = absurd (h refl)
where_false false a b h = refl

same_where : (test : Bool) (a b : Square) → (test ≡ true → a ≡ b) →
    cond test a Unavailable ≡ cond test b Unavailable
same_where true a b h = h refl
same_where false a b h = refl

out_of : (a b : Bool) → (a ≡ true → ⊥) → (b ≡ true → ⊥) → a || b ≡ false
out_of true b h k = absurd (h refl)
out_of false true h k = absurd (k refl)
out_of false false h k = refl

-- ---- edges

on_right_is : (plans : List Plan) (has_block : Bool) (k : ℕ) (edges : Option UnitEdges) (i : ℕ) →
    AreSeen has_block plans k edges → has_block ≡ true → i < 8 →
    on_right edges i ≡ square_or_none (unit_of_plan (slice_get plans k) (address_of 7 i))
on_right_is plans has_block k None i seen there below = absurd (true≢false (sym there ∙ seen))
on_right_is plans has_block k (Some edges) i seen there below =
    ap square_or_none (seen.1.right i below)

on_right_past : (plans : List Plan) (has_block : Bool) (k : ℕ) (edges : Option UnitEdges) (i : ℕ) →
    AreSeen has_block plans k edges → 8 ≤ i → on_right edges i ≡ Unavailable
on_right_past plans has_block k None i seen past = refl
on_right_past plans has_block k (Some edges) i seen past =
    ap square_or_none (slice_get_past edges.right i (omega (arith, seen.1.right_count, past)))

on_bottom_is : (plans : List Plan) (has_block : Bool) (k : ℕ) (edges : Option UnitEdges) (i : ℕ) →
    AreSeen has_block plans k edges → has_block ≡ true → i < 8 →
    on_bottom edges i ≡ square_or_none (unit_of_plan (slice_get plans k) (address_of i 7))
on_bottom_is plans has_block k None i seen there below = absurd (true≢false (sym there ∙ seen))
on_bottom_is plans has_block k (Some edges) i seen there below =
    ap square_or_none (seen.1.bottom i below)

-- ---- squares around, region by region

around_corner : (around : UnitsAround) (earlier : List Square) →
    square_around around earlier 7 7 ≡ on_bottom around.above_left 7
around_corner around earlier = refl

around_left : (around : UnitsAround) (earlier : List Square) (row : ℕ) → 8 ≤ row →
    square_around around earlier 7 row ≡ on_right around.left (row - 8)
around_left around earlier row low =
    where_false (nat_lt row 8) _ _ (λ t. absurd (grind (arith, nat_tests)))

around_above : (around : UnitsAround) (earlier : List Square) (column : ℕ) → 8 ≤ column →
    column < 16 → square_around around earlier column 7 ≡ on_bottom around.above (column - 8)
around_above around earlier column right near =
    where_false (nat_lt column 8) _ _ (λ t. absurd (grind (arith, nat_tests))) ∙
    where_true (nat_lt column 16) _ _ (grind (arith, nat_tests))

around_above_right : (around : UnitsAround) (earlier : List Square) (column : ℕ) → 16 ≤ column →
    square_around around earlier column 7 ≡ on_bottom around.above_right (column - 16)
around_above_right around earlier column right =
    where_false (nat_lt column 8) _ _ (λ t. absurd (grind (arith, nat_tests))) ∙
    where_false (nat_lt column 16) _ _ (λ t. absurd (grind (arith, nat_tests)))

around_inside : (around : UnitsAround) (earlier : List Square) (column row : ℕ) → 8 ≤ column →
    8 ≤ row → square_around around earlier column row ≡ square_inside earlier column row
around_inside around earlier column row right low =
    where_false (nat_lt column 8) _ _ (λ t. absurd (grind (arith, nat_tests))) ∙
    where_false (nat_lt row 8) _ _ (λ t. absurd (grind (arith, nat_tests)))

inside_own : (earlier : List Square) (column row : ℕ) → column < 16 → row < 16 →
    square_inside earlier column row ≡
    slice_index_or earlier (address_of (column - 8) (row - 8)) Unavailable
inside_own earlier column row near high =
    where_true (nat_lt column 16 && nat_lt row 16) _ _ (grind (arith, nat_tests))

inside_later : (earlier : List Square) (column row : ℕ) → (column < 16 → row < 16 → ⊥) →
    square_inside earlier column row ≡ Unavailable
inside_later earlier column row later =
    where_false (nat_lt column 16 && nat_lt row 16) _ _
    (λ t. later (grind (arith, nat_tests)) (grind (arith, nat_tests)))

-- ---- numbers of blocks

nothing : Plan
nothing = record { units = []; luma = []; cb = []; cr = [] }

row_before : (row above columns : ℕ) → row ≡ above + 1 → row * columns ≡ above * columns + columns
row_before row above columns e = rw e (omega arith)

-- a block at this column and row of blocks, none of it outside at this square
inside_at : (width height k bx by a : ℕ) → k ≡ by * blocks_over width + bx →
    bx < blocks_over width → 8 * (8 * bx + column_of a) < width →
    8 * (8 * by + row_of a) < height → is_outside (site width height k) a ≡ false
unfolding is_outside
inside_at width height k bx by a e below across down =
    let columns : ℕ = blocks_over width in
    let at_column : k % columns ≡ bx = rw e (mod-mul-add by columns bx below) in
    let at_row : k / columns ≡ by = rw e (div-mul-add by columns bx below) in
    rw (at_column, at_row)
    (out_of (nat_le width (64 * bx + 8 * column_of a)) (nat_le height (64 * by + 8 * row_of a))
    (λ t. absurd (grind (arith, nat_tests))) (λ t. absurd (grind (arith, nat_tests))))

-- ---- what is seen of blocks before, of this one, and of later ones

module _ (here : Site) (plans : List Plan) (before : ArePlansBefore here plans) where
  abbrev columns : ℕ
  columns = blocks_over here.width

  abbrev done : List Square
  done = squares_before here plans

  length-done : length done ≡ 64 * here.index
  length-done = length-plans here.width here.height 0 plans ∙ ap (λ n. 64 * n) before.count

  place_at : (bx by u v x y : ℕ) → x ≡ 8 * bx + u → y ≡ 8 * by + v → u < 8 → v < 8 →
      place_of here x y ≡ 64 * (by * columns + bx) + address_of u v
  place_at bx by u v x y ex ey ub vb =
      let x_block : x / 8 ≡ bx = omega (arith, ex, ub) in
      let y_block : y / 8 ≡ by = omega (arith, ey, vb) in
      let x_in : x % 8 ≡ u = omega (arith, ex, ub) in
      let y_in : y % 8 ≡ v = omega (arith, ey, vb) in
      rw (x_block, y_block, x_in, y_in) refl

  seen_before : (earlier : List Square) (bx by u v : ℕ) → bx < columns →
      by * columns + bx < here.index → u < 8 → v < 8 → 8 * (8 * bx + u) < here.width →
      8 * (8 * by + v) < here.height →
      slice_index_or (done ++ earlier) (64 * (by * columns + bx) + address_of u v) Unavailable ≡
      square_or_none (unit_of_plan (slice_get plans (by * columns + bx)) (address_of u v))
  seen_before earlier bx by u v below first ub vb across down =
      let k : ℕ = by * columns + bx in
      let a : ℕ = address_of u v in
      let place = address_of_place u v ub vb in
      let plan : Plan = slice_index_or plans k nothing in
      let there : slice_get plans k ≡ Some plan =
      slice_get-get_or plans k nothing (omega (arith, before.count, first)) in
      let inside : is_outside (site here.width here.height k) a ≡ false =
      inside_at here.width here.height k bx by a refl below (rw (place.0) across)
      (rw (place.1) down) in
      let numbered : slice_index_or (squares_of greatest_size (tree_of (site here.width here.height
      (0 + k)) plan)) a Unavailable ≡ slice_index_or (squares_of greatest_size (tree_of (site
      here.width here.height k) plan)) a Unavailable =
      ap (λ i. slice_index_or (squares_of greatest_size (tree_of (site here.width here.height i)
      plan)) a Unavailable) (zero-add k) in
      get_or_append_left done earlier Unavailable (64 * k + a)
      (omega (arith, length-done, first, place.2)) ∙
      square_in_plans here.width here.height 0 plans k plan a there place.2 ∙
      numbered ∙
      (before.named k plan there).square a place.2 inside ∙
      ap (λ o. square_or_none (unit_of_plan o a)) (sym there)

  seen_own : (earlier : List Square) (a : ℕ) →
      slice_index_or (done ++ earlier) (64 * here.index + a) Unavailable ≡
      slice_index_or earlier a Unavailable
  seen_own earlier a =
      ap (λ n. slice_index_or (done ++ earlier) (n + a) Unavailable) (sym length-done) ∙
      get_or-append-add done earlier a Unavailable

  seen_later : (earlier : List Square) (k a : ℕ) → length earlier ≤ 64 → here.index < k →
      slice_index_or (done ++ earlier) (64 * k + a) Unavailable ≡ Unavailable
  seen_later earlier k a few later =
      get_or_past (done ++ earlier) (64 * k + a) Unavailable
      (omega (arith, length-append done earlier, length-done, few, later))

-- ---- what is seen of the window

far_of : (column : ℕ) → (column < 16 → ⊥) → 16 ≤ column
far_of column never = elim (cases_lt column 16) [ inl near ↦ absurd (never near) | inr far ↦ far ]

module _ (here : Site) (plans : List Plan) (around : UnitsAround) (earlier : List Square)
    (before : ArePlansBefore here plans) (lies : LieAround here plans around)
    (few : length earlier ≤ 64) (some : 0 < blocks_over here.width) where
  abbrev cx : ℕ
  cx = ctb_column here

  abbrev cy : ℕ
  cy = ctb_row here

  abbrev wide : ℕ
  wide = blocks_over here.width

  abbrev all : List Square
  all = squares_before here plans ++ earlier

  number : here.index ≡ cy * wide + cx
  number =
      sym (div-add-mod here.index wide) ∙ ap (λ n. n + cx) (mul_comm wide cy)

  below : cx < wide
  below = mod-lt here.index some

  -- a square of a block before
  known : (bx by u v x y k : ℕ) → bx < wide → by * wide + bx ≡ k → k < here.index → u < 8 → v < 8 →
      x ≡ 8 * bx + u → y ≡ 8 * by + v → 8 * x < here.width → 8 * y < here.height →
      slice_index_or all (place_of here x y) Unavailable ≡
      square_or_none (unit_of_plan (slice_get plans k) (address_of u v))
  known bx by u v x y k left is_k first ub vb ex ey across down =
      ap (λ p. slice_index_or all p Unavailable)
      (place_at here plans before bx by u v x y ex ey ub vb) ∙
      seen_before here plans before earlier bx by u v left (omega (arith, is_k, first)) ub vb
      (omega (arith, ex, across)) (omega (arith, ey, down)) ∙
      ap (λ n. square_or_none (unit_of_plan (slice_get plans n) (address_of u v))) is_k

  -- a square of a block behind this one
  unknown : (bx by u v x y : ℕ) → here.index < by * wide + bx → u < 8 → v < 8 → x ≡ 8 * bx + u →
      y ≡ 8 * by + v → slice_index_or all (place_of here x y) Unavailable ≡ Unavailable
  unknown bx by u v x y later ub vb ex ey =
      ap (λ p. slice_index_or all p Unavailable)
      (place_at here plans before bx by u v x y ex ey ub vb) ∙
      seen_later here plans before earlier (by * wide + bx) (address_of u v) few later

  record Window (column row : ℕ) : Type 0 where
    left : 8 ≤ 8 * cx + column
    top : 8 ≤ 8 * cy + row
    across : 8 * (8 * cx + column - 8) < here.width
    down : 8 * (8 * cy + row - 8) < here.height

  abbrev there : ℕ → ℕ → Square
  there column row =
      slice_index_or all (place_of here (8 * cx + column - 8) (8 * cy + row - 8)) Unavailable

  same_own : (column row : ℕ) → 8 ≤ column → column < 16 → 8 ≤ row → row < 16 →
      square_around around earlier column row ≡ there column row
  same_own column row right near low high =
      let u : ℕ = column - 8 in
      let v : ℕ = row - 8 in
      let e : cy * wide + cx ≡ here.index = sym number in
      around_inside around earlier column row right low ∙
      inside_own earlier column row near high ∙
      sym (ap (λ p. slice_index_or all p Unavailable)
      (place_at here plans before cx cy u v (8 * cx + column - 8) (8 * cy + row - 8)
      (omega (arith, right)) (omega (arith, low)) (omega (arith, near)) (omega (arith, high))) ∙
      ap (λ n. slice_index_or all (64 * n + address_of u v) Unavailable) e ∙
      seen_own here plans before earlier (address_of u v))

  same_later : (column row : ℕ) → 7 ≤ column → column < 24 → 8 ≤ row → row < 24 →
      (column < 16 → row < 16 → ⊥) → Window column row →
      there column row ≡ Unavailable
  same_later column row left right low high later w =
      let x : ℕ = 8 * cx + column - 8 in
      let y : ℕ = 8 * cy + row - 8 in
      let next : (cy + 1) * wide ≡ cy * wide + wide = row_before (cy + 1) cy wide refl in
      elim (cases_lt row 16) [
        | inl high_row ↦
            let far : 16 ≤ column = far_of column (λ near. later near high_row) in
            unknown (cx + 1) cy (column - 16) (row - 8) x y (omega (arith, number))
            (omega (arith, right)) (omega (arith, high_row)) (omega (arith, far))
            (omega (arith, low))
        | inr low_row ↦ elim (cases_lt column 8) [
          | inl before_it ↦
              unknown (cx - 1) (cy + 1) 7 (row - 16) x y
              (omega (arith, number, next, below, w.left, before_it)) (lit< tt)
              (omega (arith, high)) (omega (arith, left, before_it, w.left))
              (omega (arith, low_row))
          | inr behind_it ↦ elim (cases_lt column 16) [
            | inl near ↦
                unknown cx (cy + 1) (column - 8) (row - 16) x y
                (omega (arith, number, next, some)) (omega (arith, near))
                (omega (arith, high)) (omega (arith, behind_it)) (omega (arith, low_row))
            | inr far ↦
                unknown (cx + 1) (cy + 1) (column - 16) (row - 16) x y
                (omega (arith, number, next, some)) (omega (arith, right))
                (omega (arith, high)) (omega (arith, far)) (omega (arith, low_row))
          ]
        ]
      ]

  same_left : (row : ℕ) → 8 ≤ row → row < 16 → Window 7 row →
      square_around around earlier 7 row ≡ there 7 row
  same_left row low high w =
      let has : 0 < cx = omega (arith, w.left) in
      let seen = on_right_is plans (has_left here) (here.index - 1) around.left (row - 8) lies.left
      (grind (arith, nat_tests)) (omega (arith, high)) in
      around_left around earlier row low ∙ seen ∙
      sym (known (cx - 1) cy 7 (row - 8) (8 * cx + 7 - 8) (8 * cy + row - 8) (here.index - 1)
      (omega (arith, below)) (omega (arith, number, has)) (omega (arith, number, has)) (lit< tt)
      (omega (arith, high)) (omega (arith, has)) (omega (arith, low)) w.across w.down)

  same_corner : Window 7 7 → square_around around earlier 7 7 ≡ there 7 7
  same_corner w =
      let right : 0 < cx = omega (arith, w.left) in
      let low : 0 < cy = omega (arith, w.top) in
      let rows : cy * wide ≡ (cy - 1) * wide + wide =
      row_before cy (cy - 1) wide (omega (arith, low)) in
      let seen = on_bottom_is plans (has_left here && has_above here) (here.index - wide - 1)
      around.above_left 7 lies.above_left (grind (arith, nat_tests)) (lit< tt) in
      around_corner around earlier ∙ seen ∙
      sym (known (cx - 1) (cy - 1) 7 7 (8 * cx + 7 - 8) (8 * cy + 7 - 8) (here.index - wide - 1)
      (omega (arith, below)) (omega (arith, number, rows, right))
      (omega (arith, number, rows, right)) (lit< tt) (lit< tt) (omega (arith, right))
      (omega (arith, low)) w.across w.down)

  same_above : (column : ℕ) → 8 ≤ column → column < 16 → Window column 7 →
      square_around around earlier column 7 ≡ there column 7
  same_above column right near w =
      let low : 0 < cy = omega (arith, w.top) in
      let rows : cy * wide ≡ (cy - 1) * wide + wide =
      row_before cy (cy - 1) wide (omega (arith, low)) in
      let seen = on_bottom_is plans (has_above here) (here.index - wide) around.above (column - 8)
      lies.above (grind (arith, nat_tests)) (omega (arith, near)) in
      around_above around earlier column right near ∙ seen ∙
      sym (known cx (cy - 1) (column - 8) 7 (8 * cx + column - 8) (8 * cy + 7 - 8)
      (here.index - wide) below (omega (arith, number, rows)) (omega (arith, number, rows, some))
      (omega (arith, near)) (lit< tt) (omega (arith, right)) (omega (arith, low)) w.across
      w.down)

  same_above_right : (column : ℕ) → 16 ≤ column → column < 24 → Window column 7 →
      square_around around earlier column 7 ≡ there column 7
  same_above_right column right near w =
      let low : 0 < cy = omega (arith, w.top) in
      let next : cx + 1 < wide = omega (arith, right, w.across) in
      let rows : cy * wide ≡ (cy - 1) * wide + wide =
      row_before cy (cy - 1) wide (omega (arith, low)) in
      let seen = on_bottom_is plans (has_above_right here) (here.index - wide + 1)
      around.above_right (column - 16) lies.above_right (grind (arith, nat_tests))
      (omega (arith, near)) in
      around_above_right around earlier column right ∙ seen ∙
      sym (known (cx + 1) (cy - 1) (column - 16) 7 (8 * cx + column - 8) (8 * cy + 7 - 8)
      (here.index - wide + 1) next (omega (arith, number, rows))
      (omega (arith, number, rows, next)) (omega (arith, near)) (lit< tt)
      (omega (arith, right)) (omega (arith, low)) w.across w.down)

  in_row_above : (column : ℕ) → 7 ≤ column → column < 24 → Window column 7 →
      square_around around earlier column 7 ≡ there column 7
  in_row_above column left right w = elim (cases_lt column 8) [
    | inl column_7 ↦
        let at_column : 7 ≡ column = omega (arith, left, column_7) in
        subst (λ x. Window x 7 → square_around around earlier x 7 ≡ there x 7) at_column
        same_corner w
    | inr behind ↦ elim (cases_lt column 16) [
      | inl near ↦ same_above column behind near w
      | inr far ↦ same_above_right column far right w
    ]
  ]

  nothing_later : (column row : ℕ) → 8 ≤ column → column < 24 → 8 ≤ row → row < 24 →
      (column < 16 → row < 16 → ⊥) → Window column row →
      square_around around earlier column row ≡ there column row
  nothing_later column row left right top low later w =
      around_inside around earlier column row left top ∙ inside_later earlier column row later ∙
      sym (same_later column row (omega (arith, left)) right top low later w)

  below_left : (row : ℕ) → 16 ≤ row → row < 24 → Window 7 row →
      square_around around earlier 7 row ≡ there 7 row
  below_left row low last w =
      around_left around earlier row (omega (arith, low)) ∙
      on_right_past plans (has_left here) (here.index - 1) around.left (row - 8) lies.left
      (omega (arith, low)) ∙
      sym (same_later 7 row (lit≤ tt) (lit< tt) (omega (arith, low)) last
      (λ near high. omega (arith, low, high)) w)

  in_column_before : (row : ℕ) → 8 ≤ row → row < 24 → Window 7 row →
      square_around around earlier 7 row ≡ there 7 row
  in_column_before row top low w = elim (cases_lt row 16) [
    | inl high ↦ same_left row top high w
    | inr last ↦ below_left row last low w
  ]

  in_rows : (column row : ℕ) → 7 ≤ column → column < 24 → 8 ≤ row → row < 24 →
      Window column row → square_around around earlier column row ≡ there column row
  in_rows column row left right top low w = elim (cases_lt column 8) [
    | inl column_7 ↦
        let at_column : 7 ≡ column = omega (arith, left, column_7) in
        subst (λ x. Window x row → square_around around earlier x row ≡ there x row) at_column
        (in_column_before row top low) w
    | inr behind ↦ elim (cases_lt column 16) [
      | inl near ↦ elim (cases_lt row 16) [
        | inl high ↦ same_own column row behind near top high
        | inr last ↦
            nothing_later column row behind right top low (λ c r. omega (arith, last, r)) w
      ]
      | inr far ↦ nothing_later column row behind right top low (λ c r. omega (arith, far, c)) w
    ]
  ]

  same_square : (column row : ℕ) → 7 ≤ column → column < 24 → 7 ≤ row → row < 24 →
      Window column row → square_around around earlier column row ≡ there column row
  same_square column row left right top low w = elim (cases_lt row 8) [
    | inl row_7 ↦
        let at_row : 7 ≡ row = omega (arith, top, row_7) in
        subst (λ y. Window column y → square_around around earlier column y ≡ there column y) at_row
        (in_row_above column left right) w
    | inr behind ↦ in_rows column row left right behind low w
  ]

-- ---- what is seen

blocks_over_some : (width x : ℕ) → x < width → 0 < blocks_over width
blocks_over_some width x inside = omega (arith, inside)

pub blocks_around : BlocksAroundAreThoseOfPicture
unfolding look_around look_picture
blocks_around here plans around earlier column row before lies few left right top low =
    let x : ℕ = 8 * ctb_column here + column in
    let y : ℕ = 8 * ctb_row here + row in
    same_where
    (nat_le 8 x && nat_le 8 y && nat_lt (8 * (x - 8)) here.width &&
    nat_lt (8 * (y - 8)) here.height)
    (square_around around earlier column row)
    (slice_index_or (squares_before here plans ++ earlier) (place_of here (x - 8) (y - 8))
    Unavailable)
    (λ inside.
    let p = and_parts (nat_le 8 x && nat_le 8 y && nat_lt (8 * (x - 8)) here.width)
    (nat_lt (8 * (y - 8)) here.height) inside in
    let q = and_parts (nat_le 8 x && nat_le 8 y) (nat_lt (8 * (x - 8)) here.width) p.0 in
    let r = and_parts (nat_le 8 x) (nat_le 8 y) q.0 in
    let across : 8 * (x - 8) < here.width = ltb-true _ _ q.1 in
    same_square here plans around earlier before lies few
    (blocks_over_some here.width (8 * (x - 8)) across) column row left right top low
    (record {
      left = leb-true 8 x r.0;
      top = leb-true 8 y r.1;
      across = across;
      down = ltb-true _ _ p.1;
    }))
