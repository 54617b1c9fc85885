-- When the units of a node name its coding units, by the code's tests.
use Rattle.std.proofs.Common.{◌≡◌, ℕ, zero, suc, ◌+◌, ◌-◌, ◌*◌, ◌<◌, ◌≤◌, Bool, true, false, List, ◌++◌, replicate, length, refl, ap, sym, ◌∙◌, subst, arith, inl, inr}
use Rattle.std.specs.Prelude.{slice_get, slice_index_or, Some, ◌⊎◌}
use Rattle.std.proofs.lemmas.Bool.{cases_lt, true≢false}
use Rattle.std.proofs.lemmas.List.{get_or-replicate}
use Rattle.std.proofs.lemmas.Option.{slice_get-get_or}
use Rattle.hv_block.specs.Plans.{opening_unit}
use Rattle.hv_plan.specs.declared.prediction.Unit.{Unit}
use Rattle.hv_tree_model.specs.Trees.{Split, Outside, depth_of, log2TrafoSize, transform_units}
use Rattle.hv_tree_model.specs.Sites.{Site, squares, is_outside}
use Rattle.hv_tree_model.specs.EarlierUnits.{Square, Unavailable, Coded, squares_of}
use Rattle.hv_tree_model.specs.Plans.{Plan, prediction_of, coded_square, square_or_none, transform_units_at, tree_at}
use Rattle.hv_syntax.specs.Blocks.{ends}
use Rattle.hv_near.specs.Squares.{own_square, NamesNode}
use Rattle.hv_syntax.proofs.NodeLemmas.{outside_tree, leaf_tree, split_tree, size_of_split, four_at}
use Rattle.hv_unit_model.proofs.AroundLemmas.{length-tree_at}
use Rattle.hv_tree_model.proofs.NodeLemmas.{squares_above_0, leaf_squares}

-- ---- a row of squares by the first and the others
pub each_from : (P : ℕ → Type 0) (from count : ℕ) → P from →
    ((i : ℕ) → i < count - 1 → P (from + 1 + i)) → (i : ℕ) → i < count → P (from + i)
each_from P from count first rest zero h =
    let e : from ≡ from + zero = omega arith in subst P e first
each_from P from count first rest (suc i) h =
    let e : from + 1 + i ≡ from + suc i = omega arith in subst P e (rest i (omega (arith, h)))

pub others_of : (P : ℕ → Type 0) (from count : ℕ) → ((i : ℕ) → i < count → P (from + i)) →
    (i : ℕ) → i < count - 1 → P (from + 1 + i)
others_of P from count all i h =
    let e : from + suc i ≡ from + 1 + i = omega arith in
    subst P e (all (suc i) (omega (arith, h)))

-- ---- what is known of a square
abbrev is_there : Square → Bool
is_there Unavailable = false
is_there (Coded depth prediction) = true

abbrev depth_in : Square → ℕ
depth_in Unavailable = zero
depth_in (Coded depth prediction) = depth

own_is_there : (plan : Plan) (address : ℕ) → address < length plan.units →
    is_there (own_square plan address) ≡ true
own_is_there plan address h =
    ap (λ o. is_there (square_or_none o)) (slice_get-get_or plan.units address opening_unit h)

-- ---- a node outside the picture
pub names_outside : (site : Site) (plan : Plan) (size address : ℕ) →
    ((i : ℕ) → i < squares size → is_outside site (address + i) ≡ true) →
    NamesNode site plan size address
names_outside site plan size address k = record {
  square = λ i h inside. absurd (true≢false (sym (k i h) ∙ inside));
}

outside_squares : (size : ℕ) → squares_of size Outside ≡ replicate (squares size) Unavailable
outside_squares zero = refl
outside_squares (suc size) = refl

inside_is_none : (site : Site) (plan : Plan) (size address i : ℕ) (b : Bool) →
    length plan.units ≡ 64 → address + squares size ≤ 64 → is_outside site address ≡ true →
    NamesNode site plan size address → i < squares size → is_outside site (address + i) ≡ b →
    b ≡ true
inside_is_none site plan size address i true all room outside names h e = refl
inside_is_none site plan size address i false all room outside names h e =
    let at : List Square → Square = λ l. slice_index_or l i Unavailable in
    let is_none : own_square plan (address + i) ≡ Unavailable =
    sym (names.square i h e) ∙
    ap (λ t. at (squares_of size t)) (outside_tree site plan size address outside) ∙
    ap at (outside_squares size) ∙
    get_or-replicate (squares size) i Unavailable Unavailable h in
    absurd (true≢false (sym (own_is_there plan (address + i) (omega (arith, all, room, h))) ∙
    ap is_there is_none))

pub outside_of_names : (site : Site) (plan : Plan) (size address : ℕ) → length plan.units ≡ 64 →
    address + squares size ≤ 64 → is_outside site address ≡ true →
    NamesNode site plan size address →
    (i : ℕ) → i < squares size → is_outside site (address + i) ≡ true
outside_of_names site plan size address all room outside names i h =
    inside_is_none site plan size address i (is_outside site (address + i)) all room outside names h
    refl

-- ---- a coding unit
pub names_leaf : (site : Site) (plan : Plan) (size address : ℕ) (u : Unit) →
    is_outside site address ≡ false → slice_get plan.units address ≡ Some u →
    ends size u.depth ≡ true → u.depth ≡ depth_of size →
    ((i : ℕ) → i < squares size → is_outside site (address + i) ≡ false →
    own_square plan (address + i) ≡ coded_square u) →
    NamesNode site plan size address
names_leaf site plan size address u outside there leaf depth same = record {
  square = λ i h inside.
      let at : List Square → Square = λ l. slice_index_or l i Unavailable in
      ap (λ t. at (squares_of size t)) (leaf_tree site plan size address u outside there leaf) ∙
      ap at (leaf_squares size (prediction_of u.pred)
      (transform_units_at plan (log2TrafoSize size) address (transform_units size))) ∙
      get_or-replicate (squares size) i (Coded (depth_of size) (prediction_of u.pred)) Unavailable h ∙
      ap (λ d. Coded d (prediction_of u.pred)) (sym depth) ∙
      sym (same i h inside);
}

named_square : (site : Site) (plan : Plan) (size address : ℕ) (u : Unit) →
    is_outside site address ≡ false → slice_get plan.units address ≡ Some u →
    ends size u.depth ≡ true → NamesNode site plan size address →
    (i : ℕ) → i < squares size → is_outside site (address + i) ≡ false →
    own_square plan (address + i) ≡ Coded (depth_of size) (prediction_of u.pred)
named_square site plan size address u outside there leaf names i h inside =
    let at : List Square → Square = λ l. slice_index_or l i Unavailable in
    sym (names.square i h inside) ∙
    ap (λ t. at (squares_of size t)) (leaf_tree site plan size address u outside there leaf) ∙
    ap at (leaf_squares size (prediction_of u.pred)
    (transform_units_at plan (log2TrafoSize size) address (transform_units size))) ∙
    get_or-replicate (squares size) i (Coded (depth_of size) (prediction_of u.pred)) Unavailable h

pub depth_of_names : (site : Site) (plan : Plan) (size address : ℕ) (u : Unit) →
    is_outside site address ≡ false → slice_get plan.units address ≡ Some u →
    ends size u.depth ≡ true → NamesNode site plan size address → u.depth ≡ depth_of size
depth_of_names site plan size address u outside there leaf names =
    let e : address + zero ≡ address = omega arith in
    ap (λ o. depth_in (square_or_none o)) (sym there) ∙
    ap (λ (a : ℕ). depth_in (own_square plan a)) (sym e) ∙
    ap depth_in (named_square site plan size address u outside there leaf names zero
    (squares_above_0 size) (subst (λ (a : ℕ). is_outside site a ≡ false) (sym e) outside))

pub squares_of_names : (site : Site) (plan : Plan) (size address : ℕ) (u : Unit) →
    is_outside site address ≡ false → slice_get plan.units address ≡ Some u →
    ends size u.depth ≡ true → NamesNode site plan size address →
    (i : ℕ) → i < squares size → is_outside site (address + i) ≡ false →
    own_square plan (address + i) ≡ coded_square u
squares_of_names site plan size address u outside there leaf names i h inside =
    named_square site plan size address u outside there leaf names i h inside ∙
    ap (λ d. Coded d (prediction_of u.pred))
    (sym (depth_of_names site plan size address u outside there leaf names))

-- ---- a node that is split
part_at : (site : Site) (plan : Plan) (size address shift i : ℕ) (all : List Square) → shift ≤ i →
    i < shift + squares size →
    ((j : ℕ) → j < squares size → slice_index_or all (shift + j) Unavailable ≡
    slice_index_or (squares_of size (tree_at site plan size (address + shift))) j Unavailable) →
    NamesNode site plan size (address + shift) → is_outside site (address + i) ≡ false →
    slice_index_or all i Unavailable ≡ own_square plan (address + i)
part_at site plan size address shift i all least most part names inside =
    let j : ℕ = i - shift in
    let below : j < squares size = omega (arith, least, most) in
    let e : shift + j ≡ i = omega (arith, least) in
    let f : address + shift + j ≡ address + i = omega (arith, least) in
    ap (λ (m : ℕ). slice_index_or all m Unavailable) (sym e) ∙ part j below ∙
    names.square j below (subst (λ (m : ℕ). is_outside site m ≡ false) (sym f) inside) ∙
    ap (own_square plan) f

-- of the four parts of this size
pub record Parts (site : Site) (plan : Plan) (size step address : ℕ) : Type 0 where
  pub first : NamesNode site plan size address
  pub second : NamesNode site plan size (address + step)
  pub third : NamesNode site plan size (address + 2 * step)
  pub fourth : NamesNode site plan size (address + 3 * step)

whole_at : (site : Site) (plan : Plan) (size address i : ℕ) (all : List Square) →
    Parts site plan size (squares size) address → is_outside site (address + i) ≡ false →
    i < 4 * squares size →
    ((j : ℕ) → j < squares size → (slice_index_or all j Unavailable ≡
    slice_index_or (squares_of size (tree_at site plan size address)) j Unavailable) ×
    (slice_index_or all (squares size + j) Unavailable ≡
    slice_index_or (squares_of size (tree_at site plan size (address + squares size))) j Unavailable) ×
    (slice_index_or all (2 * squares size + j) Unavailable ≡
    slice_index_or (squares_of size (tree_at site plan size (address + 2 * squares size))) j Unavailable) ×
    (slice_index_or all (3 * squares size + j) Unavailable ≡
    slice_index_or (squares_of size (tree_at site plan size (address + 3 * squares size))) j Unavailable)) →
    (i < squares size) ⊎ (squares size ≤ i) → (i < 2 * squares size) ⊎ (2 * squares size ≤ i) →
    (i < 3 * squares size) ⊎ (3 * squares size ≤ i) →
    slice_index_or all i Unavailable ≡ own_square plan (address + i)
whole_at site plan size address i all parts inside most four (inl a) b c =
    (four i a).0 ∙ parts.first.square i a inside
whole_at site plan size address i all parts inside most four (inr a) (inl b) c =
    part_at site plan size address (squares size) i all a (omega (arith, b)) (λ j h. (four j h).1)
    parts.second inside
whole_at site plan size address i all parts inside most four (inr a) (inr b) (inl c) =
    part_at site plan size address (2 * squares size) i all b (omega (arith, c))
    (λ j h. (four j h).2) parts.third inside
whole_at site plan size address i all parts inside most four (inr a) (inr b) (inr c) =
    part_at site plan size address (3 * squares size) i all c (omega (arith, most))
    (λ j h. (four j h).3) parts.fourth inside

pub names_by_parts : (site : Site) (plan : Plan) (size address : ℕ) →
    tree_at site plan (suc size) address ≡
    Split (tree_at site plan size address) (tree_at site plan size (address + squares size))
    (tree_at site plan size (address + 2 * squares size))
    (tree_at site plan size (address + 3 * squares size)) →
    Parts site plan size (squares size) address → NamesNode site plan (suc size) address
names_by_parts site plan size address is_split parts =
    let n : ℕ = squares size in
    let at : ℕ → List Square = λ a. squares_of size (tree_at site plan size a) in
    let count : (a : ℕ) → length (at a) ≡ squares size = λ a. length-tree_at site plan size a in
    let whole : List Square = at address ++ (at (address + n) ++ (at (address + 2 * n) ++
    at (address + 3 * n))) in
    let is_whole : squares_of (suc size) (tree_at site plan (suc size) address) ≡ whole =
    ap (squares_of (suc size)) is_split in
    let four = four_at n (at address) (at (address + n)) (at (address + 2 * n))
    (at (address + 3 * n)) (count address) (count (address + n)) (count (address + 2 * n)) in
    record {
      square = λ i h inside. ap (λ (l : List Square). slice_index_or l i Unavailable) is_whole ∙
          whole_at site plan size address i whole parts inside h four
          (cases_lt i n) (cases_lt i (2 * n)) (cases_lt i (3 * n));
    }

names_split : (site : Site) (plan : Plan) (size address : ℕ) (u : Unit) →
    is_outside site address ≡ false → slice_get plan.units address ≡ Some u →
    ends (suc size) u.depth ≡ false → Parts site plan size (squares size) address →
    NamesNode site plan (suc size) address
names_split site plan size address u outside there split parts =
    names_by_parts site plan size address (split_tree site plan size address u outside there split)
    parts

-- by the code's step and size
abbrev NamedBySplit : Site → Plan → ℕ → ℕ → ℕ → Unit → ℕ → Type 0
NamedBySplit site plan below step address u size =
    step ≡ squares below → is_outside site address ≡ false →
    slice_get plan.units address ≡ Some u → ends size u.depth ≡ false →
    Parts site plan below step address → NamesNode site plan size address

named_by_split : (site : Site) (plan : Plan) (below step address : ℕ) (u : Unit) →
    NamedBySplit site plan below step address u (suc below)
named_by_split site plan below step address u is_step outside there split parts =
    names_split site plan below address u outside there split
    (subst (λ (n : ℕ). Parts site plan below n address) is_step parts)

pub names_parts_back : (site : Site) (plan : Plan) (size step address : ℕ) (u : Unit) →
    step ≡ squares (size - 1) → is_outside site address ≡ false →
    slice_get plan.units address ≡ Some u → ends size u.depth ≡ false →
    Parts site plan (size - 1) step address → NamesNode site plan size address
names_parts_back site plan size step address u is_step outside there split parts =
    subst (λ (n : ℕ). NamedBySplit site plan (size - 1) step address u n)
    (sym (size_of_split size u.depth split)) (named_by_split site plan (size - 1) step address u)
    is_step outside there split parts
