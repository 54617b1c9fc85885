-- Nodes of a block's quadtree: the trees that the units stand for, their squares, and their bins.
use Rattle.std.proofs.Common.{◌≡◌, ℕ, zero, suc, ◌+◌, ◌-◌, ◌*◌, ◌<◌, ◌≤◌, true, false, List, ◌++◌, length, refl, ap, sym, ◌∙◌, subst, arith, length-append}
use Rattle.std.specs.Prelude.{slice_get, slice_index_or, Some, ◌⊎◌}
use Rattle.std.proofs.Common.{inl, inr}
use Rattle.std.proofs.lemmas.Bool.{cases_lt, true≢false}
use Rattle.std.proofs.lemmas.List.{get_or_append_left, get_or-append_right}
use Rattle.hv_plan.specs.declared.prediction.Unit.{Unit}
use Rattle.hv_tree_model.specs.Trees.{Tree, Split, Outside}
use Rattle.hv_tree_model.specs.Sites.{Site, squares, is_outside}
use Rattle.hv_tree_model.specs.EarlierUnits.{Square, Unavailable, squares_of, after}
use Rattle.hv_tree_model.specs.Plans.{Plan, leaf_of, tree_at}
use Rattle.hv_syntax.specs.declared.block.Block.{Block}
use Rattle.hv_syntax.specs.Blocks.{plan_of, place_of, node_of, ends}
use Rattle.hv_near.specs.Squares.{own_square, Shows, NamesNode}
use Rattle.hv_unit_model.proofs.AroundLemmas.{length-tree_at}
use Rattle.hv_tree_model.proofs.NodeLemmas.{squares_above_0}

-- ---- the tree of a node
pub outside_tree : (site : Site) (p : Plan) (size address : ℕ) → is_outside site address ≡ true →
    tree_at site p size address ≡ Outside
unfolding tree_at
outside_tree site p zero address h = rw h refl
outside_tree site p (suc size) address h = rw h refl

pub leaf_tree : (site : Site) (p : Plan) (size address : ℕ) (u : Unit) →
    is_outside site address ≡ false → slice_get p.units address ≡ Some u →
    ends size u.depth ≡ true → tree_at site p size address ≡ leaf_of p size address u.pred
unfolding tree_at
leaf_tree site p zero address u h g e = rw h (rw g refl)
leaf_tree site p (suc size) address u h g e = rw h (rw g (rw e refl))

pub split_tree : (site : Site) (p : Plan) (size address : ℕ) (u : Unit) →
    is_outside site address ≡ false → slice_get p.units address ≡ Some u →
    ends (suc size) u.depth ≡ false → tree_at site p (suc size) address ≡
    Split (tree_at site p size address) (tree_at site p size (address + squares size))
    (tree_at site p size (address + 2 * squares size))
    (tree_at site p size (address + 3 * squares size))
unfolding tree_at
split_tree site p size address u h g e = rw h (rw g (rw e refl))

pub size_of_split : (size depth : ℕ) → ends size depth ≡ false → size ≡ suc (size - 1)
size_of_split zero depth e = absurd (true≢false e)
size_of_split (suc size) depth e = omega arith

-- ---- what is seen behind a node
behind : (n m a : ℕ) (xs ys : List Square) (f : ℕ → Square) → length xs ≡ n → length ys ≡ m →
    (a < n → slice_index_or xs a Unavailable ≡ f a) →
    ((i : ℕ) → i < m → n + i ≡ a → slice_index_or ys i Unavailable ≡ f (n + i)) → a < n + m →
    (a < n) ⊎ (n ≤ a) → slice_index_or (xs ++ ys) a Unavailable ≡ f a
behind n m a xs ys f e g h k l (inl below) =
    get_or_append_left xs ys Unavailable a (omega (arith, e, below)) ∙ h below
behind n m a xs ys f e g h k l (inr above) =
    let same : n + (a - n) ≡ a = omega (arith, above) in
    get_or-append_right xs ys n a Unavailable e above ∙
    k (a - n) (omega (arith, l, above)) same ∙ ap f same

pub shows_more : (site : Site) (p : Plan) (size address : ℕ) (earlier : List Square) →
    Shows site p address earlier → NamesNode site p size address →
    Shows site p (address + squares size) (after size earlier (tree_at site p size address))
shows_more site p size address earlier shows names =
    let own : List Square = squares_of size (tree_at site p size address) in
    let n : length own ≡ squares size = length-tree_at site p size address in
    record {
      count = length-append earlier own ∙ omega (arith, n, shows.count);
      square = λ a below inside.
          behind address (squares size) a earlier own (own_square p) shows.count n
          (λ h. shows.square a h inside)
          (λ i h e. names.square i h (subst (λ (m : ℕ). is_outside site m ≡ false) (sym e)
          inside))
          below (cases_lt a address);
    }

pub shows_after : (b : Block) (size address : ℕ) (earlier : List Square) → Shows (place_of b) (plan_of b) address earlier →
    NamesNode (place_of b) (plan_of b) size address →
    Shows (place_of b) (plan_of b) (address + squares size) (after size earlier (node_of b size address))
shows_after b size address earlier shows names =
    shows_more (place_of b) (plan_of b) size address earlier shows names

-- ---- the squares of a node are those of its four parts
pub four_at : (n : ℕ) (xs ys zs ws : List Square) → length xs ≡ n → length ys ≡ n → length zs ≡ n →
    (i : ℕ) → i < n →
    (slice_index_or (xs ++ (ys ++ (zs ++ ws))) i Unavailable ≡ slice_index_or xs i Unavailable) ×
    (slice_index_or (xs ++ (ys ++ (zs ++ ws))) (n + i) Unavailable ≡
    slice_index_or ys i Unavailable) ×
    (slice_index_or (xs ++ (ys ++ (zs ++ ws))) (2 * n + i) Unavailable ≡
    slice_index_or zs i Unavailable) ×
    (slice_index_or (xs ++ (ys ++ (zs ++ ws))) (3 * n + i) Unavailable ≡
    slice_index_or ws i Unavailable)
four_at n xs ys zs ws e f g i h =
    let at : List Square → ℕ → Square = λ l j. slice_index_or l j Unavailable in
    let two : n + i - n ≡ i = omega arith in
    let three : 2 * n + i - n ≡ n + i = omega arith in
    let four : 3 * n + i - n ≡ 2 * n + i = omega arith in
    let skip : (us vs : List Square) → length us ≡ n → (j : ℕ) → n ≤ j →
    at (us ++ vs) j ≡ at vs (j - n) =
    λ us vs l j k. get_or-append_right us vs n j Unavailable l k in
    let here : (us vs : List Square) → length us ≡ n → at (us ++ vs) i ≡ at us i =
    λ us vs l. get_or_append_left us vs Unavailable i (omega (arith, l, h)) in
    let one_on : (us vs : List Square) → length us ≡ n → at (us ++ vs) (n + i) ≡ at vs i =
    λ us vs l. skip us vs l (n + i) (omega arith) ∙ ap (at vs) two in
    let two_on : (us vs : List Square) → length us ≡ n → at (us ++ vs) (2 * n + i) ≡ at vs (n + i) =
    λ us vs l. skip us vs l (2 * n + i) (omega arith) ∙ ap (at vs) three in
    let three_on : (us vs : List Square) → length us ≡ n →
    at (us ++ vs) (3 * n + i) ≡ at vs (2 * n + i) =
    λ us vs l. skip us vs l (3 * n + i) (omega arith) ∙ ap (at vs) four in (
      here xs (ys ++ (zs ++ ws)) e,
      one_on xs (ys ++ (zs ++ ws)) e ∙ here ys (zs ++ ws) f,
      two_on xs (ys ++ (zs ++ ws)) e ∙ (one_on ys (zs ++ ws) f ∙ here zs ws g),
      three_on xs (ys ++ (zs ++ ws)) e ∙ (two_on ys (zs ++ ws) f ∙ one_on zs ws g),
    )

-- a part's units name its squares
pub record NameParts (site : Site) (p : Plan) (size address : ℕ) : Type 0 where
  pub first : NamesNode site p size address
  pub second : NamesNode site p size (address + squares size)
  pub third : NamesNode site p size (address + 2 * squares size)
  pub fourth : NamesNode site p size (address + 3 * squares size)

part_named : (site : Site) (p : Plan) (size address start shift : ℕ) (all : List Square) →
    start ≡ address + shift → shift ≤ 3 * squares size →
    ((i : ℕ) → i < 4 * squares size → is_outside site (address + i) ≡ false →
    slice_index_or all i Unavailable ≡ own_square p (address + i)) →
    ((i : ℕ) → i < squares size → slice_index_or all (shift + i) Unavailable ≡
    slice_index_or (squares_of size (tree_at site p size start)) i Unavailable) →
    NamesNode site p size start
part_named site p size address start shift all e few names same = record {
  square = λ i h inside.
      let at : start + i ≡ address + (shift + i) = omega (arith, e) in
      sym (same i h) ∙
      names (shift + i) (omega (arith, h, few))
      (subst (λ (m : ℕ). is_outside site m ≡ false) at inside) ∙
      ap (own_square p) (sym at);
}

pub names_parts : (site : Site) (p : Plan) (size address : ℕ) (u : Unit) → is_outside site address ≡ false →
    slice_get p.units address ≡ Some u → ends (suc size) u.depth ≡ false →
    NamesNode site p (suc size) address → NameParts site p size address
names_parts site p size address u h g e names =
    let n : ℕ = squares size in
    let tree : ℕ → Tree = tree_at site p size in
    let at : ℕ → List Square = λ a. squares_of size (tree a) in
    let count : (a : ℕ) → length (at a) ≡ squares size =
    λ a. length-tree_at site p size a in
    let whole : List Square = at address ++ (at (address + n) ++ (at (address + 2 * n) ++
    at (address + 3 * n))) in
    let is_whole : squares_of (suc size) (tree_at site p (suc size) address) ≡ whole =
    ap (squares_of (suc size)) (split_tree site p size address u h g e) in
    let named : (i : ℕ) → i < 4 * squares size → is_outside site (address + i) ≡ false →
    slice_index_or whole i Unavailable ≡ own_square p (address + i) =
    λ i k inside. ap (λ (l : List Square). slice_index_or l i Unavailable) (sym is_whole) ∙
    names.square i k inside in
    let four = four_at n (at address) (at (address + n)) (at (address + 2 * n))
    (at (address + 3 * n)) (count address) (count (address + n)) (count (address + 2 * n)) in
    record {
      first = part_named site p size address address 0 whole (omega arith) (omega arith) named
          (λ i k. let z : 0 + i ≡ i = omega arith in
          ap (λ (j : ℕ). slice_index_or whole j Unavailable) z ∙ (four i k).0);
      second = part_named site p size address (address + n) n whole refl (omega arith) named
          (λ i k. (four i k).1);
      third = part_named site p size address (address + 2 * n) (2 * n) whole refl (omega arith) named
          (λ i k. (four i k).2);
      fourth = part_named site p size address (address + 3 * n) (3 * n) whole refl (omega arith) named
          (λ i k. (four i k).3);
    }

-- ---- the four nodes of a split by the code's step
pub record Children (site : Site) (p : Plan) (below step address : ℕ) : Type 0 where
  pub room : address + 4 * step ≤ 64
  pub some : 1 ≤ step
  pub first : NamesNode site p below address
  pub second : NamesNode site p below (address + step)
  pub third : NamesNode site p below (address + 2 * step)
  pub fourth : NamesNode site p below (address + 3 * step)

abbrev HasChildren : Site → Plan → ℕ → ℕ → ℕ → Unit → ℕ → Type 0
HasChildren site p below step address u size =
    step ≡ squares below → is_outside site address ≡ false →
    slice_get p.units address ≡ Some u → ends size u.depth ≡ false →
    address + squares size ≤ 64 → NamesNode site p size address → Children site p below step address

children_of : (site : Site) (p : Plan) (below step address : ℕ) (u : Unit) →
    HasChildren site p below step address u (suc below)
children_of site p below step address u is_step inside at split room names =
    let parts = names_parts site p below address u inside at split names in
    record {
      room = omega (arith, room, is_step);
      some = omega (arith, squares_above_0 below, is_step);
      first = parts.first;
      second = subst (λ (n : ℕ). NamesNode site p below (address + n)) (sym is_step) parts.second;
      third = subst (λ (n : ℕ). NamesNode site p below (address + 2 * n)) (sym is_step) parts.third;
      fourth = subst (λ (n : ℕ). NamesNode site p below (address + 3 * n)) (sym is_step) parts.fourth;
    }

pub children : (site : Site) (p : Plan) (size step address : ℕ) (u : Unit) → step ≡ squares (size - 1) →
    is_outside site address ≡ false → slice_get p.units address ≡ Some u →
    ends size u.depth ≡ false → address + squares size ≤ 64 → NamesNode site p size address →
    Children site p (size - 1) step address
children site p size step address u is_step inside at split room names =
    subst (λ (n : ℕ). HasChildren site p (size - 1) step address u n)
    (sym (size_of_split size u.depth split)) (children_of site p (size - 1) step address u) is_step inside
    at split room names
