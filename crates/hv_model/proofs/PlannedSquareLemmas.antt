-- How the squares of a picture are coded by its plans, and by their trees (8.7.2).
use Rattle.std.proofs.Common.{◌≡◌, ℕ, zero, suc, ◌+◌, ◌*◌, ◌/◌, ◌%◌, ◌<◌, Bool, false, List, [], ◌∷◌, length, get_or, refl, sym, ap, ◌∙◌, subst, arith}
use Rattle.std.specs.Prelude.{nat_le, ◌||◌, slice_get, slice_index_or, Option, Some}
use Rattle.std.proofs.lemmas.Bool.Decides.{nat_tests}
use Rattle.std.proofs.lemmas.Nat.{mul-add-lt, mod-mul-add, div-mul-add}
use Rattle.std.proofs.lemmas.Option.{slice_get-get_or}
use Rattle.hv_plan.specs.declared.prediction.Mv.{Mv}
use Rattle.hv_plan.specs.declared.prediction.Pred.TheVariants.{Intra as IntraPred}
use Rattle.hv_plan.specs.declared.prediction.Unit.{Unit}
use Rattle.hv_tree_model.specs.Trees.{Tree, Outside, greatest_size}
use Rattle.hv_tree_model.specs.Sites.{Site, site, sites, sites_from, blocks_over, address_of, is_outside, ctb_column, ctb_row}
use Rattle.hv_tree_model.specs.EarlierUnits.{Square, Unavailable, squares_of}
use Rattle.hv_tree_model.specs.Plans.{Plan, prediction_of, coded_square, square_or_none, tree_of}
use Rattle.hv_unit_model.proofs.AroundLemmas.{length-tree_at}
use Rattle.hv_unit_model.proofs.GeometryLemmas.{address_of_place}
use Rattle.hv_tree_model.proofs.NodeLemmas.{IsNode}
use Rattle.hv_deblock_model.specs.CodedSquares.{has_luma_levels, coding_of, square_of_plan}
use Rattle.hv_deblock_model.specs.TreeSquares.{pred_of, square_coding, levels_of}
use Rattle.hv_model.specs.PlannedPictures.{planned_trees, PlannedSquaresAreThoseOfTrees}
use Rattle.hv_model.proofs.PlannedLevelLemmas.{OfSquare, fit_at, tree_fits}

-- ---- a square of a block

no_unit : Unit
no_unit = record { depth = 0; pred = IntraPred 0 }

pub no_plan : Plan
no_plan = record { units = []; luma = []; cb = []; cr = [] }

levels_as_planned : (plan : Plan) (here : Site) (address : ℕ) (unit : Unit) → address < 64 →
    slice_index_or (squares_of greatest_size (tree_of here plan)) address Unavailable ≡
    coded_square unit →
    slice_index_or (levels_of greatest_size (tree_of here plan)) address false ≡
    has_luma_levels plan unit.depth address
levels_as_planned plan here address unit below named =
    let squares : List Square = squares_of greatest_size (tree_of here plan) in
    let levels : List Bool = levels_of greatest_size (tree_of here plan) in
    let level : Bool = slice_index_or levels address false in
    let corner : IsNode greatest_size 0 =
    record { few = omega arith; inside = omega arith; even = refl } in
    let at : 0 + address ≡ address = omega arith in
    subst (λ s. OfSquare plan address s level) named
    (subst (λ n. OfSquare plan n (slice_index_or squares address Unavailable) level) at
    (fit_at plan squares levels 0 address (tree_fits plan here greatest_size 0 corner)
    (omega (arith, below, length-tree_at here plan greatest_size 0))))

coding_same : (mv : Mv) (plan : Plan) (address : ℕ) (unit : Unit) (found : Option Unit)
    (levels : Bool) (square : Square) → found ≡ Some unit →
    levels ≡ has_luma_levels plan unit.depth address → square ≡ coded_square unit →
    pred_of mv (prediction_of unit.pred) ≡ unit.pred →
    coding_of plan address found ≡ square_coding mv levels square
coding_same mv plan address unit found levels square e f h k = rw (e, f, h, k) refl

-- ---- where it lies

not_behind : (width height x y a b : ℕ) → x ≡ a → y ≡ b → a < width → b < height →
    (nat_le width x || nat_le height y) ≡ false
not_behind width height x y a b e f across down = grind (arith, nat_tests)

module _ (width height column row : ℕ) (across : 8 * column < width) (down : 8 * row < height) where
  columns : ℕ
  columns = blocks_over width

  unfoldable pub index : ℕ
  index = row / 8 * blocks_over width + column / 8

  unfoldable pub address : ℕ
  address = address_of (column % 8) (row % 8)

  few : column / 8 < blocks_over width
  few = omega (arith, across)

  pub block_there : index < blocks_over width * blocks_over height
  unfolding index
  block_there =
      mul-add-lt (row / 8) (blocks_over width) (column / 8) (blocks_over height)
      (omega (arith, down)) few

  block_column : ctb_column (site width height index) ≡ column / 8
  unfolding index
  block_column = mod-mul-add (row / 8) (blocks_over width) (column / 8) few

  block_row : ctb_row (site width height index) ≡ row / 8
  unfolding index
  block_row = div-mul-add (row / 8) (blocks_over width) (column / 8) few

  pub square_inside : is_outside (site width height index) address ≡ false
  unfolding is_outside address
  square_inside =
      let place = address_of_place (column % 8) (row % 8) (omega arith) (omega arith) in
      not_behind width height _ _ (8 * column) (8 * row)
      (omega (arith, block_column, place.0)) (omega (arith, block_row, place.1)) across down

  pub address_below : address < 64
  unfolding address
  address_below = (address_of_place (column % 8) (row % 8) (omega arith) (omega arith)).2

-- ---- the trees of plans

tree_at_index : (count width height first : ℕ) (plans : List Plan) (k : ℕ) (d : Plan) →
    k < count → k < length plans →
    slice_index_or (planned_trees (sites_from count width height first) plans) k Outside ≡
    tree_of (site width height (first + k)) (get_or plans k d)
tree_at_index zero width height first plans k d below there = absurd (omega (arith, below))
tree_at_index (suc count) width height first [] k d below there = absurd (omega (arith, there))
tree_at_index (suc count) width height first (plan ∷ plans) zero d below there =
    let here : first ≡ first + 0 = omega arith in
    ap (λ n. tree_of (site width height n) plan) here
tree_at_index (suc count) width height first (plan ∷ plans) (suc k) d below there =
    let here : first + 1 + k ≡ first + suc k = omega arith in
    tree_at_index count width height (first + 1) plans k d (omega (arith, below))
    (omega (arith, there)) ∙
    ap (λ n. tree_of (site width height n) (get_or plans k d)) here

pub tree_in_picture : (width height : ℕ) (plans : List Plan) (k : ℕ) (d : Plan) →
    k < blocks_over width * blocks_over height → k < length plans →
    slice_index_or (planned_trees (sites width height) plans) k Outside ≡
    tree_of (site width height k) (get_or plans k d)
unfolding sites
tree_in_picture width height plans k d below there =
    let here : 0 + k ≡ k = omega arith in
    tree_at_index (blocks_over width * blocks_over height) width height 0 plans k d below there ∙
    ap (λ n. tree_of (site width height n) (get_or plans k d)) here

-- ---- a square of the picture

block_same : (mv : Mv) (here : Site) (plan : Plan) (address : ℕ) (tree : Tree)
    (found : Option Plan) (unit : Unit) → address < 64 → found ≡ Some plan →
    tree ≡ tree_of here plan → slice_get plan.units address ≡ Some unit →
    slice_index_or (squares_of greatest_size (tree_of here plan)) address Unavailable ≡
    coded_square unit →
    pred_of mv (prediction_of unit.pred) ≡ unit.pred →
    square_of_plan found address ≡
    square_coding mv (slice_index_or (levels_of greatest_size tree) address false)
    (slice_index_or (squares_of greatest_size tree) address Unavailable)
block_same mv here plan address tree found unit below e f there named vector =
    ap (λ p. square_of_plan p address) e ∙
    coding_same mv plan address unit (slice_get plan.units address)
    (slice_index_or (levels_of greatest_size (tree_of here plan)) address false)
    (slice_index_or (squares_of greatest_size (tree_of here plan)) address Unavailable) there
    (levels_as_planned plan here address unit below named) named vector ∙
    ap (λ t. square_coding mv (slice_index_or (levels_of greatest_size t) address false)
    (slice_index_or (squares_of greatest_size t) address Unavailable)) (sym f)

pub planned_squares : PlannedSquaresAreThoseOfTrees
unfolding index address
planned_squares width height plans vectors are given column row across down =
    let k : ℕ = index width height column row across down in
    let a : ℕ = address width height column row across down in
    let inside : k < blocks_over width * blocks_over height =
    block_there width height column row across down in
    let below : a < 64 = address_below width height column row across down in
    let there : k < length plans = omega (arith, inside, are.count) in
    let plan : Plan = get_or plans k no_plan in
    let found : slice_get plans k ≡ Some plan = slice_get-get_or plans k no_plan there in
    let unit : Unit = get_or plan.units a no_unit in
    let unit_found : slice_get plan.units a ≡ Some unit =
    slice_get-get_or plan.units a no_unit (omega (arith, below, are.whole k plan found)) in
    block_same (vectors column row) (site width height k) plan a
    (slice_index_or (planned_trees (sites width height) plans) k Outside) (slice_get plans k) unit
    below found (tree_in_picture width height plans k no_plan inside there) unit_found
    ((are.names k plan found).square a below
    (square_inside width height column row across down) ∙
    ap square_or_none unit_found)
    (given column row plan unit across down found unit_found)
