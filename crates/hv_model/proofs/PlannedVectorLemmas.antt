-- A picture that is kept as plans, whose units know their vectors: it is deblocked (8.7.2) by its
-- plans as by its trees with vectors, since differences of vectors don't count there.
use Rattle.std.proofs.Common.{◌≡◌, ℕ, ◌+◌, ◌*◌, ◌/◌, ◌%◌, ◌<◌, Bool, true, false, List, length, map, refl, sym, ap, ◌∙◌, arith}
use Rattle.std.specs.Prelude.{slice_get, slice_index_or, Option, Some, None, option_map, is_some}
use Rattle.std.proofs.lemmas.Bool.{false≢true}
use Rattle.std.proofs.lemmas.Option.{slice_get-map, get_or_from_slice_get}
use Rattle.hv_lemmas.proofs.OptionLemmas.{some_same}
use Rattle.hv_types.specs.declared.picture.Picture.{Picture}
use Rattle.hv_types.specs.Video.{IsPicture}
use Rattle.hv_plan.specs.declared.prediction.Mv.{Mv}
use Rattle.hv_plan.specs.declared.prediction.Pred.{Pred}
use Rattle.hv_plan.specs.declared.prediction.Pred.TheVariants.{Intra as IntraPred, Inter as InterPred}
use Rattle.hv_plan.specs.declared.prediction.Unit.{Unit}
use Rattle.hv_inter_model.specs.UnitVectors.{pred_with_vector, unit_with_vector}
use Rattle.hv_tree_model.specs.Trees.{Tree, Outside, greatest_size}
use Rattle.hv_tree_model.specs.Sites.{site, sites, blocks_over, address_of}
use Rattle.hv_tree_model.specs.EarlierUnits.{Square, Unavailable, Coded, squares_of}
use Rattle.hv_tree_model.specs.Plans.{Plan, prediction_of, square_or_none, tree_of}
use Rattle.hv_vector_model.specs.VectorPrediction.{no_vector}
use Rattle.hv_vector_model.specs.Vectors.{plan_with_vectors}
use Rattle.hv_deblock_model.specs.Deblocking.{deblocked_picture}
use Rattle.hv_deblock_model.specs.CodedSquares.{squares_of_plans, square_of_plan, coding_of}
use Rattle.hv_deblock_model.specs.TreeSquares.{pred_of, squares_of_trees}
use Rattle.hv_deblock_model.specs.SquaresInside.{square_with_vector, squares_with_vectors}
use Rattle.hv_deblock_model.proofs.InsideLemmas.{inside_counts, differences_do_not_count}
use Rattle.hv_model.specs.Reconstruction.{vector_of, vectors_of}
use Rattle.hv_model.specs.PlannedPictures.{planned_trees, ArePlans, AreVectorsOf, moving_trees, PlannedPicturesAreDeblockedAlike}
use Rattle.hv_model.proofs.PlannedSquareLemmas.{no_plan, index as block_index, address as square_address, block_there, square_inside, address_below, tree_in_picture, planned_squares}

-- ---- units that have their vectors

from_map : {A B : Type 0} (f : A → B) (found : Option A) (y : B) →
    option_map f found ≡ Some y → (x : A) × (f x ≡ y)
from_map f None y e = absurd (false≢true (ap is_some e))
from_map f (Some x) y e = (x, some_same (f x) y e)

pred_moved_twice : (pred : Pred) →
    pred_with_vector (pred_with_vector pred) ≡ pred_with_vector pred
pred_moved_twice (IntraPred mode) = refl
pred_moved_twice (InterPred reference mv flag mvd) = refl

-- each unit of these plans has its vector in the place of the coded difference
abbrev Move : List Plan → Type 0
Move plans =
    (k a : ℕ) (plan : Plan) (unit : Unit) → slice_get plans k ≡ Some plan →
    slice_get plan.units a ≡ Some unit → pred_with_vector unit.pred ≡ unit.pred

plans_move : (plans : List Plan) → Move (map plan_with_vectors plans)
plans_move plans k a plan unit found there =
    let before = from_map plan_with_vectors (slice_get plans k) plan
    (sym (slice_get-map plan_with_vectors plans k) ∙ found) in
    let of_unit = from_map unit_with_vector (slice_get before.0.units a) unit
    (sym (slice_get-map unit_with_vector before.0.units a) ∙
    ap (λ p. slice_get p.units a) before.1 ∙ there) in
    ap (λ u. pred_with_vector u.pred) (sym of_unit.1) ∙ pred_moved_twice of_unit.0.pred ∙
    ap (λ u. u.pred) of_unit.1

abbrev difference_of : Pred → Mv
difference_of (IntraPred mode) = no_vector
difference_of (InterPred reference mv flag mvd) = mvd

vector_same : (depth : ℕ) (pred : Pred) → pred_with_vector pred ≡ pred →
    pred_of (vector_of (Coded depth (prediction_of pred))) (prediction_of pred) ≡ pred
vector_same depth (IntraPred mode) moves = refl
vector_same depth (InterPred reference mv flag mvd) moves =
    ap (λ vector. InterPred reference vector flag mvd) (sym (ap difference_of moves))

-- ---- the vectors of their trees

module _ (width height : ℕ) (plans : List Plan) (are : ArePlans width height plans)
    (move : Move plans) where
  vectors_serve :
      AreVectorsOf width height (vectors_of width (planned_trees (sites width height) plans)) plans
  unfolding block_index square_address
  vectors_serve column row plan unit across down found unit_found =
      let k : ℕ = block_index width height column row across down in
      let a : ℕ = square_address width height column row across down in
      let below = block_there width height column row across down in
      let there : k < length plans = omega (arith, below, are.count) in
      let same : slice_index_or (planned_trees (sites width height) plans) k Outside ≡
      tree_of (site width height k) plan =
      tree_in_picture width height plans k no_plan below there ∙
      ap (tree_of (site width height k)) (get_or_from_slice_get plans k plan no_plan found) in
      let named = (are.names k plan found).square a
      (address_below width height column row across down)
      (square_inside width height column row across down) in
      ap (λ square. pred_of (vector_of square) (prediction_of unit.pred))
      (ap (λ tree. slice_index_or (squares_of greatest_size tree) a Unavailable) same ∙ named ∙
      ap square_or_none unit_found) ∙
      vector_same unit.depth unit.pred (move k a plan unit found unit_found)

-- ---- squares

coding_moved : (plan : Plan) (a : ℕ) (found : Option Unit) →
    coding_of (plan_with_vectors plan) a (option_map unit_with_vector found) ≡
    square_with_vector (coding_of plan a found)
coding_moved plan a None = refl
coding_moved plan a (Some unit) = refl

square_moved : (a : ℕ) (found : Option Plan) →
    square_of_plan (option_map plan_with_vectors found) a ≡
    square_with_vector (square_of_plan found a)
square_moved a None = refl
square_moved a (Some plan) =
    ap (coding_of (plan_with_vectors plan) a) (slice_get-map unit_with_vector plan.units a) ∙
    coding_moved plan a (slice_get plan.units a)

pub deblocked_by_plans : PlannedPicturesAreDeblockedAlike
deblocked_by_plans qp width height plans picture across down whole are =
    let moving : List Plan = map plan_with_vectors plans in
    let trees : List Tree = moving_trees width height plans in
    sym (differences_do_not_count qp width height (squares_of_plans width plans) picture across
    down whole) ∙
    inside_counts qp width height (squares_with_vectors (squares_of_plans width plans))
    (squares_of_plans width moving) picture across down whole
    (λ column row in_width in_height.
    let k : ℕ = row / 8 * blocks_over width + column / 8 in
    let a : ℕ = address_of (column % 8) (row % 8) in
    sym (ap (λ found. square_of_plan found a) (slice_get-map plan_with_vectors plans k) ∙
    square_moved a (slice_get plans k))) ∙
    inside_counts qp width height (squares_of_plans width moving)
    (squares_of_trees width (vectors_of width trees) trees) picture across down whole
    (planned_squares width height moving (vectors_of width trees) are
    (vectors_serve width height moving are (plans_move plans)))
