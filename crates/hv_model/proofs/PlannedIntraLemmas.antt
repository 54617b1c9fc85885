-- A picture that is kept as plans, and whose trees have intra units alone: it has no vectors, and so
-- it is deblocked (8.7.2) by its plans as by its trees.
use Rattle.std.proofs.Common.{◌≡◌, ℕ, ◌%◌, ◌<◌, List, length, ap, ◌∙◌, subst, refl, arith}
use Rattle.std.specs.Prelude.{slice_index_or}
use Rattle.std.proofs.lemmas.Option.{get_or_from_slice_get}
use Rattle.hv_tables.specs.declared.bins.SliceKind.TheVariants.{I}
use Rattle.hv_types.specs.declared.picture.Picture.{Picture}
use Rattle.hv_types.specs.Video.{IsPicture}
use Rattle.hv_plan.specs.declared.prediction.Mv.{Mv}
use Rattle.hv_plan.specs.declared.prediction.Pred.{Pred}
use Rattle.hv_plan.specs.declared.prediction.Pred.TheVariants.{Intra as IntraPred, Inter as InterPred}
use Rattle.hv_tree_model.specs.Trees.{Outside, greatest_size}
use Rattle.hv_tree_model.specs.Sites.{site, sites}
use Rattle.hv_tree_model.specs.EarlierUnits.{Unavailable, Coded, squares_of}
use Rattle.hv_tree_model.specs.Plans.{Plan, prediction_of, square_or_none, tree_of}
use Rattle.hv_recon_model.specs.ReconstructionLaws.{AreTrees}
use Rattle.hv_deblock_model.specs.Deblocking.{deblocked_picture}
use Rattle.hv_deblock_model.specs.CodedSquares.{squares_of_plans}
use Rattle.hv_deblock_model.specs.TreeSquares.{Vectors, pred_of, squares_of_trees}
use Rattle.hv_deblock_model.proofs.InsideLemmas.{inside_counts}
use Rattle.hv_model.specs.PlannedPictures.{planned_trees, ArePlans, AreVectorsOf}
use Rattle.hv_model.proofs.IntraTreeLemmas.{IsIntra, square_intra}
use Rattle.hv_model.proofs.PlannedSquareLemmas.{no_plan, index as block_index, address as square_address, block_there, square_inside, address_below, tree_in_picture, planned_squares}

-- ---- so any vectors serve

intra_vector : (mv : Mv) (depth : ℕ) (pred : Pred) → IsIntra (Coded depth (prediction_of pred)) →
    pred_of mv (prediction_of pred) ≡ pred
intra_vector mv depth (IntraPred mode) is = refl
intra_vector mv depth (InterPred reference vector flag mvd) is = absurd is

module _ (width height references : ℕ) (plans : List Plan) (are : ArePlans width height plans)
    (valid : AreTrees I references (sites width height)
    (planned_trees (sites width height) plans)) (vectors : Vectors) where
  vectors_serve : AreVectorsOf width height vectors plans
  unfolding block_index square_address
  vectors_serve column row plan unit across down found unit_found =
      let k : ℕ = block_index width height column row across down in
      let a : ℕ = square_address width height column row across down in
      let below = block_there width height column row across down in
      let there : k < length plans = omega (arith, below, are.count) in
      let same : slice_index_or (planned_trees (sites width height) plans) k Outside ≡
      tree_of (site width height k) plan =
      tree_in_picture width height plans k no_plan below there ∙
      ap (tree_of (site width height k)) (get_or_from_slice_get plans k plan no_plan found) in
      let named = (are.names k plan found).square a
      (address_below width height column row across down)
      (square_inside width height column row across down) in
      intra_vector (vectors column row) unit.depth unit.pred
      (subst IsIntra
      (ap (λ tree. slice_index_or (squares_of greatest_size tree) a Unavailable) same ∙ named ∙
      ap square_or_none unit_found)
      (square_intra references (sites width height) (planned_trees (sites width height) plans)
      valid k a))

  pub deblocked_by_plans : (qp : ℕ) (picture : Picture) → width % 8 ≡ 0 → height % 8 ≡ 0 →
      IsPicture width height picture →
      deblocked_picture qp (squares_of_plans width plans) picture ≡
      deblocked_picture qp
      (squares_of_trees width vectors (planned_trees (sites width height) plans)) picture
  deblocked_by_plans qp picture across down whole =
      inside_counts qp width height (squares_of_plans width plans)
      (squares_of_trees width vectors (planned_trees (sites width height) plans)) picture across
      down whole (planned_squares width height plans vectors are vectors_serve)
