-- In an I slice, and where motion search found nothing, each unit is predicted from its own
-- picture: such trees cost the same by any distances and vectors, and are coded as they are.
use Rattle.std.proofs.Common.{◌≡◌, ℕ, List, [], ◌∷◌, length, map, refl, sym, ap, subst, ◌∙◌, arith}
use Rattle.hv_filter_model.specs.Costs.{cost}
use Rattle.hv_filter_model.proofs.CostLemmas.{Each}
use Rattle.hv_tree_model.specs.Trees.{Intra, Tree, greatest_size, side}
use Rattle.hv_tree_model.specs.Sites.{Site, x0, y0}
use Rattle.hv_tree_model.specs.EarlierUnits.{Square}
use Rattle.hv_tree_model.proofs.NodeLemmas.{IsNode}
use Rattle.hv_unit_model.specs.Bins.{bins_of_node}
use Rattle.hv_recon_model.specs.Reconstruction.{Decoded}
use Rattle.hv_vector_model.specs.VectorPrediction.{Distances}
use Rattle.hv_mode_model.specs.ModeDecision.{FoundVectors, Given, Before, nothing_found, decoded_behind, node_square, leaf, score, luma_mode, inter_by, predictions, squared_errors, cost_of, best, Task, given_at}
use Rattle.hv_mode_model.specs.NodeLaws.{ChooseTheSame}
use Rattle.hv_mode_model.specs.DistanceLaws.{ISlicesAskForNoVectors, NothingFoundAsksForNoDistances}
use Rattle.hv_mode_model.proofs.IntraAloneLemmas.{AreIntra, TriesNone, coded_as_it_is, unit_intra, best_intra, intra_alone, none_in_i, trees_as_they_are}
use Rattle.hv_mode_model.proofs.NodeChoiceLemmas.{best_alike, IsChosenAlike, trees_alike, decoded_alike}

module _ (g : Given) (distances : Distances) (vectors : FoundVectors) (none : TriesNone g)
    (none_too : TriesNone (record g { distances = distances; vectors = vectors })) where
  abbrev by_others : Given
  by_others = record g { distances = distances; vectors = vectors }

  same_mode : (size address : ℕ) (before : Before) →
      luma_mode g size address before ≡ luma_mode by_others size address before
  unfolding luma_mode score
  same_mode size address before = refl

  same_cost : (size address : ℕ) (before : Before) (tree : Tree) → AreIntra tree →
      cost_of g size address before tree ≡ cost_of by_others size address before tree
  unfolding cost_of
  same_cost size address before tree alone =
      let errors : ℕ =
      squared_errors g.input (decoded_behind g size address tree before.decoded)
      (node_square g size address) in
      ap (λ (t : Tree). cost g.qp errors
      (length (bins_of_node g.surroundings size address before.earlier t)))
      (coded_as_it_is g.distances g.surroundings.look size address before.earlier tree alone ∙
      sym (coded_as_it_is distances g.surroundings.look size address before.earlier tree alone))

  units_intra : (size address : ℕ) (before : Before) →
      Each AreIntra (map (leaf g size address before) (predictions g size address before))
  units_intra size address before =
      subst (λ ps. Each AreIntra (map (leaf g size address before) ps))
      (sym ((intra_alone g none).tried size address before))
      (unit_intra g none size address before, tt)

  pub best_by_any : (size address : ℕ) (before : Before) → IsNode size address →
      best g size address before ≡ best by_others size address before
  best_by_any =
      best_alike g.effort g.qp g.input g.surroundings g.distances distances g.vectors vectors
      AreIntra
      (record {
        costs = same_cost;
        units = units_intra;
        splits = λ size address before. (
          best_intra g none size address before,
          best_intra g none size _ _,
          best_intra g none size _ _,
          best_intra g none size _ _,
        );
        tried = λ size address before node.
            (intra_alone g none).tried size address before ∙
            ap (λ mode. Intra mode ∷ []) (same_mode size address before) ∙
            sym ((intra_alone by_others none_too).tried size address before);
      })

-- ---- the blocks of a picture

module _ (task : Task) (distances : Distances) (vectors : FoundVectors)
    (none : (here : Site) (done : List Square) → TriesNone (given_at task here done))
    (none_too :
    (here : Site) (done : List Square) →
    TriesNone (given_at (record task { distances = distances; vectors = vectors }) here done))
  where
    each_place : (places : List Site) → Each (IsChosenAlike task distances vectors) places
    each_place [] = tt
    each_place (here ∷ places) = (
      λ done d.
          best_by_any (given_at task here done) distances vectors (none here done)
          (none_too here done) greatest_size 0 (record { decoded = d; earlier = [] })
          (record { few = omega arith; inside = omega arith; even = refl }),
      each_place places,
    )

    pub same_by_any : (places : List Site) (done : List Square) (d : Decoded) →
        ChooseTheSame task (record task { distances = distances; vectors = vectors }) places done d
    same_by_any places done d =
        let trees = trees_alike task distances vectors places (each_place places) done d in record {
          trees = trees;
          coded =
              trees_as_they_are task none places done d ∙ trees ∙
              sym (trees_as_they_are (record task { distances = distances; vectors = vectors })
              none_too places done d);
          decoded = decoded_alike task distances vectors places (each_place places) done d;
        }

pub i_slices_same : ISlicesAskForNoVectors
i_slices_same task distances vectors places done d kind =
    same_by_any task distances vectors
    (λ here done size address before entry.
    none_in_i (given_at task here done) kind size address before entry _)
    (λ here done size address before entry.
    none_in_i (given_at (record task { distances = distances; vectors = vectors }) here done) kind
    size address before entry _)
    places done d

nothing_tried : (task : Task) → task.vectors ≡ nothing_found → (here : Site)
    (done : List Square) → TriesNone (given_at task here done)
nothing_tried task nothing here done size address before entry =
    ap (λ (found : FoundVectors). inter_by (given_at task here done) size address before entry
    (found entry (x0 here address) (y0 here address) (side size))) nothing

pub nothing_found_same : NothingFoundAsksForNoDistances
nothing_found_same task distances places done d nothing =
    same_by_any task distances task.vectors (nothing_tried task nothing)
    (nothing_tried (record task { distances = distances }) nothing) places done d
