-- A node that is decided by one of the tests of the definition is decided as the definition has it:
-- outside the picture, across its edge (7.4.9.4), and inside of it.
use Rattle.std.proofs.Common.{◌≡◌, ℕ, ◌+◌, ◌<◌, ◌≤◌, true, false, ◌++◌, refl, sym, subst, ◌∙◌, arith}
use Rattle.std.proofs.lemmas.Bool.Decides.{nat_tests}
use Rattle.hv_block.specs.declared.block.Block.{Block}
use Rattle.hv_tree_model.specs.Trees.{Outside, side}
use Rattle.hv_tree_model.specs.Sites.{Site, x0, y0, squares, is_outside, must_split}
use Rattle.hv_tree_model.specs.EarlierUnits.{squares_of}
use Rattle.hv_tree_model.specs.Plans.{Plan}
use Rattle.hv_unit_model.proofs.GeometryLemmas.{square_of_node}
use Rattle.hv_near.specs.Neighbours.{lists_of_plan}
use Rattle.hv_near.specs.Squares.{Shows, NamesNode}
use Rattle.hv_syntax.proofs.NamingLemmas.{names_outside}
use Rattle.hv_recon.specs.Leaves.{lists_with_vectors}
use Rattle.hv_recon.specs.DecodedNodes.{IsNodeOfBlock}
use Rattle.hv_recon.proofs.NodeLemmas.{outside_node, outside_decodes_nothing}
use Rattle.hv_mode_model.specs.ModeDecision.{Before, coded_node, best}
use Rattle.hv_mode_model.specs.Differences.{tree_with_differences}
use Rattle.hv_mode.specs.declared.task.Task.{Task}
use Rattle.hv_mode.specs.Nodes.{given_of, moving_node, Decides, blank_choice}
use Rattle.hv_mode.specs.SplitNodes.{split_choice, tried_choice}
use Rattle.hv_mode.specs.Vectors.{references_of}
use Rattle.hv_mode.proofs.BestLemmas.{begins_inside, not_split, best_outside, best_forced, best_blank, best_tried}
use Rattle.hv_mode.proofs.FrameLemmas.{same_refl}
use Rattle.hv_mode.proofs.NodeFrameLemmas.{shows_behind}
use Rattle.hv_mode.proofs.SplitLemmas.{seen_behind}
use Rattle.hv_mode.proofs.TriedLemmas.{decides_as}

abbrev IsDecided : Task → ℕ → ℕ → Block → Block → Type 0
IsDecided t size address = Decides t size address (best (given_of t) size address)

-- ---- outside the picture

-- with the corner every square of the node is outside
squares_outside : (site : Site) (size address : ℕ) → IsNodeOfBlock size address →
    is_outside site address ≡ true →
    (i : ℕ) → i < squares size → is_outside site (address + i) ≡ true
unfolding is_outside
squares_outside site size address node outside i below =
    let square = square_of_node size address i node.size_at_most node.inside node.multiple below in
    let column = square.0 in let row = square.1 in grind (arith, nat_tests, outside, column, row)

-- nothing is coded of it
coded_nothing : (t : Task) (size address : ℕ) (before : Before) →
    coded_node (given_of t) size address before Outside ≡ Outside
unfolding tree_with_differences
coded_nothing t size address before = refl

module _ (t : Task) (size address : ℕ) (s : Block) (node : IsNodeOfBlock size address)
    (outside : is_outside t.place address ≡ true) where
  names : (plan : Plan) → NamesNode t.place plan size address
  names plan =
      names_outside t.place plan size address
      (squares_outside t.place size address node outside)

  nothing : moving_node t.place s.plan size address ≡ Outside
  nothing = outside_node (lists_with_vectors s.plan) size address t.place outside

  chosen_nothing : (before : Before) → Outside ≡ best (given_of t) size address before
  chosen_nothing before = sym (best_outside (given_of t) size address before outside)

  pub outside_decides : IsDecided t size address s s
  outside_decides =
      decides_as t size address (λ before. Outside) (best (given_of t) size address) s s
      (λ before here. chosen_nothing before)
      (record {
        kept = same_refl address s;
        names = names (lists_of_plan s.plan);
        moving_names = names (lists_with_vectors s.plan);
        tree = λ before here. nothing;
        coded = λ before here.
            outside_node (lists_of_plan s.plan) size address t.place outside ∙
            sym (coded_nothing t size address before);
        stands = λ before here. record {
          decoded =
              seen_behind t size address s.plan s s Outside before.decoded
              (outside_decodes_nothing (lists_with_vectors s.plan) size address t.place t.qp
              (references_of t) t.near.now s.samples node outside)
              here.decoded nothing;
          earlier =
              subst (λ u. Shows t.place (lists_with_vectors s.plan) (address + squares size)
              (before.earlier ++ squares_of size u)) nothing
              (shows_behind t.place size address before.earlier s s here.earlier
              (same_refl address s) (names (lists_with_vectors s.plan)));
        };
      })

-- ---- across its edge

pub forced_decides : (t : Task) (size address : ℕ) (old new : Block) →
    is_outside t.place address ≡ false → must_split t.place size address ≡ true →
    Decides t size address (split_choice t size address) old new →
    IsDecided t size address old new
forced_decides t size address old new inside must decides =
    decides_as t size address (split_choice t size address) (best (given_of t) size address) old new
    (λ before here. sym (best_forced t address before inside size must)) decides

-- ---- inside of it

module _ (t : Task) (size address : ℕ) (old new : Block)
    (right : x0 t.place address + side size ≤ t.place.width)
    (bottom : y0 t.place address + side size ≤ t.place.height) where
  inside : is_outside t.place address ≡ false
  inside = begins_inside t.place size address right bottom

  whole : must_split t.place size address ≡ false
  whole = not_split t.place size address right bottom

  pub blank_decides : t.effort ≡ 0 → Decides t size address (blank_choice size) old new →
      IsDecided t size address old new
  blank_decides none decides =
      decides_as t size address (blank_choice size) (best (given_of t) size address) old new
      (λ before here. sym (best_blank t address before inside size whole none)) decides

  pub tried_decides : 0 < t.effort → Decides t size address (tried_choice t size address) old new →
      IsDecided t size address old new
  tried_decides some decides =
      decides_as t size address (tried_choice t size address) (best (given_of t) size address) old
      new (λ before here. sym (best_tried t address before inside some size whole)) decides
