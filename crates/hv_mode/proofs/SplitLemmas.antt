-- A node that is decided as the definition has it is decoded so (8.4), and so is one that is split
-- into four nodes that are decided one behind the other.
use Rattle.std.proofs.Common.{◌≡◌, ℕ, suc, ◌+◌, ◌-◌, ◌*◌, ◌<◌, ◌≤◌, false, ◌++◌, refl, sym, ap, subst, ◌∙◌, arith}
use Rattle.std.specs.Prelude.{List, slice_get}
use Rattle.std.proofs.Math.Dec.{lit<}
use Rattle.hv_block.specs.declared.block.Block.{Block}
use Rattle.hv_block.specs.Plans.{CtbPlan}
use Rattle.hv_tree_model.specs.Trees.{Tree, greatest_size}
use Rattle.hv_tree_model.specs.Sites.{x0, y0, squares, is_outside}
use Rattle.hv_tree_model.specs.EarlierUnits.{Square, squares_of}
use Rattle.hv_tree_model.specs.Plans.{Plan, is_leaf}
use Rattle.hv_tree_model.proofs.NodeLemmas.{child_of}
use Rattle.hv_near.specs.Neighbours.{lists_of_plan}
use Rattle.hv_near.specs.Squares.{Shows, NamesNode}
use Rattle.hv_recon_model.specs.Reconstruction.{Decoded, decoded_tree}
use Rattle.hv_recon.specs.Leaves.{AreSeen, lists_with_vectors}
use Rattle.hv_recon.specs.DecodedNodes.{node_of_plan, DecodesNode, IsNodeOfBlock}
use Rattle.hv_recon.proofs.NodeLemmas.{node_of_block, split_node, split_by_children}
use Rattle.hv_mode_model.specs.ModeDecision.{Before, or_else, behind, decoded_behind, coded_node, split_of, best}
use Rattle.hv_mode_model.specs.Differences.{tree_with_differences}
use Rattle.hv_mode_model.proofs.ChosenDecodedLemmas.{decoded_node}
use Rattle.hv_mode.specs.declared.task.Task.{Task}
use Rattle.hv_mode.specs.Nodes.{given_of, moving_node, Stands, SameBefore, Decides}
use Rattle.hv_mode.specs.SplitNodes.{split_choice}
use Rattle.hv_mode.specs.Vectors.{references_of}
use Rattle.hv_mode.proofs.FrameLemmas.{same_trans, same_less}
use Rattle.hv_mode.proofs.NodeFrameLemmas.{decides_kept, shows_behind, not_leaf, names_four}

-- ---- what is decided is decoded

abbrev Chosen : Task → ℕ → ℕ → Before → Tree
Chosen t size address = best (given_of t) size address

-- the node of a plan that has the chosen tree with vectors, by the samples behind it
pub decodes_by : (t : Task) (size address : ℕ) (plan : CtbPlan) (old new : Block)
    (earlier : List Square) → size ≤ greatest_size →
    Shows t.place (lists_with_vectors old.plan) address earlier →
    ((before : Before) → Stands t old address before →
    moving_node t.place plan size address ≡ Chosen t size address before) →
    ((before : Before) → Stands t old address before →
    Stands t new (address + squares size)
    (behind (given_of t) size address (Chosen t size address before) before)) →
    DecodesNode (lists_with_vectors plan) size address t.place t.qp (references_of t) t.near.now
    old.samples new.samples
decodes_by t size address plan old new earlier few shows tree stands d seen =
    let before : Before = record { decoded = d; earlier = earlier } in
    let here : Stands t old address before = record { decoded = seen; earlier = shows } in (
      decoded_behind (given_of t) size address (Chosen t size address before) d,
      ap (λ u. decoded_tree t.qp size (x0 t.place address) (y0 t.place address) u d)
          (tree before here) ∙
          decoded_node (given_of t) size address before few,
      (stands before here).decoded,
    )

pub decides_decodes : (t : Task) (size address : ℕ) (old new : Block) (earlier : List Square) →
    size ≤ greatest_size → Shows t.place (lists_with_vectors old.plan) address earlier →
    Decides t size address (Chosen t size address) old new →
    DecodesNode (lists_with_vectors new.plan) size address t.place t.qp (references_of t)
    t.near.now old.samples new.samples
decides_decodes t size address old new earlier few shows decides =
    decodes_by t size address new.plan old new earlier few shows decides.tree decides.stands

-- so what is decoded behind the tree is seen
pub seen_behind : (t : Task) (size address : ℕ) (plan : CtbPlan) (old new : Block) (tree : Tree)
    (d : Decoded) →
    DecodesNode (lists_with_vectors plan) size address t.place t.qp (references_of t) t.near.now
    old.samples new.samples →
    AreSeen t.place (references_of t) t.near.now old.samples address d →
    moving_node t.place plan size address ≡ tree →
    AreSeen t.place (references_of t) t.near.now new.samples (address + squares size)
    (decoded_behind (given_of t) size address tree d)
seen_behind t size address plan old new tree d decodes seen same =
    let r = decodes d seen in
    let of_tree : decoded_behind (given_of t) size address tree d ≡ r.0 =
    ap (λ u. or_else d (decoded_tree t.qp size (x0 t.place address) (y0 t.place address) u d))
    (sym same) ∙
    ap (or_else d) r.1 in
    subst (λ e. AreSeen t.place (references_of t) t.near.now new.samples (address + squares size) e)
    (sym of_tree) r.2

-- ---- the children of a node

child_node : (size address k : ℕ) → IsNodeOfBlock (suc size) address → k < 4 →
    IsNodeOfBlock size (address + k * squares size)
child_node size address k node below =
    let child = (child_of size address k (node_of_block (suc size) address node) below).node in
    record { size_at_most = child.few; inside = child.inside; multiple = child.even }

first_child : (size address : ℕ) → IsNodeOfBlock (suc size) address → IsNodeOfBlock size address
first_child size address node =
    let at : address + 0 * squares size ≡ address = omega arith in
    subst (IsNodeOfBlock size) at (child_node size address 0 node (lit< tt))

second_child : (size address : ℕ) → IsNodeOfBlock (suc size) address →
    IsNodeOfBlock size (address + squares size)
second_child size address node =
    let at : address + 1 * squares size ≡ address + squares size = omega arith in
    subst (IsNodeOfBlock size) at (child_node size address 1 node (lit< tt))

pub stands_at : (t : Task) (s : Block) (a b : ℕ) (before : Before) → a ≡ b →
    Stands t s a before → Stands t s b before
stands_at t s a b before same stands = subst (λ n. Stands t s n before) same stands

same_at : (a b : ℕ) (s t : Block) → a ≡ b → SameBefore a s t → SameBefore b s t
same_at a b s t same before = subst (λ n. SameBefore n s t) same before

module _ (t : Task) (size address : ℕ) (s0 s1 s2 s3 s4 : Block)
    (node : IsNodeOfBlock (suc size) address) (inside : is_outside t.place address ≡ false)
    (first : Decides t size address (Chosen t size address) s0 s1)
    (second : Decides t size (address + squares size) (Chosen t size (address + squares size)) s1
    s2)
    (third : Decides t size (address + 2 * squares size)
    (Chosen t size (address + 2 * squares size)) s2 s3)
    (fourth : Decides t size (address + 3 * squares size)
    (Chosen t size (address + 3 * squares size)) s3 s4)
  where
    abbrev n : ℕ
    n = squares size

    abbrev split : Before → Tree
    split before = split_of (given_of t) size address before (best (given_of t) size)

    few : size ≤ greatest_size
    few = let h = node.size_at_most in omega (arith, h)

    -- each child as it stands in the end
    since_third : SameBefore (address + 3 * n) s3 s4
    since_third = fourth.kept

    since_second : SameBefore (address + 2 * n) s2 s4
    since_second =
        same_trans (address + 2 * n) s2 s3 s4 third.kept
        (same_less (address + 2 * n) (address + 3 * n) s3 s4 (omega arith) since_third)

    since_first : SameBefore (address + n) s1 s4
    since_first =
        same_trans (address + n) s1 s2 s4 second.kept
        (same_less (address + n) (address + 2 * n) s2 s4 (omega arith) since_second)

    kept : SameBefore address s0 s4
    kept =
        same_trans address s0 s1 s4 first.kept
        (same_less address (address + n) s1 s4 (omega arith) since_first)

    first_stays : Decides t size address (Chosen t size address) s0 s4
    first_stays =
        decides_kept t size address (Chosen t size address) s0 s1 s4
        (first_child size address node) first since_first

    second_stays : Decides t size (address + n) (Chosen t size (address + n)) s1 s4
    second_stays =
        decides_kept t size (address + n) (Chosen t size (address + n)) s1 s2 s4
        (second_child size address node) second
        (same_at (address + 2 * n) (address + n + n) s2 s4 (omega arith) since_second)

    third_stays : Decides t size (address + 2 * n) (Chosen t size (address + 2 * n)) s2 s4
    third_stays =
        decides_kept t size (address + 2 * n) (Chosen t size (address + 2 * n)) s2 s3 s4
        (child_node size address 2 node (lit< tt)) third
        (same_at (address + 3 * n) (address + 2 * n + n) s3 s4 (omega arith) since_third)

    -- the node is split in the plan
    lies_deeper : is_leaf (suc size) (slice_get s4.plan.units address) ≡ false
    lies_deeper =
        let h = node.size_at_most in
        not_leaf t.place (lists_of_plan s4.plan) size address (omega (arith, h)) inside
        first_stays.names

    names : NamesNode t.place (lists_of_plan s4.plan) (suc size) address
    names =
        names_four t.place (lists_of_plan s4.plan) size address inside lies_deeper first_stays.names
        second_stays.names third_stays.names fourth.names

    -- with the vectors of its units too
    abbrev moving : Plan
    moving = lists_with_vectors s4.plan

    moving_deeper : is_leaf (suc size) (slice_get moving.units address) ≡ false
    moving_deeper =
        let h = node.size_at_most in
        not_leaf t.place moving size address (omega (arith, h)) inside first_stays.moving_names

    moving_names : NamesNode t.place moving (suc size) address
    moving_names =
        names_four t.place moving size address inside moving_deeper first_stays.moving_names
        second_stays.moving_names third_stays.moving_names fourth.moving_names

    module _ (before : Before) (here : Stands t s0 address before) where
      abbrev a : Tree
      a = Chosen t size address before

      abbrev behind_a : Before
      behind_a = behind (given_of t) size address a before

      abbrev b : Tree
      b = Chosen t size (address + n) behind_a

      abbrev behind_b : Before
      behind_b = behind (given_of t) size (address + n) b behind_a

      abbrev c : Tree
      c = Chosen t size (address + 2 * n) behind_b

      abbrev behind_c : Before
      behind_c = behind (given_of t) size (address + 2 * n) c behind_b

      after_a : Stands t s1 (address + n) behind_a
      after_a = first.stands before here

      after_b : Stands t s2 (address + 2 * n) behind_b
      after_b =
          stands_at t s2 (address + n + n) (address + 2 * n) behind_b (omega arith)
          (second.stands behind_a after_a)

      after_c : Stands t s3 (address + 3 * n) behind_c
      after_c =
          stands_at t s3 (address + 2 * n + n) (address + 3 * n) behind_c (omega arith)
          (third.stands behind_b after_b)

      tree : moving_node t.place s4.plan (suc size) address ≡ split before
      tree =
          split_node moving size address t.place inside moving_deeper ∙
          rw (
            first_stays.tree before here,
            second_stays.tree behind_a after_a,
            third_stays.tree behind_b after_b,
            fourth.tree behind_c after_c,
          ) refl

      -- what is coded of each part, behind the earlier ones
      coded : node_of_plan t.place s4.plan (suc size) address ≡
          coded_node (given_of t) (suc size) address before (split before)
      unfolding tree_with_differences
      coded =
          split_node (lists_of_plan s4.plan) size address t.place inside lies_deeper ∙
          rw (
            first_stays.coded before here,
            second_stays.coded behind_a after_a,
            third_stays.coded behind_b after_b,
            fourth.coded behind_c after_c,
          ) refl

      -- and decoded so
      decodes : DecodesNode moving (suc size) address t.place t.qp (references_of t) t.near.now
          s0.samples s4.samples
      decodes =
          split_by_children moving size address t.place t.qp (references_of t) t.near.now
          s0.samples s1.samples s2.samples s3.samples s4.samples node inside moving_deeper
          (decodes_by t size address s4.plan s0 s1 before.earlier few here.earlier
          first_stays.tree first.stands)
          (decodes_by t size (address + n) s4.plan s1 s2 behind_a.earlier few after_a.earlier
          second_stays.tree second.stands)
          (decodes_by t size (address + 2 * n) s4.plan s2 s3 behind_b.earlier few after_b.earlier
          third_stays.tree third.stands)
          (decodes_by t size (address + 3 * n) s4.plan s3 s4 behind_c.earlier few after_c.earlier
          fourth.tree fourth.stands)

      stands : Stands t s4 (address + squares (suc size))
          (behind (given_of t) (suc size) address (split before) before)
      stands = record {
        decoded =
            seen_behind t (suc size) address s4.plan s0 s4 (split before) before.decoded decodes
            here.decoded tree;
        earlier =
            subst (λ u. Shows t.place moving (address + squares (suc size))
            (before.earlier ++ squares_of (suc size) u)) tree
            (shows_behind t.place (suc size) address before.earlier s0 s4 here.earlier kept
            moving_names);
      }

    four : Decides t (suc size) address split s0 s4
    four = record {
      kept = kept;
      names = names;
      moving_names = moving_names;
      tree = tree;
      coded = coded;
      stands = stands;
    }

-- by the code's step and size
abbrev SplitDecides :
    Task → ℕ → ℕ → ℕ → Block → Block → Block → Block → Block → ℕ → Type 0
SplitDecides t below step address s0 s1 s2 s3 s4 size =
    step ≡ squares below → IsNodeOfBlock size address → is_outside t.place address ≡ false →
    Decides t below address (Chosen t below address) s0 s1 →
    Decides t below (address + step) (Chosen t below (address + step)) s1 s2 →
    Decides t below (address + 2 * step) (Chosen t below (address + 2 * step)) s2 s3 →
    Decides t below (address + 3 * step) (Chosen t below (address + 3 * step)) s3 s4 →
    Decides t size address
    (λ before. split_of (given_of t) below address before (best (given_of t) below)) s0 s4

split_above : (t : Task) (below step address : ℕ) (s0 s1 s2 s3 s4 : Block) →
    SplitDecides t below step address s0 s1 s2 s3 s4 (suc below)
split_above t below step address s0 s1 s2 s3 s4 is_step node inside first second third fourth =
    let at : (k : ℕ) (s u : Block) →
    Decides t below (address + k * step) (Chosen t below (address + k * step)) s u →
    Decides t below (address + k * squares below) (Chosen t below (address + k * squares below))
    s u =
    λ k s u. subst (λ n. Decides t below (address + k * n) (Chosen t below (address + k * n)) s u)
    is_step in
    four t below address s0 s1 s2 s3 s4 node inside first
    (subst (λ n. Decides t below (address + n) (Chosen t below (address + n)) s1 s2) is_step second)
    (at 2 s2 s3 third) (at 3 s3 s4 fourth)

pub split_decides : (t : Task) (size step address : ℕ) (s0 s1 s2 s3 s4 : Block) → 0 < size →
    step ≡ squares (size - 1) → IsNodeOfBlock size address → is_outside t.place address ≡ false →
    Decides t (size - 1) address (Chosen t (size - 1) address) s0 s1 →
    Decides t (size - 1) (address + step) (Chosen t (size - 1) (address + step)) s1 s2 →
    Decides t (size - 1) (address + 2 * step) (Chosen t (size - 1) (address + 2 * step)) s2 s3 →
    Decides t (size - 1) (address + 3 * step) (Chosen t (size - 1) (address + 3 * step)) s3 s4 →
    Decides t size address (split_choice t size address) s0 s4
split_decides t size step address s0 s1 s2 s3 s4 some =
    let above : suc (size - 1) ≡ size = omega (arith, some) in
    subst (λ n. SplitDecides t (size - 1) step address s0 s1 s2 s3 s4 n) above
    (split_above t (size - 1) step address s0 s1 s2 s3 s4)

-- the four parts are nodes
pub record AreParts (below step address : ℕ) : Type 0 where
  pub first : IsNodeOfBlock below address
  pub second : IsNodeOfBlock below (address + step)
  pub third : IsNodeOfBlock below (address + 2 * step)
  pub fourth : IsNodeOfBlock below (address + 3 * step)

abbrev HasParts : ℕ → ℕ → ℕ → ℕ → Type 0
HasParts below step address size =
    step ≡ squares below → IsNodeOfBlock size address → AreParts below step address

parts_above : (below step address : ℕ) → HasParts below step address (suc below)
parts_above below step address is_step node =
    subst (λ n. AreParts below n address) (sym is_step) (record {
      first = first_child below address node;
      second = second_child below address node;
      third = child_node below address 2 node (lit< tt);
      fourth = child_node below address 3 node (lit< tt);
    })

pub parts_of : (size step address : ℕ) → 0 < size → step ≡ squares (size - 1) →
    IsNodeOfBlock size address → AreParts (size - 1) step address
parts_of size step address some =
    let above : suc (size - 1) ≡ size = omega (arith, some) in
    subst (λ n. HasParts (size - 1) step address n) above (parts_above (size - 1) step address)
