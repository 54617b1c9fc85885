-- A node of which several trees are tried: what each costs, and the first that costs least.
use Rattle.std.proofs.Common.{◌≡◌, ℕ, ◌+◌, ◌<◌, ◌≤◌, cond, List, [], ◌∷◌, ◌++◌, length, refl, sym, ap, ap₂, subst, ◌∙◌, arith, length-append}
use Rattle.std.specs.Prelude.{nat_lt, Option, Some, None}
use Rattle.hv_lemmas.proofs.ComparisonLemmas.{lt_below, lt_not_below}
use Rattle.hv_block.specs.declared.block.Block.{Block}
use Rattle.hv_tree_model.specs.Trees.{Tree}
use Rattle.hv_tree_model.specs.Sites.{squares}
use Rattle.hv_near.specs.Squares.{Shows}
use Rattle.hv_recon.specs.Leaves.{AreSeen, lists_with_vectors}
use Rattle.hv_recon.specs.DecodedNodes.{node_of_plan, IsNodeOfBlock}
use Rattle.hv_filter_model.specs.Costs.{cheaper, first_least}
use Rattle.hv_mode_model.specs.ModeDecision.{Given, Before, behind, decoded_behind, coded_node, cost_of, least_of}
use Rattle.hv_mode.specs.declared.task.Task.{Task}
use Rattle.hv_mode.specs.Nodes.{given_of, Stands, SameBefore, Decides, CopiesNode}
use Rattle.hv_mode.specs.Vectors.{references_of}
use Rattle.hv_mode.specs.WaitingNodes.{Tried, more_trees, least_tried, Costs, Waits, WaitsIf}
use Rattle.hv_mode.specs.Limits.{IsUpTo, CostsAtLeast}
use Rattle.hv_mode.proofs.FrameLemmas.{same_sym, same_trans, stands_since, restored}
use Rattle.hv_mode.proofs.NodeFrameLemmas.{decides_kept}

-- a choice that is the same wherever the node may stand
pub decides_as : (t : Task) (size address : ℕ) (choice other : Before → Tree) (old new : Block) →
    ((before : Before) → Stands t old address before → choice before ≡ other before) →
    Decides t size address choice old new → Decides t size address other old new
decides_as t size address choice other old new same decides = record {
  kept = decides.kept;
  names = decides.names;
  moving_names = decides.moving_names;
  tree = λ before here. decides.tree before here ∙ same before here;
  coded = λ before here.
      decides.coded before here ∙
      ap (coded_node (given_of t) size address before) (same before here);
  stands = λ before here.
      subst (λ tree. Stands t new (address + squares size)
      (behind (given_of t) size address tree before)) (same before here)
      (decides.stands before here);
}

-- ---- costs

-- the cost that is counted of a node that was decided
abbrev pub CountsNode : Task → ℕ → ℕ → Block → ℕ → Type 0
CountsNode t size address block result =
    (before : Before) (tree : Tree) →
    Shows t.place (lists_with_vectors block.plan) address before.earlier →
    coded_node (given_of t) size address before tree ≡
    node_of_plan t.place block.plan size address →
    AreSeen t.place (references_of t) t.near.now block.samples (address + squares size)
    (decoded_behind (given_of t) size address tree before.decoded) →
    result ≡ cost_of (given_of t) size address before tree

-- is that of the choice
pub costs_choice : (t : Task) (size address : ℕ) (choice : Before → Tree) (old new : Block)
    (result : ℕ) → Decides t size address choice old new →
    CountsNode t size address new result → Costs t size address choice old result
costs_choice t size address choice old new result decides counts before here =
    let there = stands_since t address before old new decides.kept here in
    counts before (choice before) there.earlier (sym (decides.coded before here))
    (decides.stands before here).decoded

-- that of a node that was decided, up to a limit
abbrev pub CountsUpTo : Task → ℕ → ℕ → Block → ℕ → ℕ → Type 0
CountsUpTo t size address block limit result =
    (before : Before) (tree : Tree) →
    Shows t.place (lists_with_vectors block.plan) address before.earlier →
    coded_node (given_of t) size address before tree ≡
    node_of_plan t.place block.plan size address →
    AreSeen t.place (references_of t) t.near.now block.samples (address + squares size)
    (decoded_behind (given_of t) size address tree before.decoded) →
    IsUpTo limit (cost_of (given_of t) size address before tree) result

module _ (t : Task) (size address : ℕ) (choice : Before → Tree) (old new : Block)
    (limit result : ℕ) (decides : Decides t size address choice old new)
    (counts : CountsUpTo t size address new limit result) where
  up_to : (before : Before) → Stands t old address before →
      IsUpTo limit (cost_of (given_of t) size address before (choice before)) result
  up_to before here =
      let there = stands_since t address before old new decides.kept here in
      counts before (choice before) there.earlier (sym (decides.coded before here))
      (decides.stands before here).decoded

  pub costs_below : result < limit → Costs t size address choice old result
  costs_below less = λ before here. (up_to before here).less less

  pub costs_more : limit ≤ result → CostsAtLeast t size address choice old limit
  costs_more more = λ before here. (up_to before here).more more

-- ---- the one that costs less

second_is_cheaper : (f : Tree → ℕ) (first second : Tree) (m n : ℕ) → m ≡ f first →
    n ≡ f second → n < m → cheaper f first second ≡ second
second_is_cheaper f first second m n is_m is_n less =
    ap (λ test. cond test second first)
    (ap₂ nat_lt (sym is_n) (sym is_m) ∙ lt_below n m less)

second_is_not : (f : Tree → ℕ) (first second : Tree) (m : ℕ) → m ≡ f first →
    m ≤ f second → cheaper f first second ≡ first
second_is_not f first second m is_m more =
    ap (λ test. cond test second first)
    (ap (nat_lt (f second)) (sym is_m) ∙ lt_not_below (f second) m more)

-- of one more tree, behind the others
first_least_more : (f : Tree → ℕ) (first : Tree) (others : List Tree) (next : Tree) →
    first_least f first (others ++ next ∷ []) ≡ cheaper f (first_least f first others) next
first_least_more f first [] next = refl
first_least_more f first (other ∷ others) next =
    first_least_more f (cheaper f first other) others next

least_more : (g : Given) (size address : ℕ) (before : Before) (trees : List Tree) (next : Tree) →
    0 < length trees →
    least_of g size address before (trees ++ next ∷ []) ≡
    cheaper (cost_of g size address before) (least_of g size address before trees) next
least_more g size address before [] next some = absurd (omega (arith, some))
least_more g size address before (tree ∷ trees) next some =
    first_least_more (cost_of g size address before) tree trees next

-- ---- the one that waits

pub is_none : {A : Type 0} (value : Option A) → ((x : A) → value ≡ Some x → ⊥) → value ≡ None
is_none None other = refl
is_none (Some x) other = absurd (other x refl)

some_more : (trees : List Tree) (next : Tree) → 0 < length (trees ++ next ∷ [])
some_more trees next = omega (arith, length-append trees (next ∷ []))

-- trees that are the same wherever the node may stand
pub waits_as : (t : Task) (size address : ℕ) (trees others : Tried) (old waiting : Block)
    (least : Option ℕ) →
    ((before : Before) → Stands t old address before → trees before ≡ others before) →
    WaitsIf t size address trees old waiting least →
    WaitsIf t size address others old waiting least
waits_as t size address trees others old waiting None same none =
    λ before here. sym (same before here) ∙ none before here
waits_as t size address trees others old waiting (Some cost) same waits =
    let g : Given = given_of t in record {
      first = waits.first;
      into = waits.into;
      some = λ before here.
          subst (λ list. 0 < length list) (same before here) (waits.some before here);
      decided =
          decides_as t size address (least_tried t size address trees)
          (least_tried t size address others) old waits.first
          (λ before here. ap (least_of g size address before) (same before here)) waits.decided;
      copied = waits.copied;
      costs = λ before here.
          waits.costs before here ∙
          ap (λ list. cost_of g size address before (least_of g size address before list))
          (same before here);
    }

-- one more tree than those of which the first of least cost waits
module _ (t : Task) (size address : ℕ) (trees : Tried) (choice : Before → Tree)
    (old waiting : Block) (least : ℕ) (waits : Waits t size address trees old waiting least) where
  pub cheaper_than : (before : Before) → Stands t old address before →
      least_tried t size address (more_trees trees choice) before ≡
      cheaper (cost_of (given_of t) size address before) (least_tried t size address trees before)
      (choice before)
  cheaper_than before here =
      least_more (given_of t) size address before (trees before) (choice before)
      (waits.some before here)

  -- it costs less
  pub more_is_least : (next : ℕ) → Costs t size address choice old next → next < least →
      (before : Before) → Stands t old address before →
      choice before ≡ least_tried t size address (more_trees trees choice) before
  more_is_least next costs less before here =
      sym (cheaper_than before here ∙
      second_is_cheaper (cost_of (given_of t) size address before)
      (least_tried t size address trees before) (choice before) least next
      (waits.costs before here) (costs before here) less)

  -- or it doesn't
  pub first_is_least : CostsAtLeast t size address choice old least → (before : Before) →
      Stands t old address before →
      least_tried t size address trees before ≡
      least_tried t size address (more_trees trees choice) before
  first_is_least more before here =
      sym (cheaper_than before here ∙
      second_is_not (cost_of (given_of t) size address before)
      (least_tried t size address trees before) (choice before) least (waits.costs before here)
      (more before here))

  -- then the one that waits still does
  pub still_waits : CostsAtLeast t size address choice old least →
      Waits t size address (more_trees trees choice) old waiting least
  still_waits more = record {
    first = waits.first;
    into = waits.into;
    some = λ before here. some_more (trees before) (choice before);
    decided =
        decides_as t size address (least_tried t size address trees)
        (least_tried t size address (more_trees trees choice)) old waits.first
        (first_is_least more) waits.decided;
    copied = waits.copied;
    costs = λ before here.
        waits.costs before here ∙
        ap (cost_of (given_of t) size address before) (first_is_least more before here);
  }

module _ (t : Task) (size address : ℕ) (trees : Tried) (choice : Before → Tree)
    (old out waiting new : Block) (next : ℕ) (decides : Decides t size address choice old out)
    (costs : Costs t size address choice old next)
    (copies : CopiesNode size address out waiting new) where
  -- the new one was copied, where it is the first of least cost
  copied_waits :
      ((before : Before) → Stands t old address before →
      choice before ≡ least_tried t size address (more_trees trees choice) before) →
      Waits t size address (more_trees trees choice) old new next
  copied_waits is = record {
    first = out;
    into = waiting;
    some = λ before here. some_more (trees before) (choice before);
    decided =
        decides_as t size address choice
        (least_tried t size address (more_trees trees choice)) old out is decides;
    copied = copies;
    costs = λ before here.
        costs before here ∙ ap (cost_of (given_of t) size address before) (is before here);
  }

  -- nothing was tried before
  pub first_waits : WaitsIf t size address trees old waiting None →
      Waits t size address (more_trees trees choice) old new next
  first_waits none =
      copied_waits (λ before here.
      sym (ap (λ list. least_of (given_of t) size address before (list ++ choice before ∷ []))
      (none before here)))

  -- or it costs less than what waits
  pub next_waits : (least : ℕ) → Waits t size address trees old waiting least → next < least →
      Waits t size address (more_trees trees choice) old new next
  next_waits least waits less =
      copied_waits
      (more_is_least t size address trees choice old waiting least waits next costs less)

-- what waits is copied back, whatever was tried meanwhile
pub waiting_decides : (t : Task) (size address : ℕ) (trees : Tried)
    (old waiting tried new : Block) (cost : ℕ) → IsNodeOfBlock size address →
    Waits t size address trees old waiting cost → SameBefore address old tried →
    CopiesNode size address waiting tried new →
    Decides t size address (least_tried t size address trees) old new
waiting_decides t size address trees old waiting tried new cost node waits kept back =
    decides_kept t size address (least_tried t size address trees) old waits.first new node
    waits.decided
    (restored size address waits.first waits.into waiting tried new waits.copied
    (same_trans address waits.first old tried
    (same_sym address old waits.first waits.decided.kept) kept) back)
