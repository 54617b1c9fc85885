-- Nodes of a block in decoding order (6.5.2): a later write keeps a node's tree and the names of
-- its units, and a node that decodes as it is chosen is decided.
use Rattle.std.proofs.Common.{◌≡◌, ℕ, zero, suc, ◌+◌, ◌-◌, ◌*◌, ◌^◌, ◌<◌, ◌≤◌, Bool, true, false, cond, List, ◌∷◌, ◌++◌, take, drop, refl, sym, ap, ap₂, ◌∙◌, subst, arith}
use Rattle.std.specs.Prelude.{nat_le, slice_get, slice_index_or, Option, Some, None}
use Rattle.std.proofs.lemmas.List.{drop-take}
use Rattle.std.proofs.lemmas.Bool.{true≢false}
use Rattle.std.proofs.lemmas.Bool.Decides.{nat_tests}
use Rattle.hv_plan.specs.declared.prediction.Unit.{Unit}
use Rattle.hv_block.specs.declared.block.Block.{Block}
use Rattle.hv_tree_model.specs.Trees.{Tree, Leaf, Split, Outside, depth_of, log2TrafoSize, transform_units}
use Rattle.hv_tree_model.specs.Sites.{Site, squares, is_outside}
use Rattle.hv_tree_model.specs.EarlierUnits.{Square, Unavailable, squares_of}
use Rattle.hv_tree_model.specs.Plans.{Plan, part, prediction_of, transform_unit_at, transform_units_at, leaf_at, is_leaf, tree_at}
use Rattle.hv_recon_model.specs.Reconstruction.{Decoded}
use Rattle.hv_recon.specs.Leaves.{AreSeen, lists_with_vectors}
use Rattle.hv_recon.specs.DecodedNodes.{node_of_plan, IsNodeOfBlock, DecodesNode}
use Rattle.hv_recon.proofs.NodeLemmas.{split_node}
use Rattle.hv_near.specs.Neighbours.{lists_of_plan}
use Rattle.hv_syntax.specs.Blocks.{ends}
use Rattle.hv_near.specs.Squares.{Shows, NamesNode}
use Rattle.hv_syntax.proofs.NodeLemmas.{shows_more}
use Rattle.hv_syntax.proofs.NamingLemmas.{depth_of_names, names_by_parts}
use Rattle.hv_mode_model.specs.ModeDecision.{Before, or_else, decoded_behind, coded_node}
use Rattle.hv_mode.specs.declared.task.Task.{Task}
use Rattle.hv_mode.specs.Nodes.{given_of, moving_node, Stands, SameBefore, Decides}
use Rattle.hv_mode.specs.Vectors.{references_of}
use Rattle.hv_mode.proofs.FrameLemmas.{take_less, same_trans, same_less, own_square_same, moving_units_same, moving_square_same, stands_since}
use Rattle.hv_lemmas.proofs.ListLemmas.{get_before}
use Rattle.hv_tree_model.proofs.NodeLemmas.{squares_above_0}

-- ---- plans that begin alike

-- the same before this address
record SameFirst (address : ℕ) (p q : Plan) : Type 0 where
  pub units : take address p.units ≡ take address q.units
  pub luma : take (64 * address) p.luma ≡ take (64 * address) q.luma
  pub cb : take (16 * address) p.cb ≡ take (16 * address) q.cb
  pub cr : take (16 * address) p.cr ≡ take (16 * address) q.cr

part_before : {A : Type 0} (most from count : ℕ) (xs ys : List A) → from + count ≤ most →
    take most xs ≡ take most ys → part xs from count ≡ part ys from count
part_before most from count xs ys fits same =
    sym (drop-take from count xs) ∙ ap (drop from) (take_less (from + count) most xs ys fits same) ∙
    drop-take from count ys

-- how many squares a transform block of 2^log2 columns and rows has
record HasStep (log2 step : ℕ) : Type 0 where
  pub squares : squares (log2 - 3) ≡ step
  pub luma : 2 ^ log2 * 2 ^ log2 ≡ 64 * step
  pub chroma : 2 ^ (log2 - 1) * 2 ^ (log2 - 1) ≡ 16 * step

unit_same : (most log2 step address : ℕ) (p q : Plan) → HasStep log2 step →
    address + step ≤ most → SameFirst most p q →
    transform_unit_at p log2 address ≡ transform_unit_at q log2 address
unit_same most log2 step address p q has fits same =
    let luma = part_before (64 * most) (64 * address) (2 ^ log2 * 2 ^ log2) p.luma q.luma
    (omega (arith, has.luma, fits)) same.luma in
    let cb = part_before (16 * most) (16 * address) (2 ^ (log2 - 1) * 2 ^ (log2 - 1)) p.cb q.cb
    (omega (arith, has.chroma, fits)) same.cb in
    let cr = part_before (16 * most) (16 * address) (2 ^ (log2 - 1) * 2 ^ (log2 - 1)) p.cr q.cr
    (omega (arith, has.chroma, fits)) same.cr in
    λ i. record { luma = luma i; cb = cb i; cr = cr i }

units_same : (most log2 step address count : ℕ) (p q : Plan) → HasStep log2 step →
    address + count * step ≤ most → SameFirst most p q →
    transform_units_at p log2 address count ≡ transform_units_at q log2 address count
units_same most log2 step address zero p q has fits same = refl
units_same most log2 step address (suc count) p q has fits same =
    let here : address + step ≤ most = omega (arith, fits) in
    let rest : address + squares (log2 - 3) + count * step ≤ most =
    omega (arith, fits, has.squares) in
    ap₂ (λ u us. u ∷ us) (unit_same most log2 step address p q has here same)
    (units_same most log2 step (address + squares (log2 - 3)) count p q has rest same)

node_units_same : (most size address : ℕ) (p q : Plan) → size ≤ 3 →
    address + squares size ≤ most → SameFirst most p q →
    transform_units_at p (log2TrafoSize size) address (transform_units size) ≡
    transform_units_at q (log2TrafoSize size) address (transform_units size)
node_units_same most zero address p q few fits same =
    units_same most 3 1 address 1 p q (record { squares = refl; luma = refl; chroma = refl })
    (omega (arith, fits)) same
node_units_same most (suc zero) address p q few fits same =
    units_same most 4 4 address 1 p q (record { squares = refl; luma = refl; chroma = refl })
    (omega (arith, fits)) same
node_units_same most (suc (suc zero)) address p q few fits same =
    units_same most 5 16 address 1 p q (record { squares = refl; luma = refl; chroma = refl })
    (omega (arith, fits)) same
node_units_same most (suc (suc (suc zero))) address p q few fits same =
    units_same most 5 16 address 4 p q (record { squares = refl; luma = refl; chroma = refl })
    (omega (arith, fits)) same
node_units_same most (suc (suc (suc (suc size)))) address p q few fits same =
    absurd (omega (arith, few))

leaf_by_unit : (most size address : ℕ) (p q : Plan) (unit : Option Unit) → size ≤ 3 →
    address + squares size ≤ most → SameFirst most p q →
    leaf_at p size address unit ≡ leaf_at q size address unit
leaf_by_unit most size address p q None few fits same = refl
leaf_by_unit most size address p q (Some u) few fits same =
    ap (Leaf (prediction_of u.pred)) (node_units_same most size address p q few fits same)

first_unit_same : (most size address : ℕ) (p q : Plan) → address + squares size ≤ most →
    SameFirst most p q → slice_get p.units address ≡ slice_get q.units address
first_unit_same most size address p q fits same =
    get_before most p.units q.units address (omega (arith, fits, squares_above_0 size)) same.units

leaf_same : (most size address : ℕ) (p q : Plan) → size ≤ 3 → address + squares size ≤ most →
    SameFirst most p q →
    leaf_at p size address (slice_get p.units address) ≡
    leaf_at q size address (slice_get q.units address)
leaf_same most size address p q few fits same =
    leaf_by_unit most size address p q (slice_get p.units address) few fits same ∙
    ap (leaf_at q size address) (first_unit_same most size address p q fits same)

tree_same : (site : Site) (most size address : ℕ) (p q : Plan) → size ≤ 3 →
    address + squares size ≤ most → SameFirst most p q →
    tree_at site p size address ≡ tree_at site q size address
unfolding tree_at
tree_same site most zero address p q few fits same =
    ap (cond (is_outside site address) Outside) (leaf_same most zero address p q few fits same)
tree_same site most (suc size) address p q few fits same =
    let n : ℕ = squares size in
    let less : size ≤ 3 = omega (arith, few) in
    let unit = first_unit_same most (suc size) address p q fits same in
    let leaf = leaf_same most (suc size) address p q few fits same in
    let first = tree_same site most size address p q less (omega (arith, fits)) same in
    let second = tree_same site most size (address + n) p q less (omega (arith, fits)) same in
    let third = tree_same site most size (address + 2 * n) p q less (omega (arith, fits)) same in
    let fourth = tree_same site most size (address + 3 * n) p q less (omega (arith, fits)) same in
    λ i. cond (is_outside site address) Outside
    (cond (is_leaf (suc size) (unit i)) (leaf i) (Split (first i) (second i) (third i) (fourth i)))

-- ---- a node behind which is written

first_of : (address : ℕ) (s t : Block) → SameBefore address s t →
    SameFirst address (lists_of_plan t.plan) (lists_of_plan s.plan)
first_of address s t same = record {
  units = same.units;
  luma = same.luma_levels;
  cb = same.cb_levels;
  cr = same.cr_levels;
}

-- with the vectors of the units
first_moving : (address : ℕ) (s t : Block) → SameBefore address s t →
    SameFirst address (lists_with_vectors t.plan) (lists_with_vectors s.plan)
first_moving address s t same = record {
  units = moving_units_same address s t same;
  luma = same.luma_levels;
  cb = same.cb_levels;
  cr = same.cr_levels;
}

names_same : (site : Site) (size address : ℕ) (p q : Plan) → size ≤ 3 →
    SameFirst (address + squares size) q p → NamesNode site p size address →
    NamesNode site q size address
names_same site size address p q few same names = record {
  square = λ i below inside.
      ap (λ tree. slice_index_or (squares_of size tree) i Unavailable)
      (tree_same site (address + squares size) size address q p few (omega arith) same) ∙
      names.square i below inside ∙
      own_square_same (address + squares size) p q (address + i) (omega (arith, below)) same.units;
}

pub tree_kept : (place : Site) (size address : ℕ) (s t : Block) → IsNodeOfBlock size address →
    SameBefore (address + squares size) s t →
    node_of_plan place t.plan size address ≡ node_of_plan place s.plan size address
tree_kept place size address s t node same =
    tree_same place (address + squares size) size address _ _ node.size_at_most (omega arith)
    (first_of (address + squares size) s t same)

pub moving_tree_kept : (place : Site) (size address : ℕ) (s t : Block) →
    IsNodeOfBlock size address → SameBefore (address + squares size) s t →
    moving_node place t.plan size address ≡ moving_node place s.plan size address
moving_tree_kept place size address s t node same =
    tree_same place (address + squares size) size address _ _ node.size_at_most (omega arith)
    (first_moving (address + squares size) s t same)

pub names_kept : (place : Site) (size address : ℕ) (s t : Block) → IsNodeOfBlock size address →
    SameBefore (address + squares size) s t →
    NamesNode place (lists_of_plan s.plan) size address →
    NamesNode place (lists_of_plan t.plan) size address
names_kept place size address s t node same =
    names_same place size address (lists_of_plan s.plan) (lists_of_plan t.plan)
    node.size_at_most (first_of (address + squares size) s t same)

pub moving_names_kept : (place : Site) (size address : ℕ) (s t : Block) →
    IsNodeOfBlock size address → SameBefore (address + squares size) s t →
    NamesNode place (lists_with_vectors s.plan) size address →
    NamesNode place (lists_with_vectors t.plan) size address
moving_names_kept place size address s t node same =
    names_same place size address (lists_with_vectors s.plan) (lists_with_vectors t.plan)
    node.size_at_most (first_moving (address + squares size) s t same)

pub decides_kept : (task : Task) (size address : ℕ) (choice : Before → Tree)
    (old mid new : Block) → IsNodeOfBlock size address →
    Decides task size address choice old mid → SameBefore (address + squares size) mid new →
    Decides task size address choice old new
decides_kept task size address choice old mid new node decides same = record {
  kept = same_trans address old mid new decides.kept
      (same_less address (address + squares size) mid new (omega arith) same);
  names = names_kept task.place size address mid new node same decides.names;
  moving_names =
      moving_names_kept task.place size address mid new node same decides.moving_names;
  tree = λ before stands.
      moving_tree_kept task.place size address mid new node same ∙ decides.tree before stands;
  coded = λ before stands.
      tree_kept task.place size address mid new node same ∙ decides.coded before stands;
  stands = λ before stands.
      stands_since task (address + squares size) _ mid new same (decides.stands before stands);
}

-- ---- what is seen behind a node

pub shows_behind : (place : Site) (size address : ℕ) (earlier : List Square) (s t : Block) →
    Shows place (lists_with_vectors s.plan) address earlier → SameBefore address s t →
    NamesNode place (lists_with_vectors t.plan) size address →
    Shows place (lists_with_vectors t.plan) (address + squares size)
    (earlier ++ squares_of size (moving_node place t.plan size address))
shows_behind place size address earlier s t shows same names =
    shows_more place (lists_with_vectors t.plan) size address earlier
    (record {
      count = shows.count;
      square = λ a below inside.
          shows.square a below inside ∙ moving_square_same address s t a below same;
    })
    names

-- a node that has the tree chosen, and what is coded of it, and decodes, is decided
pub decides_by : (task : Task) (size address : ℕ) (choice : Before → Tree) (old new : Block) →
    SameBefore address old new → NamesNode task.place (lists_of_plan new.plan) size address →
    NamesNode task.place (lists_with_vectors new.plan) size address →
    ((before : Before) → Stands task old address before →
    moving_node task.place new.plan size address ≡ choice before) →
    ((before : Before) → Stands task old address before →
    node_of_plan task.place new.plan size address ≡
    coded_node (given_of task) size address before (choice before)) →
    DecodesNode (lists_with_vectors new.plan) size address task.place task.qp
    (references_of task) task.near.now old.samples new.samples →
    Decides task size address choice old new
decides_by task size address choice old new same names moving_names tree coded decodes = record {
  kept = same;
  names = names;
  moving_names = moving_names;
  tree = tree;
  coded = coded;
  stands = λ before stands.
      let d : Decoded = before.decoded in
      let same_tree = tree before stands in
      let r = decodes d stands.decoded in
      let is : decoded_behind (given_of task) size address (choice before) d ≡ r.0 =
      ap (λ chosen. decoded_behind (given_of task) size address chosen d) (sym same_tree) ∙
      ap (or_else d) r.1 in
      let next : ℕ = address + squares size in
      record {
        decoded =
            subst (AreSeen task.place (references_of task) task.near.now new.samples next)
            (sym is) r.2;
        earlier = subst (λ chosen. Shows task.place (lists_with_vectors new.plan) next
            (before.earlier ++ squares_of size chosen)) same_tree
            (shows_behind task.place size address before.earlier old new stands.earlier same
            moving_names);
      };
}

-- ---- children

-- a node inside the picture that is not the whole block lies deeper than the one around it

deeper_leaf : (size depth : ℕ) → size < 3 → depth ≡ depth_of size →
    nat_le depth (depth_of (suc size)) ≡ false
deeper_leaf size depth few at = grind (arith, nat_tests, few, at)

deeper_split : (size depth : ℕ) → ends size depth ≡ false →
    nat_le depth (depth_of (suc size)) ≡ false
deeper_split zero depth split = absurd (true≢false split)
deeper_split (suc size) depth split = grind (arith, nat_tests, split)

pub not_leaf : (place : Site) (plan : Plan) (size address : ℕ) → size < 3 →
    is_outside place address ≡ false → NamesNode place plan size address →
    is_leaf (suc size) (slice_get plan.units address) ≡ false
not_leaf place plan size address few inside names =
    by (slice_get plan.units address) refl where
      at : (u : Unit) → slice_get plan.units address ≡ Some u → (test : Bool) →
          ends size u.depth ≡ test → nat_le u.depth (depth_of (suc size)) ≡ false
      at u there true leaf =
          deeper_leaf size u.depth few
          (depth_of_names place plan size address u inside there leaf names)
      at u there false split = deeper_split size u.depth split

      by : (unit : Option Unit) → slice_get plan.units address ≡ unit →
          is_leaf (suc size) unit ≡ false
      by None there = refl
      by (Some u) there = at u there (ends size u.depth) refl

pub names_four : (place : Site) (plan : Plan) (size address : ℕ) →
    is_outside place address ≡ false →
    is_leaf (suc size) (slice_get plan.units address) ≡ false →
    NamesNode place plan size address →
    NamesNode place plan size (address + squares size) →
    NamesNode place plan size (address + 2 * squares size) →
    NamesNode place plan size (address + 3 * squares size) →
    NamesNode place plan (suc size) address
names_four place plan size address inside split first second third fourth =
    names_by_parts place plan size address
    (split_node plan size address place inside split)
    (record { first = first; second = second; third = third; fourth = fourth })
