-- The trees that are tried of a node, in the order of the definition: a unit from entry 0 of list
-- 0, one from entry 1, an intra unit, and the split.
use Rattle.std.proofs.Common.{◌≡◌, ℕ, zero, suc, ◌-◌, ◌<◌, Bool, true, false, cond, List, [], ◌∷◌, ◌++◌, length, map, refl, sym, ap, ◌∙◌, arith}
use Rattle.std.specs.Prelude.{nat_lt, nat_le, ◌&&◌, Option, Some, None}
use Rattle.std.proofs.lemmas.List.{append-nil, append_assoc, map-append}
use Rattle.std.proofs.lemmas.Option.{none-some}
use Rattle.hv_plan.specs.declared.prediction.Mv.{Mv}
use Rattle.hv_block.specs.declared.block.Block.{Block}
use Rattle.hv_tree_model.specs.Trees.{Prediction, Intra, Tree, side}
use Rattle.hv_tree_model.specs.Sites.{x0, y0}
use Rattle.hv_mode_model.specs.ModeDecision.{Given, Before, leaf, luma_mode, has_list_0, may_name, inter_unit, inter_by, inter_at, split_of, best}
use Rattle.hv_mode.specs.declared.task.Task.{Task}
use Rattle.hv_mode.specs.Nodes.{given_of, Stands, leaf_choice}
use Rattle.hv_mode.specs.InterChoices.{names, found_at, inter_choice}
use Rattle.hv_mode.specs.SplitNodes.{split_choice, unit_choices, split_choices}
use Rattle.hv_mode.specs.WaitingNodes.{Tried, more_trees, entry_choices, with_entry}

-- ---- units that are predicted from another picture

module _ (g : Given) (size address : ℕ) (before : Before) (entry : ℕ) where
  none_by : (named : Bool) (vector : Option Mv) → may_name g before entry ≡ named →
      cond named vector None ≡ None → inter_by g size address before entry vector ≡ []
  none_by named None is none = refl
  none_by true (Some mv) is none = absurd (none-some mv (sym none))
  none_by false (Some mv) is none =
      ap (λ test. cond test (inter_unit g size address before entry mv ∷ []) []) is

  some_by : (named : Bool) (vector : Option Mv) (mv : Mv) → may_name g before entry ≡ named →
      cond named vector None ≡ Some mv →
      inter_by g size address before entry vector ≡ inter_unit g size address before entry mv ∷ []
  some_by true vector mv is some =
      ap (inter_by g size address before entry) some ∙
      ap (λ test. cond test (inter_unit g size address before entry mv ∷ []) []) is
  some_by false vector mv is some = absurd (none-some mv some)

module _ (t : Task) (size address entry : ℕ) (block : Block) (before : Before)
    (here : Stands t block address before) where
  same_names : may_name (given_of t) before entry ≡ names t entry
  same_names =
      ap (λ pictures. has_list_0 t.kind && nat_le t.references 2 && nat_lt entry t.references &&
      nat_lt entry (length pictures)) here.decoded.same_references

  abbrev vector : Option Mv
  vector = (given_of t).vectors entry (x0 t.place address) (y0 t.place address) (side size)

  -- none is tried
  pub none_tried : found_at t size address entry ≡ None →
      entry_choices t size address entry before ≡ []
  none_tried none =
      ap (map (leaf (given_of t) size address before))
      (none_by (given_of t) size address before entry (names t entry) vector same_names none)

  -- or one is, with the vector that was found
  pub one_tried : (mv : Mv) → found_at t size address entry ≡ Some mv →
      entry_choices t size address entry before ≡
      inter_choice t size address entry mv before ∷ []
  one_tried mv some =
      ap (map (leaf (given_of t) size address before))
      (some_by (given_of t) size address before entry (names t entry) vector mv same_names some)

-- a vector was found for an entry that may be named
named_by : (named : Bool) (found : Option Mv) (mv : Mv) → cond named found None ≡ Some mv →
    named ≡ true
named_by true found mv some = refl
named_by false found mv some = absurd (none-some mv some)

pub is_named : (t : Task) (size address entry : ℕ) (mv : Mv) →
    found_at t size address entry ≡ Some mv → names t entry ≡ true
is_named t size address entry mv = named_by (names t entry) _ mv

pub none_more : (t : Task) (size address entry : ℕ) (trees : Tried) (block : Block) →
    found_at t size address entry ≡ None → (before : Before) → Stands t block address before →
    trees before ≡ with_entry t size address entry trees before
none_more t size address entry trees block none before here =
    sym (ap (λ list. trees before ++ list)
    (none_tried t size address entry block before here none) ∙ append-nil (trees before))

pub one_more : (t : Task) (size address entry : ℕ) (trees : Tried) (block : Block) (mv : Mv) →
    found_at t size address entry ≡ Some mv → (before : Before) → Stands t block address before →
    more_trees trees (inter_choice t size address entry mv) before ≡
    with_entry t size address entry trees before
one_more t size address entry trees block mv some before here =
    sym (ap (λ list. trees before ++ list)
    (one_tried t size address entry block before here mv some))

-- ---- all units, and the split

pub units_in_order : (t : Task) (size address : ℕ) (before : Before) →
    more_trees (with_entry t size address 1 (entry_choices t size address 0))
    (leaf_choice t size address) before ≡
    unit_choices t size address before
units_in_order t size address before =
    let g : Given = given_of t in
    let unit : Prediction → Tree = leaf g size address before in
    let first : List Prediction = inter_at g size address before 0 in
    let second : List Prediction = inter_at g size address before 1 in
    let third : List Prediction = Intra (luma_mode g size address before) ∷ [] in
    append_assoc (map unit first) (map unit second) (map unit third) ∙
    ap (λ list. map unit first ++ list) (sym (map-append unit second third)) ∙
    sym (map-append unit first (second ++ third))

pub least_has_no_split : (t : Task) (size address : ℕ) (before : Before) → size ≡ 0 →
    unit_choices t size address before ≡
    unit_choices t size address before ++ split_choices t size address before
least_has_no_split t zero address before is = sym (append-nil (unit_choices t zero address before))
least_has_no_split t (suc size) address before is = absurd (omega (arith, is))

pub and_the_split : (t : Task) (size address : ℕ) (before : Before) → 0 < size →
    more_trees (unit_choices t size address) (split_choice t size address) before ≡
    unit_choices t size address before ++ split_choices t size address before
and_the_split t zero address before some = absurd (omega (arith, some))
and_the_split t (suc size) address before some =
    let below : suc size - 1 ≡ size = omega arith in
    ap (λ n. unit_choices t (suc size) address before ++
    split_of (given_of t) n address before (best (given_of t) n) ∷ []) below
