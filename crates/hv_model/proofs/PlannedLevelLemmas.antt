-- Whether the transform block of a square has luma levels: by the tree of a plan it is what it is by
-- the plan (8.7.2).
use Rattle.std.proofs.Common.{◌≡◌, ℕ, zero, suc, ◌+◌, ◌*◌, ◌/◌, ◌%◌, ◌<◌, ◌≤◌, Bool, true, false, cond, List, [], ◌∷◌, ◌++◌, length, replicate, refl, sym, ap, subst, arith}
use Rattle.std.specs.Prelude.{slice_get, slice_index_or, Option, Some, None}
use Rattle.hv_plan.specs.declared.prediction.Pred.{Pred}
use Rattle.hv_plan.specs.declared.prediction.Unit.{Unit as SquareUnit}
use Rattle.hv_plan.specs.Levels.{any_significant}
use Rattle.hv_tree_model.specs.Trees.{Prediction, Tree, Outside, Split}
use Rattle.hv_tree_model.specs.Sites.{Site, squares, is_outside}
use Rattle.hv_tree_model.specs.EarlierUnits.{Square, Unavailable, Coded, squares_of}
use Rattle.hv_tree_model.specs.Plans.{Plan, prediction_of, part, leaf_of, leaf_at, is_leaf, tree_at}
use Rattle.hv_unit_model.proofs.AroundLemmas.{length-tree_at}
use Rattle.hv_tree_model.proofs.NodeLemmas.{IsNode, child_of}
use Rattle.hv_deblock_model.specs.CodedSquares.{has_luma_levels}
use Rattle.hv_deblock_model.specs.TreeSquares.{levels_of}

module _ (plan : Plan) where
  -- whether a square has levels is what the plan says, where its unit has this depth
  abbrev pub OfSquare : ℕ → Square → Bool → Type 0
  OfSquare address Unavailable has_levels = Unit {0}
  OfSquare address (Coded depth prediction) has_levels =
      has_levels ≡ has_luma_levels plan depth address

  -- so with all squares from this address on
  abbrev pub Fit : ℕ → List Square → List Bool → Type 0
  Fit address [] [] = Unit {0}
  Fit address [] (l ∷ levels) = ⊥
  Fit address (s ∷ rest) [] = ⊥
  Fit address (s ∷ rest) (l ∷ levels) =
      OfSquare address s l × Fit (address + 1) rest levels

  fit_append : (xs : List Square) (ls : List Bool) (ys : List Square) (ms : List Bool)
      (a b : ℕ) → b ≡ a + length xs → Fit a xs ls → Fit b ys ms → Fit a (xs ++ ys) (ls ++ ms)
  fit_append [] [] ys ms a b e h k =
      let same : b ≡ a = omega (arith, e) in subst (λ n. Fit n ys ms) same k
  fit_append [] (l ∷ ls) ys ms a b e h k = absurd h
  fit_append (x ∷ xs) [] ys ms a b e h k = absurd h
  fit_append (x ∷ xs) (l ∷ ls) ys ms a b e h k =
      (h.0, fit_append xs ls ys ms (a + 1) b (omega (arith, e)) h.1 k)

  fit_four : (w x y z : List Square) (k l m n : List Bool) (a b c d : ℕ) → b ≡ a + length w →
      c ≡ b + length x → d ≡ c + length y → Fit a w k → Fit b x l → Fit c y m → Fit d z n →
      Fit a (w ++ (x ++ (y ++ z))) (k ++ (l ++ (m ++ n)))
  fit_four w x y z k l m n a b c d second third fourth p q r s =
      fit_append w k (x ++ (y ++ z)) (l ++ (m ++ n)) a b second p
      (fit_append x l (y ++ z) (m ++ n) b c third q
      (fit_append y m z n c d fourth r s))

  pub fit_at : (xs : List Square) (ls : List Bool) (a i : ℕ) → Fit a xs ls → i < length xs →
      OfSquare (a + i) (slice_index_or xs i Unavailable) (slice_index_or ls i false)
  fit_at [] ls a i h below = absurd (omega (arith, below))
  fit_at (x ∷ xs) [] a i h below = absurd h
  fit_at (x ∷ xs) (l ∷ ls) a zero h below =
      let here : a ≡ a + 0 = omega arith in subst (λ n. OfSquare n x l) here h.0
  fit_at (x ∷ xs) (l ∷ ls) a (suc i) h below =
      let there : a + 1 + i ≡ a + suc i = omega arith in
      subst (λ n. OfSquare n (slice_index_or xs i Unavailable) (slice_index_or ls i false)) there
      (fit_at xs ls (a + 1) i h.1 (omega (arith, below)))

  outside_fits : (n a : ℕ) → Fit a (replicate n Unavailable) (replicate n false)
  outside_fits zero a = tt
  outside_fits (suc n) a = (tt, outside_fits n (a + 1))

  -- the squares of one transform block
  block_fits : (n a depth : ℕ) (prediction : Prediction) (has_levels : Bool) →
      ((b : ℕ) → a ≤ b → b < a + n → has_levels ≡ has_luma_levels plan depth b) →
      Fit a (replicate n (Coded depth prediction)) (replicate n has_levels)
  block_fits zero a depth prediction has_levels same = tt
  block_fits (suc n) a depth prediction has_levels same = (
    same a (omega arith) (omega arith),
    block_fits n (a + 1) depth prediction has_levels
        (λ b low high. same b (omega (arith, low)) (omega (arith, high))),
  )

  -- the levels of a transform block of so many squares
  levels_at : ℕ → ℕ → Bool
  levels_at count address = any_significant (part plan.luma (64 * address) (64 * count))

  same_block : (count a b : ℕ) → b / count * count ≡ a →
      levels_at count a ≡ any_significant (part plan.luma (64 * (b / count * count)) (64 * count))
  unfolding levels_at
  same_block count a b e =
      ap (λ n. any_significant (part plan.luma (64 * n) (64 * count))) (sym e)

  -- ---- a coding unit

  leaf_fits : (size address : ℕ) (pred : Pred) → IsNode size address →
      Fit address (squares_of size (leaf_of plan size address pred))
      (levels_of size (leaf_of plan size address pred))
  unfolding levels_at
  leaf_fits zero address pred node =
      block_fits 1 address 3 (prediction_of pred) (levels_at 1 address)
      (λ b low high. same_block 1 address b (omega (arith, low, high)))
  leaf_fits (suc zero) address pred node =
      let even : address % 4 ≡ 0 = node.even in
      block_fits 4 address 2 (prediction_of pred) (levels_at 4 address)
      (λ b low high. same_block 4 address b (omega (arith, low, high, even)))
  leaf_fits (suc (suc zero)) address pred node =
      let even : address % 16 ≡ 0 = node.even in
      block_fits 16 address 1 (prediction_of pred) (levels_at 16 address)
      (λ b low high. same_block 16 address b (omega (arith, low, high, even)))
  leaf_fits (suc (suc (suc zero))) address pred node =
      let even : address % 64 ≡ 0 = node.even in
      let p : Prediction = prediction_of pred in
      let sixteen : List Square = replicate 16 (Coded 0 p) in
      let levels : ℕ → List Bool = λ a. replicate 16 (levels_at 16 a) in
      let part_fits : (a : ℕ) → a % 16 ≡ 0 → Fit a sixteen (levels a) = λ a at.
      block_fits 16 a 0 p (levels_at 16 a)
      (λ b low high. same_block 16 a b (omega (arith, low, high, at))) in
      let b : ℕ = address + 16 in
      let c : ℕ = b + 16 in
      let d : ℕ = c + 16 in
      fit_four sixteen sixteen sixteen sixteen (levels address) (levels b) (levels c) (levels d)
      address b c d refl refl refl
      (part_fits address (omega (arith, even))) (part_fits b (omega (arith, even)))
      (part_fits c (omega (arith, even))) (part_fits d (omega (arith, even)))
  leaf_fits (suc (suc (suc (suc size)))) address pred node =
      absurd (omega (arith, node.few))

  leaf_at_fits : (size address : ℕ) (unit : Option SquareUnit) → IsNode size address →
      Fit address (squares_of size (leaf_at plan size address unit))
      (levels_of size (leaf_at plan size address unit))
  leaf_at_fits zero address None node = outside_fits 1 address
  leaf_at_fits (suc size) address None node = outside_fits (squares (suc size)) address
  leaf_at_fits size address (Some unit) node = leaf_fits size address unit.pred node

  -- ---- a node

  abbrev TreeFits : ℕ → ℕ → Tree → Type 0
  TreeFits size address tree = Fit address (squares_of size tree) (levels_of size tree)

  tree_outside : (size address : ℕ) → TreeFits size address Outside
  tree_outside zero address = outside_fits 1 address
  tree_outside (suc size) address = outside_fits (squares (suc size)) address

  either_fits : (size address : ℕ) (t : Bool) (a b : Tree) → TreeFits size address a →
      TreeFits size address b → TreeFits size address (cond t a b)
  either_fits size address true a b h k = h
  either_fits size address false a b h k = k

  pub tree_fits : (here : Site) (size address : ℕ) → IsNode size address →
      TreeFits size address (tree_at here plan size address)
  unfolding tree_at
  tree_fits here zero address node =
      either_fits zero address (is_outside here address) Outside _ (tree_outside zero address)
      (leaf_at_fits zero address (slice_get plan.units address) node)
  tree_fits here (suc size) address node =
      let n : ℕ = squares size in
      let at : ℕ → Tree = tree_at here plan size in
      let child : (k : ℕ) → k < 4 → IsNode size (address + k * n) = λ k below.
      (child_of size address k node below).node in
      let first : address + 0 * n ≡ address = omega arith in
      let second : address + 1 * n ≡ address + n = omega arith in
      let known : ℕ → List Square = λ a. squares_of size (at a) in
      let levels : ℕ → List Bool = λ a. levels_of size (at a) in
      let counted : (a : ℕ) → length (squares_of size (at a)) ≡ n =
      length-tree_at here plan size in
      either_fits (suc size) address (is_outside here address) Outside _
      (tree_outside (suc size) address)
      (either_fits (suc size) address (is_leaf (suc size) (slice_get plan.units address)) _
      (Split (at address) (at (address + n)) (at (address + 2 * n)) (at (address + 3 * n)))
      (leaf_at_fits (suc size) address (slice_get plan.units address) node)
      (fit_four
      (known address) (known (address + n)) (known (address + 2 * n)) (known (address + 3 * n))
      (levels address) (levels (address + n)) (levels (address + 2 * n))
      (levels (address + 3 * n))
      address (address + n) (address + 2 * n) (address + 3 * n)
      (omega (arith, counted address)) (omega (arith, counted (address + n)))
      (omega (arith, counted (address + 2 * n)))
      (tree_fits here size address (subst (IsNode size) first (child 0 (omega arith))))
      (tree_fits here size (address + n) (subst (IsNode size) second (child 1 (omega arith))))
      (tree_fits here size (address + 2 * n) (child 2 (omega arith)))
      (tree_fits here size (address + 3 * n) (child 3 (omega arith)))))
