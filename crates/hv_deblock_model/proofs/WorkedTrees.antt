-- Worked squares of a picture, from its trees.
use Rattle.std.proofs.Common.{◌≡◌, ℕ, Bool, true, false, refl, List, [], ◌∷◌, ℤ, pos, negsuc}
use Rattle.hv_plan.specs.declared.prediction.Mv.{Mv}
use Rattle.hv_plan.specs.declared.prediction.Pred.{Pred}
use Rattle.hv_plan.specs.declared.prediction.Pred.TheVariants.{Intra as IntraPred, Inter as InterPred}
use Rattle.hv_tree_model.specs.Trees.{Motion, Intra, Inter, TransformUnit, Tree, Leaf, Split, Outside}
use Rattle.hv_tree_model.specs.Sites.{address_of}
use Rattle.hv_deblock_model.specs.declared.coding.SquareCoding.{SquareCoding}
use Rattle.hv_deblock_model.specs.EdgeStrength.{Squares}
use Rattle.hv_deblock_model.specs.CodedSquares.{no_square}
use Rattle.hv_deblock_model.specs.TreeSquares.{squares_of_trees}

abbrev luma_unit : ℤ → TransformUnit
luma_unit level = record { luma = pos 0 ∷ level ∷ []; cb = pos 1 ∷ []; cr = pos 1 ∷ [] }

abbrev zero_mv : Mv
zero_mv = record { x = pos 0; y = pos 0 }

abbrev second : Motion
second = record { ref_idx_l0 = 1; mvp_l0_flag = 1; MvdL0 = zero_mv }

-- a unit of 64x64 of four transform units, of which the second has no level; and two of 32x32
-- over squares outside the picture
abbrev trees : List Tree
trees =
    Leaf (Intra 26)
    (luma_unit (pos 3) ∷ luma_unit (pos 0) ∷ luma_unit (negsuc 0) ∷ luma_unit (pos 1) ∷ []) ∷
    Split (Leaf (Intra 10) (luma_unit (pos 1) ∷ [])) (Leaf (Inter second) (luma_unit (pos 0) ∷ []))
    Outside Outside ∷ []

abbrev squares : Squares
squares = squares_of_trees 128 (λ column row. record { x = pos column; y = pos row }) trees

abbrev coded : ℕ → Pred → Bool → SquareCoding
coded depth pred has_levels =
    record { unit = record { depth = depth; pred = pred }; has_levels = has_levels }

first_quarter : squares 3 3 ≡ coded 0 (IntraPred 26) true
unfolding address_of
first_quarter = refl

second_quarter : squares 4 0 ≡ coded 0 (IntraPred 26) false
unfolding address_of
second_quarter = refl

third_quarter : squares 3 7 ≡ coded 0 (IntraPred 26) true
unfolding address_of
third_quarter = refl

intra_leaf : squares 11 3 ≡ coded 1 (IntraPred 10) true
unfolding address_of
intra_leaf = refl

inter_leaf : squares 12 2 ≡
    coded 1 (InterPred 1 (record { x = pos 12; y = pos 2 }) 1 zero_mv) false
unfolding address_of
inter_leaf = refl

outside_the_picture : squares 8 4 ≡ no_square
unfolding address_of
outside_the_picture = refl
