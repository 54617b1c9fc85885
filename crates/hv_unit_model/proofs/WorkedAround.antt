-- What is seen of the blocks around, at places worked by hand: in a picture of 136x72 luma samples,
-- which has two rows of three blocks, beside a block of four units of 32x32 whose modes are 10, 11,
-- 12 and 13.
use Rattle.std.proofs.Common.{◌≡◌, ℕ, [], ◌∷◌, refl}
use Rattle.std.specs.Prelude.{Some, None}
use Rattle.hv_plan.specs.declared.prediction.Pred.TheVariants.{Intra as IntraPred}
use Rattle.hv_plan.specs.declared.prediction.Unit.{Unit}
use Rattle.hv_tree_model.specs.Trees.{Intra}
use Rattle.hv_tree_model.specs.Sites.{Site, site, address_of}
use Rattle.hv_tree_model.specs.EarlierUnits.{Unavailable, Coded}
use Rattle.hv_tree_model.specs.Plans.{UnitEdges, UnitsAround, look_around}

unit : ℕ → Unit
unit mode = record { depth = 1; pred = IntraPred mode }

-- the last column has the second and the fourth, the last row the third and the fourth
first_block : UnitEdges
first_block = record {
  right = unit 11 ∷ unit 11 ∷ unit 11 ∷ unit 11 ∷ unit 13 ∷ unit 13 ∷ unit 13 ∷ unit 13 ∷ [];
  bottom = unit 12 ∷ unit 12 ∷ unit 12 ∷ unit 12 ∷ unit 13 ∷ unit 13 ∷ unit 13 ∷ unit 13 ∷ [];
}

-- from the second block it lies at the left, from the fourth one above at the left
second : UnitsAround
second = record { left = Some first_block; above_left = None; above = None; above_right = None }

-- ---- from the second block: columns and rows from 8 on are its own

here : Site
here = site 136 72 1

-- at its left the lowest square of the unit with mode 11, and the first of that with 13
left_of_upper : look_around here second [] 7 11 ≡ Coded 1 (Intra 11)
unfolding look_around here second first_block unit
left_of_upper = refl

left_of_lower : look_around here second [] 7 12 ≡ Coded 1 (Intra 13)
unfolding look_around here second first_block unit
left_of_lower = refl

-- nothing lies above the picture, or is coded yet below the block at its left
above_it : look_around here second [] 8 7 ≡ Unavailable
unfolding look_around here second first_block unit
above_it = refl

below_at_left : look_around here second [] 7 16 ≡ Unavailable
unfolding look_around here second first_block unit
below_at_left = refl

-- of its own squares those are seen that were coded: the second is at the first one's right
own : look_around here second (Coded 2 (Intra 5) ∷ []) 8 8 ≡ Coded 2 (Intra 5)
unfolding look_around here second first_block unit address_of
own = refl

own_later : look_around here second (Coded 2 (Intra 5) ∷ []) 9 8 ≡ Unavailable
unfolding look_around here second first_block unit address_of
own_later = refl

-- ---- from the fourth block, which is the first of the second row, and from the fifth

fourth : UnitsAround
fourth = record {
  left = None;
  above_left = None;
  above = Some first_block;
  above_right = Some first_block;
}

above_fourth : look_around (site 136 72 3) fourth [] 11 7 ≡ Coded 1 (Intra 12)
unfolding look_around fourth first_block unit
above_fourth = refl

above_right_of_fourth : look_around (site 136 72 3) fourth [] 16 7 ≡ Coded 1 (Intra 12)
unfolding look_around fourth first_block unit
above_right_of_fourth = refl

fifth : UnitsAround
fifth = record { left = None; above_left = Some first_block; above = None; above_right = None }

above_left_of_fifth : look_around (site 136 72 4) fifth [] 7 7 ≡ Coded 1 (Intra 13)
unfolding look_around fifth first_block unit
above_left_of_fifth = refl

-- The picture ends with its 17th column of squares: the third block has one of them.
behind_the_edge :
    look_around (site 136 72 2) second (Coded 2 (Intra 5) ∷ Coded 2 (Intra 5) ∷ []) 9 8 ≡
    Unavailable
unfolding look_around second first_block unit address_of
behind_the_edge = refl
