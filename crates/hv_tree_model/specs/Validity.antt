-- Which trees and offsets may be coded at a place.
use Rattle.std.specs.Prelude.{◌≡◌, ℕ, zero, suc, ◌-◌, ◌+◌, ◌*◌, ◌^◌, ◌<◌, ◌≤◌, Bool, true, false, nat_eq, ◌&&◌, List, [], ◌∷◌, length, ℤ, pos, negsuc, int_le}
use Rattle.std.specs.List.{list_all}
use Rattle.hv_tables.specs.declared.bins.SliceKind.{SliceKind}
use Rattle.hv_tables.specs.declared.bins.SliceKind.TheVariants.{I, P}
use Rattle.hv_plan.specs.declared.offsets.SaoKind.{SaoKind}
use Rattle.hv_plan.specs.declared.offsets.SaoKind.TheVariants.{Off, Band, Edge}
use Rattle.hv_plan.specs.declared.offsets.SaoComponent.{SaoComponent}
use Rattle.hv_plan.specs.declared.offsets.SaoParam.{SaoParam}
use Rattle.hv_plan.specs.Levels.{has_16_bits}
use Rattle.hv_tree_model.specs.Trees.{Motion, Prediction, Intra, Inter, TransformUnit, Tree, Leaf, Split, Outside, CodingTreeUnit, log2TrafoSize, transform_units, greatest_size}
use Rattle.hv_tree_model.specs.Sites.{Site, squares, is_outside, must_split}
use Rattle.hv_tree_model.specs.EarlierUnits.{Square, Unavailable, Coded, Look}

-- ---- sample adaptive offsets (7.4.9.3)

pub record Range : Type 0 where
  pub least : ℤ
  pub most : ℤ

abbrev pub between : ℤ → ℤ → Range
between least most = record { least = least; most = most }

abbrev pub is_in : Range → ℤ → Bool
is_in range value = int_le range.least value && int_le value range.most

abbrev pub are_in : List Range → List ℤ → Bool
are_in [] [] = true
are_in [] (value ∷ values) = false
are_in (range ∷ ranges) [] = false
are_in (range ∷ ranges) (value ∷ values) = is_in range value && are_in ranges values

-- 0, 0 to 7, -7 to 0, and -7 to 7
abbrev pub no_change : Range
no_change = between (pos 0) (pos 0)

abbrev pub raising : Range
raising = between (pos 0) (pos 7)

abbrev pub lowering : Range
lowering = between (negsuc 6) (pos 0)

abbrev pub either_way : Range
either_way = between (negsuc 6) (pos 7)

-- of the four offsets: those of edges are raised in the first two categories, and lowered in the
-- other two
abbrev pub ranges_of : SaoKind → List Range
ranges_of Off = no_change ∷ no_change ∷ no_change ∷ no_change ∷ []
ranges_of (Band position) = either_way ∷ either_way ∷ either_way ∷ either_way ∷ []
ranges_of (Edge class) = raising ∷ raising ∷ lowering ∷ lowering ∷ []

abbrev pub IsKind : SaoKind → Type 0
IsKind Off = Unit {0}
IsKind (Band position) = position < 32
IsKind (Edge class) = class < 4

pub record AreComponentOffsets (c : SaoComponent) : Type 0 where
  pub kind : IsKind c.kind
  pub offsets : are_in (ranges_of c.kind) c.offsets ≡ true

-- Cb and Cr have SaoTypeIdx and SaoEoClass in common
abbrev pub go_together : SaoKind → SaoKind → Bool
go_together Off Off = true
go_together Off (Band q) = false
go_together Off (Edge d) = false
go_together (Band p) Off = false
go_together (Band p) (Band q) = true
go_together (Band p) (Edge d) = false
go_together (Edge c) Off = false
go_together (Edge c) (Band q) = false
go_together (Edge c) (Edge d) = nat_eq c d

pub record AreOffsets (sao : SaoParam) : Type 0 where
  pub luma : AreComponentOffsets sao.luma
  pub cb : AreComponentOffsets sao.cb
  pub cr : AreComponentOffsets sao.cr
  pub chroma : go_together sao.cb.kind sao.cr.kind ≡ true

-- ---- coding units

pub record IsMotion (references : ℕ) (motion : Motion) : Type 0 where
  pub most_references : references ≤ 2
  pub reference : motion.ref_idx_l0 < references
  pub flag : motion.mvp_l0_flag < 2
  pub x : has_16_bits motion.MvdL0.x ≡ true
  pub y : has_16_bits motion.MvdL0.y ≡ true

-- how many modes intra prediction has
abbrev pub intra_modes : ℕ
intra_modes = 35

abbrev pub IsPrediction : SliceKind → ℕ → Prediction → Type 0
IsPrediction slice_type references (Intra mode) = mode < intra_modes
IsPrediction I references (Inter motion) = ⊥
IsPrediction P references (Inter motion) = IsMotion references motion

-- levels of 16 bits of a block of this side; they may all be 0
pub record HaveLevels (log2 : ℕ) (levels : List ℤ) : Type 0 where
  pub whole : length levels ≡ 2 ^ log2 * 2 ^ log2
  pub small : list_all has_16_bits levels ≡ true

pub record IsTransformUnit (log2 : ℕ) (t : TransformUnit) : Type 0 where
  pub luma : HaveLevels log2 t.luma
  pub cb : HaveLevels (log2 - 1) t.cb
  pub cr : HaveLevels (log2 - 1) t.cr

-- so many of them
abbrev pub AreTransformUnits : ℕ → ℕ → List TransformUnit → Type 0
AreTransformUnits log2 zero [] = Unit {0}
AreTransformUnits log2 zero (t ∷ units) = ⊥
AreTransformUnits log2 (suc count) [] = ⊥
AreTransformUnits log2 (suc count) (t ∷ units) =
    IsTransformUnit log2 t × AreTransformUnits log2 count units

-- ---- what is seen of earlier units

abbrev pub HasMode : Square → Type 0
HasMode Unavailable = Unit {0}
HasMode (Coded CtDepth (Intra mode)) = mode < intra_modes
HasMode (Coded CtDepth (Inter motion)) = Unit {0}

abbrev pub HaveModes : List Square → Type 0
HaveModes [] = Unit {0}
HaveModes (square ∷ squares) = HasMode square × HaveModes squares

-- where the units of the block have modes, all that is seen has
abbrev pub SeesModes : Look → Type 0
SeesModes look =
    (earlier : List Square) → HaveModes earlier →
    (column row : ℕ) → HasMode (look earlier column row)

-- ---- coding quadtrees

-- a node of this size at this address, in a slice of this kind and number of references
unfoldable pub IsValidNode : SliceKind → ℕ → Site → ℕ → ℕ → Tree → Type 0
IsValidNode slice_type references site size address Outside = is_outside site address ≡ true
IsValidNode slice_type references site size address (Leaf prediction units) =
    (is_outside site address ≡ false) ×
    (must_split site size address ≡ false) ×
    IsPrediction slice_type references prediction ×
    AreTransformUnits (log2TrafoSize size) (transform_units size) units
IsValidNode slice_type references site zero address (Split a b c d) = ⊥
IsValidNode slice_type references site (suc size) address (Split a b c d) =
    (is_outside site address ≡ false) ×
    IsValidNode slice_type references site size address a ×
    IsValidNode slice_type references site size (address + squares size) b ×
    IsValidNode slice_type references site size (address + 2 * squares size) c ×
    IsValidNode slice_type references site size (address + 3 * squares size) d

-- ---- coding tree units

abbrev pub IsValidTree : SliceKind → ℕ → Site → Tree → Type 0
IsValidTree slice_type references site tree =
    IsValidNode slice_type references site greatest_size 0 tree

abbrev pub is_empty : {A : Type 0} → List A → Bool
is_empty [] = true
is_empty (x ∷ xs) = false

-- there is one unit for each block, valid there; the last one, and no other, ends the slice
abbrev pub AreValid : SliceKind → ℕ → List Site → List CodingTreeUnit → Type 0
AreValid slice_type references [] [] = Unit {0}
AreValid slice_type references [] (unit ∷ units) = ⊥
AreValid slice_type references (site ∷ sites) [] = ⊥
AreValid slice_type references (site ∷ sites) (unit ∷ units) =
    AreOffsets unit.sao ×
    IsValidTree slice_type references site unit.tree ×
    (unit.end_of_slice_segment_flag ≡ is_empty sites) ×
    AreValid slice_type references sites units
