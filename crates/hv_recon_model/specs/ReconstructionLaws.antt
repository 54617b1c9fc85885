-- Every sample of a picture is decoded.
use Rattle.std.specs.Prelude.{◌≡◌, ℕ, ◌/◌, ◌<◌, ◌≤◌, true, List, [], ◌∷◌, length, is_some, Some}
use Rattle.hv_tables.specs.declared.bins.SliceKind.{SliceKind}
use Rattle.hv_tables.specs.declared.bins.SliceKind.TheVariants.{I, P}
use Rattle.hv_types.specs.declared.picture.Picture.{Picture}
use Rattle.hv_tree_model.specs.Trees.{Tree}
use Rattle.hv_tree_model.specs.Sites.{Site, sites}
use Rattle.hv_tree_model.specs.Validity.{IsValidTree}
use Rattle.hv_recon_model.specs.Reconstruction.{Component, Decoded, nothing_decoded, decoded_trees}

-- there is one tree for each block, which may be coded there
abbrev pub AreTrees : SliceKind → ℕ → List Site → List Tree → Type 0
AreTrees slice_type references [] [] = Unit {0}
AreTrees slice_type references [] (tree ∷ trees) = ⊥
AreTrees slice_type references (site ∷ sites) [] = ⊥
AreTrees slice_type references (site ∷ sites) (tree ∷ trees) =
    IsValidTree slice_type references site tree × AreTrees slice_type references sites trees

abbrev pub IsDecoded : Component → ℕ → ℕ → Type 0
IsDecoded samples x y = is_some (samples x y) ≡ true

-- every sample of a picture of these luma sides
pub record AreDecoded (width height : ℕ) (d : Decoded) : Type 0 where
  pub luma : (x y : ℕ) → x < width → y < height → IsDecoded d.luma x y
  pub cb : (x y : ℕ) → x < width / 2 → y < height / 2 → IsDecoded d.cb x y
  pub cr : (x y : ℕ) → x < width / 2 → y < height / 2 → IsDecoded d.cr x y

-- a slice of this kind finds so many reference pictures: an I slice asks for none
abbrev pub AreThere : SliceKind → ℕ → List Picture → Type 0
AreThere I count references = Unit {0}
AreThere P count references = count ≤ length references

-- at any quantiser
abbrev pub EverySampleIsDecoded : Type 0
EverySampleIsDecoded =
    (slice_type : SliceKind) (width height qp count : ℕ) (references : List Picture)
    (trees : List Tree) → AreThere slice_type count references →
    AreTrees slice_type count (sites width height) trees →
    (d : Decoded) ×
    (decoded_trees qp (sites width height) trees (nothing_decoded references) ≡ Some d) ×
    AreDecoded width height d
