-- Pictures in which nothing is chosen: all that is decoded of them is grey.
use Rattle.std.specs.Prelude.{◌≡◌, ℕ, ◌/◌, Bool, true, false, not, nat_eq, ◌&&◌, List, Some}
use Rattle.std.specs.List.{list_all}
use Rattle.hv_tables.specs.declared.bins.SliceKind.TheVariants.{I}
use Rattle.hv_types.specs.declared.picture.Picture.{Picture}
use Rattle.hv_types.specs.Samples.{filled_plane}
use Rattle.hv_tree_model.specs.Trees.{Intra, Inter, Tree, Leaf, Split, Outside, any_level}
use Rattle.hv_tree_model.specs.Sites.{sites}
use Rattle.hv_tree_model.specs.MostProbableModes.{dc}
use Rattle.hv_recon_model.specs.Reconstruction.{unfiltered}
use Rattle.hv_recon_model.specs.ReconstructionLaws.{AreTrees}

-- every coding unit is an intra unit of mode DC without a level but 0
abbrev pub is_blank_tree : Tree → Bool
is_blank_tree Outside = true
is_blank_tree (Leaf (Intra mode) units) = nat_eq mode dc && not (any_level units)
is_blank_tree (Leaf (Inter motion) units) = false
is_blank_tree (Split a b c d) =
    is_blank_tree a && (is_blank_tree b && (is_blank_tree c && is_blank_tree d))

-- every sample of these sides is the middle one
abbrev pub grey : ℕ → ℕ → Picture
grey width height = record {
  luma = filled_plane width height 128;
  cb = filled_plane (width / 2) (height / 2) 128;
  cr = filled_plane (width / 2) (height / 2) 128;
}

-- at any quantiser, whatever the reference pictures are
abbrev pub BlankPicturesAreGrey : Type 0
BlankPicturesAreGrey =
    (width height qp count : ℕ) (references : List Picture) (trees : List Tree) →
    AreTrees I count (sites width height) trees → list_all is_blank_tree trees ≡ true →
    unfiltered width height qp references (sites width height) trees ≡ Some (grey width height)
