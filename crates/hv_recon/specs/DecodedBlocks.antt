-- The decoded picture of coding tree blocks of the code, each of which is decoded by the edges of
-- the blocks around it and the reference pictures alone: it is put together from their samples.
use Rattle.std.specs.Prelude.{◌≡◌, ℕ, ◌+◌, ◌*◌, ◌/◌, ◌%◌, ◌<◌, List, [], ◌∷◌, length, map, slice_get, slice_index_or, Some}
use Rattle.hv_types.specs.declared.picture.Picture.{Picture}
use Rattle.hv_types.specs.Samples.{plane_of}
use Rattle.hv_block.specs.declared.block.Block.{Block}
use Rattle.hv_block.specs.Around.{neighbours_of}
use Rattle.hv_block.specs.Samples.{AreWholeSamples}
use Rattle.hv_tree_model.specs.Trees.{Tree}
use Rattle.hv_tree_model.specs.Sites.{Site, site, sites, blocks_over, ctb_side}
use Rattle.hv_tree_model.specs.Plans.{tree_of}
use Rattle.hv_recon_model.specs.Reconstruction.{Decoded, nothing_decoded, decoded_trees, unfiltered}
use Rattle.hv_recon.specs.Leaves.{lists_of_plan, lists_with_vectors}
use Rattle.hv_recon.specs.DecodedNodes.{DecodesBlock}

-- ---- all blocks of a picture

-- their coding quadtrees as they are coded, from this number on
abbrev pub trees_from : ℕ → ℕ → ℕ → List Block → List Tree
trees_from width height index [] = []
trees_from width height index (block ∷ blocks) =
    tree_of (site width height index) (lists_of_plan block.plan) ∷
    trees_from width height (index + 1) blocks

abbrev pub trees_of : ℕ → ℕ → List Block → List Tree
trees_of width height blocks = trees_from width height 0 blocks

-- the same where each unit's vector stands in the place of the coded difference
abbrev pub moving_trees_from : ℕ → ℕ → ℕ → List Block → List Tree
moving_trees_from width height index [] = []
moving_trees_from width height index (block ∷ blocks) =
    tree_of (site width height index) (lists_with_vectors block.plan) ∷
    moving_trees_from width height (index + 1) blocks

abbrev pub moving_trees_of : ℕ → ℕ → List Block → List Tree
moving_trees_of width height blocks = moving_trees_from width height 0 blocks

-- a block at this place, by the edges of the blocks around it in the list and the reference
-- pictures
abbrev pub DecodesAmong : List Block → Site → ℕ → List Picture → Block → Type 0
DecodesAmong blocks here qp references block =
    DecodesBlock (lists_with_vectors block.plan) here qp references (neighbours_of blocks here)
    block.samples

-- there is one for each place of a picture of these luma sides, and each decodes so
pub record BlocksDecode
    (width height qp : ℕ) (references : List Picture) (blocks : List Block) : Type 0 where
  pub count : length blocks ≡ blocks_over width * blocks_over height
  pub whole :
      (index : ℕ) (block : Block) → slice_get blocks index ≡ Some block →
      AreWholeSamples block.samples
  pub decodes :
      (index : ℕ) (block : Block) → slice_get blocks index ≡ Some block →
      DecodesAmong blocks (site width height index) qp references block

-- ---- their samples

-- of blocks of this side, so many in a row, each by rows: the sample in column x of row y
abbrev pub sample_of_blocks : ℕ → ℕ → List (List ℕ) → ℕ → ℕ → ℕ
sample_of_blocks side across blocks x y =
    slice_index_or (slice_index_or blocks (y / side * across + x / side) [])
    (y % side * side + x % side) 0

abbrev pub luma_of_blocks : ℕ → List Block → ℕ → ℕ → ℕ
luma_of_blocks width blocks =
    sample_of_blocks ctb_side (blocks_over width) (map (λ b. b.samples.luma) blocks)

abbrev pub cb_of_blocks : ℕ → List Block → ℕ → ℕ → ℕ
cb_of_blocks width blocks =
    sample_of_blocks (ctb_side / 2) (blocks_over width) (map (λ b. b.samples.cb) blocks)

abbrev pub cr_of_blocks : ℕ → List Block → ℕ → ℕ → ℕ
cr_of_blocks width blocks =
    sample_of_blocks (ctb_side / 2) (blocks_over width) (map (λ b. b.samples.cr) blocks)

-- each sample of a picture of these luma sides is that of its block
pub record AreOfBlocks (width height : ℕ) (blocks : List Block) (d : Decoded) : Type 0 where
  pub luma :
      (x y : ℕ) → x < width → y < height → d.luma x y ≡ Some (luma_of_blocks width blocks x y)
  pub cb :
      (x y : ℕ) → x < width / 2 → y < height / 2 →
      d.cb x y ≡ Some (cb_of_blocks width blocks x y)
  pub cr :
      (x y : ℕ) → x < width / 2 → y < height / 2 →
      d.cr x y ≡ Some (cr_of_blocks width blocks x y)

-- the picture that is put together from its blocks
abbrev pub picture_of_blocks : ℕ → ℕ → List Block → Picture
picture_of_blocks width height blocks = record {
  luma = plane_of width height (luma_of_blocks width blocks);
  cb = plane_of (width / 2) (height / 2) (cb_of_blocks width blocks);
  cr = plane_of (width / 2) (height / 2) (cr_of_blocks width blocks);
}

-- ---- laws, for pictures of every size

abbrev pub SamplesAreThoseOfBlocks : Type 0
SamplesAreThoseOfBlocks =
    (width height qp : ℕ) (references : List Picture) (blocks : List Block) →
    BlocksDecode width height qp references blocks →
    (d : Decoded) ×
    (decoded_trees qp (sites width height) (moving_trees_of width height blocks)
    (nothing_decoded references) ≡ Some d) ×
    AreOfBlocks width height blocks d

abbrev pub PicturesAreTheirBlocks : Type 0
PicturesAreTheirBlocks =
    (width height qp : ℕ) (references : List Picture) (blocks : List Block) →
    BlocksDecode width height qp references blocks →
    unfiltered width height qp references (sites width height)
    (moving_trees_of width height blocks) ≡
    Some (picture_of_blocks width height blocks)
