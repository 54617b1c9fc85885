-- A picture that is put together from its coding tree blocks, and how its squares are coded.
use Rattle.std.specs.Prelude.{◌≡◌, ℕ, ◌+◌, ◌*◌, ◌/◌, ◌<◌, List, map}
use Rattle.hv_types.specs.declared.picture.Picture.{Picture}
use Rattle.hv_types.specs.Samples.{Plane, IsPlane, sample_at}
use Rattle.hv_block.specs.declared.block.Block.{Block}
use Rattle.hv_block.specs.Plans.{CtbPlan}
use Rattle.hv_block.specs.Samples.{Samples}
use Rattle.hv_tree_model.specs.Plans.{Plan}
use Rattle.hv_filter_model.specs.Blocks.{luma_side, chroma_side, blocks_over, joined_plane}
use Rattle.hv_deblock_model.specs.EdgeStrength.{Squares}
use Rattle.hv_deblock_model.specs.CodedSquares.{squares_of_plans}
use Rattle.hv_filter.specs.declared.component.Component.{Component}
use Rattle.hv_filter.specs.declared.component.Component.TheVariants.{Luma, Cb, Cr}

-- ---- components

abbrev pub side_of : Component → ℕ
side_of Luma = luma_side
side_of Cb = chroma_side
side_of Cr = chroma_side

abbrev pub samples_of : Component → Samples → List ℕ
samples_of Luma = λ samples. samples.luma
samples_of Cb = λ samples. samples.cb
samples_of Cr = λ samples. samples.cr

abbrev pub lists_of : Component → List Block → List (List ℕ)
lists_of component blocks = map (λ b. samples_of component b.samples) blocks

-- The first n places of a plane of these sides, by rows, have these samples.
pub record IsFilledTo
    (n width height : ℕ) (f : ℕ → ℕ → ℕ) (plane : Plane) : Type 0 where
  pub whole : IsPlane width height plane
  pub samples :
      (x y : ℕ) → x < width → y < height → y * width + x < n → sample_at plane x y ≡ f x y

-- ---- the picture

-- of these luma sides, from its blocks in raster order (6.5.1)
abbrev pub joined_picture : ℕ → ℕ → List Block → Picture
joined_picture width height blocks =
    let across = blocks_over luma_side width in
    record {
      luma = joined_plane luma_side across width height (lists_of Luma blocks);
      cb = joined_plane chroma_side across (width / 2) (height / 2) (lists_of Cb blocks);
      cr = joined_plane chroma_side across (width / 2) (height / 2) (lists_of Cr blocks);
    }

-- ---- how its squares are coded

abbrev pub lists_of_plan : CtbPlan → Plan
lists_of_plan plan =
    record { units = plan.units; luma = plan.luma; cb = plan.cb; cr = plan.cr }

-- of so many luma columns
abbrev pub squares_of_blocks : ℕ → List Block → Squares
squares_of_blocks width blocks =
    squares_of_plans width (map (λ b. lists_of_plan b.plan) blocks)
