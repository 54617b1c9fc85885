-- A picture of a group whose coding tree blocks are those that are chosen for it, from its input and
-- its reference pictures.
use Rattle.std.specs.Prelude.{◌≡◌, ℕ, ◌*◌, ◌<◌, List, [], length, map, slice_get, Some}
use Rattle.hv_types.specs.declared.settings.Settings.{Settings}
use Rattle.hv_types.specs.Configuration.{padded_width, padded_height, columns, rows}
use Rattle.hv_types.specs.GroupInput.{GroupInput}
use Rattle.hv_block.specs.declared.block.Block.{Block}
use Rattle.hv_stream_model.specs.Units.{unit_bytes}
use Rattle.hv_tree_model.specs.Plans.{Plan}
use Rattle.hv_recon.specs.Leaves.{lists_with_vectors}
use Rattle.hv_recon.specs.DecodedBlocks.{trees_of, moving_trees_of, AreOfBlocks}
use Rattle.hv_filter.specs.FilteredPicture.{input_picture}
use Rattle.hv_mode_model.specs.ModeDecision.{best_decoded, coded_trees}
use Rattle.hv_packet.specs.BlockPlans.{plans_of}
use Rattle.hv_slice_model.specs.PlannedUnits.{NameTheirUnits}
use Rattle.hv_slice_model.specs.Slices.{picture_sites, header_in, unit_of_slice}
use Rattle.hv_model.specs.InterPictures.{PictureSource, picture_task, before_first, chosen_trees, coded_units}

-- the plans of the first so many have a unit for each square
abbrev pub HaveUnits : ℕ → List Block → Type 0
HaveUnits count blocks =
    (index : ℕ) (block : Block) → index < count → slice_get blocks index ≡ Some block →
    length block.plan.units ≡ 64

abbrev pub moving_plans_of : List Block → List Plan
moving_plans_of blocks = map (λ (b : Block). lists_with_vectors b.plan) blocks

-- the blocks of a picture of these settings are those that are chosen, each behind the earlier
-- ones, and have all that is decoded
pub record AreBest (cfg : Settings) (source : PictureSource) (blocks : List Block) : Type 0 where
  pub trees :
      trees_of (padded_width cfg) (padded_height cfg) blocks ≡
      coded_trees (picture_task cfg source) (picture_sites cfg) [] (before_first source)
  pub moving :
      moving_trees_of (padded_width cfg) (padded_height cfg) blocks ≡ chosen_trees cfg source
  pub decoded :
      AreOfBlocks (padded_width cfg) (padded_height cfg) blocks
      (best_decoded (picture_task cfg source) (picture_sites cfg) [] (before_first source))
  pub names : NameTheirUnits (padded_width cfg) (padded_height cfg) (plans_of blocks)
  pub moving_names :
      NameTheirUnits (padded_width cfg) (padded_height cfg) (moving_plans_of blocks)

-- they are those of the picture of this number, which is coded from this source
pub record AreChosen
    (group : GroupInput) (number : ℕ) (source : PictureSource) (blocks : List Block) :
    Type 0 where
  pub header : source.header ≡ header_in group.config (length group.pictures) number
  pub input : source.input ≡ input_picture group number
  pub count : length blocks ≡ columns group.config * rows group.config
  pub whole : HaveUnits (length blocks) blocks
  pub best : AreBest group.config source blocks

-- the unit of a picture that is coded from this source
abbrev pub source_unit : Settings → PictureSource → List ℕ
source_unit cfg source =
    unit_bytes (unit_of_slice source.header (picture_sites cfg) (coded_units cfg source))
