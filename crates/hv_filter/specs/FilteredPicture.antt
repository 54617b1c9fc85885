-- A picture of a group behind the in-loop filters, from its coding tree blocks.
use Rattle.std.specs.Prelude.{ℕ, List, length, slice_index_or}
use Rattle.hv_types.specs.declared.picture.Picture.{Picture}
use Rattle.hv_types.specs.Configuration.{padded_width, padded_height}
use Rattle.hv_types.specs.GroupInput.{GroupInput}
use Rattle.hv_plan.specs.declared.offsets.SaoParam.{SaoParam}
use Rattle.hv_block.specs.declared.block.Block.{Block}
use Rattle.hv_group_model.specs.Structure.{qp_at, coded_of}
use Rattle.hv_filter_model.specs.FlatPictures.{flat_picture}
use Rattle.hv_deblock_model.specs.EdgeStrength.{Squares}
use Rattle.hv_deblock_model.specs.Deblocking.{deblocked_picture}
use Rattle.hv_deblock_model.specs.InLoopFilters.{made_offsets, shown_picture}
use Rattle.hv_filter.specs.JoinedPicture.{joined_picture, squares_of_blocks}

-- the padded picture of this number, which is there
abbrev pub input_picture : GroupInput → ℕ → Picture
input_picture group number = slice_index_or group.pictures number (flat_picture 0 0 0 0 0)

-- SliceQpY
abbrev pub picture_qp : GroupInput → ℕ → ℕ
picture_qp group number =
    qp_at group.config.qp (coded_of (length group.pictures) group.config.levels number).depth

abbrev pub unfiltered : GroupInput → List Block → Picture
unfiltered group blocks =
    joined_picture (padded_width group.config) (padded_height group.config) blocks

abbrev pub picture_squares : GroupInput → List Block → Squares
picture_squares group blocks = squares_of_blocks (padded_width group.config) blocks

-- what `working`, `sao` and `shown` of a frame become

abbrev pub working_picture : GroupInput → ℕ → List Block → Picture
working_picture group number blocks =
    deblocked_picture (picture_qp group number) (picture_squares group blocks)
    (unfiltered group blocks)

abbrev pub picture_sao : GroupInput → ℕ → List Block → List SaoParam
picture_sao group number blocks =
    made_offsets group.config.effort (picture_qp group number) (picture_squares group blocks)
    (input_picture group number) (unfiltered group blocks)

abbrev pub shown_of_blocks : GroupInput → ℕ → List Block → Picture
shown_of_blocks group number blocks =
    shown_picture group.config.effort (picture_qp group number) (picture_squares group blocks)
    (input_picture group number) (unfiltered group blocks)
