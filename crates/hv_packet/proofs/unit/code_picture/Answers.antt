-- The data are those behind the header, and the payload is the slice's.
use Rattle.std.proofs.Common.{◌≡◌, ◌∙◌, List, length, sym, ap, subst}
use Rattle.std.proofs.lemmas.Result.{IfOk-weaker}
use Rattle.hv_stream_model.specs.Bits.{bytes_of}
use Rattle.hv_tree_model.specs.Trees.{CodingTreeUnit}
use Rattle.hv_tree_model.specs.Sites.{Site}
use Rattle.hv_slice_model.specs.Slices.{header_in, picture_sites, word_behind}
use Rattle.hv_stream_model.specs.Units.{last_of}
use Rattle.hv_slice_model.specs.PlannedUnits.{planned_units, NameTheirUnits}
use Rattle.hv_types.specs.Configuration.{padded_width}
use Rattle.hv_packet.specs.BlockPlans.{plans_of}
use Rattle.hv_packet.proofs.HeaderLemmas.{data_in, valid_in, length-blocks, unit_in}
use Rattle.hv_packet.proofs.unit.code_picture.Goals as goal

pub block_data-requires-clause-blocks : goal.block_data-requires-clause-blocks
block_data-requires-clause-blocks g c =
    c.requires.blocks ∙ length-blocks c.args.group.now.input.config c.of.result.width
    c.of.result.height c.of.ensures.width c.of.ensures.height

pub block_data-requires-clause-offsets : goal.block_data-requires-clause-offsets
block_data-requires-clause-offsets g c =
    c.requires.offsets ∙ length-blocks c.args.group.now.input.config c.of.result.width
    c.of.result.height c.of.ensures.width c.of.ensures.height

pub block_data-requires-clause-names : goal.block_data-requires-clause-names
block_data-requires-clause-names g c =
    let plans = plans_of (g.B.Blocks.blocks c.args.blocks.now) in
    subst (λ width. NameTheirUnits width c.of.result.height plans) (sym c.of.ensures.width)
    (subst (λ height. NameTheirUnits (padded_width c.args.group.now.input.config) height plans)
    (sym c.of.ensures.height) c.requires.names)

pub block_data-requires-clause-valid : goal.block_data-requires-clause-valid
block_data-requires-clause-valid g c =
    let cfg = c.args.group.now.input.config in
    let header = header_in cfg (length c.args.group.now.input.pictures) c.args.picture in
    let units : List Site → List CodingTreeUnit =
    λ sites. planned_units sites (plans_of (g.B.Blocks.blocks c.args.blocks.now))
    c.args.sao.now in
    let slice = c.of.result in
    valid_in header cfg units slice.kind slice.references slice.width slice.height
    c.of.ensures.kind c.of.ensures.references c.of.ensures.width c.of.ensures.height
    c.requires.valid

pub write_nal-requires-clause-ends : goal.write_nal-requires-clause-ends
write_nal-requires-clause-ends g c none =
    let cfg = c.args.group.now.input.config in
    let count = length c.args.group.now.input.pictures in
    let header = header_in cfg count c.args.picture in
    let slice = c.of.result in
    let units : List Site → List CodingTreeUnit = λ sites. planned_units sites (plans_of (g.B.Blocks.blocks c.args.blocks.now))
    c.args.sao.now in
    let given : c.deref.result.now ≡
    bytes_of (word_behind header (picture_sites cfg) (units (picture_sites cfg))) =
    c.deref.ensures.value ∙ c.in_ok-data.ensures ∙
    data_in header cfg units slice.kind slice.references slice.width slice.height
    c.of.ensures.kind c.of.ensures.references c.of.ensures.width c.of.ensures.height slice.qp
    c.of.ensures.qp in
    c.in_ok-payload.ensures.ends (picture_sites cfg) (units (picture_sites cfg)) given
    (ap last_of (sym c.deref-2.ensures.value) ∙ none)

pub returns : goal.returns
returns g c =
    let cfg = c.args.group.now.input.config in
    let count = length c.args.group.now.input.pictures in
    let header = header_in cfg count c.args.picture in
    let slice = c.of.result in
    let units : List Site → List CodingTreeUnit = λ sites. planned_units sites (plans_of (g.B.Blocks.blocks c.args.blocks.now))
    c.args.sao.now in
    let given : c.deref.result.now ≡
    bytes_of (word_behind header (picture_sites cfg) (units (picture_sites cfg))) =
    c.deref.ensures.value ∙ c.in_ok-data.ensures ∙
    data_in header cfg units slice.kind slice.references slice.width slice.height
    c.of.ensures.kind c.of.ensures.references c.of.ensures.width c.of.ensures.height slice.qp
    c.of.ensures.qp in
    IfOk-weaker c.write_nal.result _ _
    (λ bytes whole. unit_in header (picture_sites cfg) (units (picture_sites cfg))
    c.nal_unit_type.result c.deref-2.result.now bytes.items
    (c.nal_unit_type.ensures.value cfg count)
    (c.deref-2.ensures.value ∙
    c.in_ok-payload.ensures.value (picture_sites cfg) (units (picture_sites cfg)) given) whole)
    c.write_nal.ensures
