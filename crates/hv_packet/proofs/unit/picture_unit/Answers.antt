-- The data are those behind the header, and the payload is the slice's.
use Rattle.std.proofs.Common.{◌≡◌, ◌∙◌, List, length, sym, ap}
use Rattle.std.proofs.lemmas.Result.{IfOk-weaker}
use Rattle.hv_stream_model.specs.Bits.{bytes_of}
use Rattle.hv_tree_model.specs.Trees.{CodingTreeUnit}
use Rattle.hv_tree_model.specs.Sites.{Site}
use Rattle.hv_slice_model.specs.Slices.{header_in, picture_sites, word_behind}
use Rattle.hv_stream_model.specs.Units.{last_of}
use Rattle.hv_slice_model.specs.BlankUnits.{blank_units}
use Rattle.hv_packet.proofs.HeaderLemmas.{data_in, unit_in}
use Rattle.hv_packet.proofs.unit.picture_unit.Goals as goal

pub write_nal-requires-clause-ends : goal.write_nal-requires-clause-ends
write_nal-requires-clause-ends c none =
    let cfg = c.args.group.now.input.config in
    let count = length c.args.group.now.input.pictures in
    let header = header_in cfg count c.args.picture in
    let slice = c.of.result in
    let units : List Site → List CodingTreeUnit = λ sites. blank_units sites in
    let given : c.deref.result.now ≡
    bytes_of (word_behind header (picture_sites cfg) (units (picture_sites cfg))) =
    c.deref.ensures.value ∙ c.in_ok-data.ensures ∙
    data_in header cfg units slice.kind slice.references slice.width slice.height
    c.of.ensures.kind c.of.ensures.references c.of.ensures.width c.of.ensures.height slice.qp
    c.of.ensures.qp in
    c.in_ok-payload.ensures.ends (picture_sites cfg) (units (picture_sites cfg)) given
    (ap last_of (sym c.deref-2.ensures.value) ∙ none)

pub returns : goal.returns
returns c =
    let cfg = c.args.group.now.input.config in
    let count = length c.args.group.now.input.pictures in
    let header = header_in cfg count c.args.picture in
    let slice = c.of.result in
    let units : List Site → List CodingTreeUnit = λ sites. blank_units sites in
    let given : c.deref.result.now ≡
    bytes_of (word_behind header (picture_sites cfg) (units (picture_sites cfg))) =
    c.deref.ensures.value ∙ c.in_ok-data.ensures ∙
    data_in header cfg units slice.kind slice.references slice.width slice.height
    c.of.ensures.kind c.of.ensures.references c.of.ensures.width c.of.ensures.height slice.qp
    c.of.ensures.qp in
    IfOk-weaker c.write_nal.result _ _
    (λ bytes whole. unit_in header (picture_sites cfg) (units (picture_sites cfg))
    c.nal_unit_type.result c.deref-2.result.now bytes.items
    (c.nal_unit_type.ensures.value cfg count)
    (c.deref-2.ensures.value ∙
    c.in_ok-payload.ensures.value (picture_sites cfg) (units (picture_sites cfg)) given) whole)
    c.write_nal.ensures
