use Rattle.std.proofs.Common.{subst, sym, ap, ◌∙◌}
use Rattle.hv_bits.specs.Writing.{Appends}
use Rattle.hv_stream_model.specs.Fields.{bits_of_fields}
use Rattle.hv_stream_model.specs.Headers.{slice}
use Rattle.hv_stream_model.specs.HeaderLaws.{IsAllowedSlice}
use Rattle.hv_slice.proofs.SetEntryLemmas.{same_header, other_header}
use Rattle.hv_slice.proofs.header.put_slice.Goals as goal

pub put_p_slice-requires : goal.put_p_slice-requires
put_p_slice-requires c =
    let count = c.args.structure.now.count in
    let levels = c.args.structure.now.levels in
    subst (IsAllowedSlice 3)
    (sym (same_header count levels c.args.base c.args.picture c.qp-qp.result c.from-before.result
    c.from-all.result c.entries-entries.result c.entries-entries.ensures
    (c.from-all.ensures ∙ c.set_len.ensures.value)
    (c.from-before.ensures ∙ c.before_len.ensures.value) c.qp-qp.ensures.value))
    (other_header c.slices_of_groups_are_allowed.ensures count levels c.args.base c.args.picture
    c.if-picture-eq0.false c.requires.count c.requires.levels c.requires.picture).1

pub returns-else-picture-eq0 : goal.returns-else-picture-eq0
returns-else-picture-eq0 c =
    let count = c.args.structure.now.count in
    let levels = c.args.structure.now.levels in
    let same = same_header count levels c.args.base c.args.picture c.qp-qp.result
    c.from-before.result c.from-all.result c.entries-entries.result c.entries-entries.ensures
    (c.from-all.ensures ∙ c.set_len.ensures.value)
    (c.from-before.ensures ∙ c.before_len.ensures.value) c.qp-qp.ensures.value in
    let other = other_header c.slices_of_groups_are_allowed.ensures count levels c.args.base
    c.args.picture c.if-picture-eq0.false c.requires.count c.requires.levels c.requires.picture in
    subst (λ f. Appends c.args.writer.now c.put_p_slice.new.writer (bits_of_fields f))
    (ap slice same ∙ sym other.0) c.put_p_slice.ensures
