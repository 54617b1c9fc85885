use Rattle.std.proofs.Common.{map, subst, ap₂, ◌+◌, ◌++◌}
use Rattle.hv_bits.specs.Writing.{Appends}
use Rattle.hv_bits.specs.FieldTables.{field_of}
use Rattle.hv_stream_model.specs.Fields.{bits_of_fields}
use Rattle.hv_stream_model.specs.Headers.{set_fields}
use Rattle.hv_slice.specs.Entries.{set_of}
use Rattle.hv_slice.proofs.SlicePartLemmas.{parts_make}
use Rattle.hv_slice.proofs.header.put_p_slice.Goals as goal

pub returns : goal.returns
returns c =
    let join = c.tables_join.ensures in
    let before = c.args.before.now in
    let after = c.args.after.now in
    let start = map field_of c.p_start.result in
    let set = set_fields (set_of before after) in
    let end = map field_of c.p_end.result in
    let used = ap₂ (λ n m. n + m) c.used_count.ensures.value c.used_count-2.ensures.value in
    subst (λ f. Appends c.args.writer.now c.put_fields-2.new.writer (bits_of_fields f))
    (parts_make c.args.picture c.args.qp _ before after start end c.p_start.ensures.value
    c.p_end.ensures.value used)
    (join _ _ _ (start ++ set) end (join _ _ _ start set c.put_fields.ensures c.put_set.ensures)
    c.put_fields-2.ensures)
