-- The fields so far were put.
use Rattle.std.proofs.Common.{take, map, ◌≡◌, true}
use Rattle.std.specs.List.{list_all}
use Rattle.hv_bits.specs.Writing.{Appends}
use Rattle.hv_stream_model.specs.Fields.{bits_of_fields}
use Rattle.hv_bits.specs.FieldTables.{field_of, is_codable}
use Rattle.hv_bits.proofs.fields.put_fields.Given as goal

abbrev pub invariant-loop-field : goal.invariant-loop-field
invariant-loop-field l =
    Appends l.initial.writer l.writer
    (bits_of_fields (map field_of (take l.field-index l.fields))) ×
    (list_all is_codable l.fields ≡ true)
