use Rattle.std.proofs.Common.{◌≡◌, ◌++◌, drop, map}
use Rattle.hv_stream_model.specs.Fields.{bits_of_fields}
use Rattle.hv_plain.specs.PlainFields.{field_of}
use Rattle.hv_plain.proofs.fields.bits_of_fields.Given as goal

abbrev pub invariant-loop-field : goal.invariant-loop-field
invariant-loop-field l =
    l.bits.items ++ bits_of_fields (map field_of (drop l.field-index l.fields))
    ≡ bits_of_fields (map field_of l.fields)
