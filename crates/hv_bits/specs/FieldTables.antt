-- The fields of the code's tables, as the definitions see them.
use Rattle.std.specs.Prelude.{◌-◌, ◌^◌, Bool, nat_lt, nat_le, ◌&&◌, negsuc, int_lt, List, ◌++◌}
use Rattle.hv_stream_model.specs.Fields.{Field as HeaderField, u, ue, se, bits_of_fields}
use Rattle.hv_bits.specs.declared.fields.Field.{Field}
use Rattle.hv_bits.specs.declared.fields.Field.TheVariants.{U, Ue, Se}
use Rattle.hv_bits.specs.Writing.{Written, Appends}

abbrev pub field_of : Field → HeaderField
field_of (U bits value) = u bits value
field_of (Ue value) = ue value
field_of (Se value) = se value

-- the code can write the field, and so the descriptor can code the value
abbrev pub is_codable : Field → Bool
is_codable (U bits value) = nat_le bits 32 && nat_lt value (2 ^ bits)
is_codable (Ue value) = nat_lt value (2 ^ 32 - 1)
is_codable (Se value) = int_lt (negsuc 2147483647) value

-- the fields of one table, and then those of another
abbrev pub TablesJoin : Type 0
TablesJoin =
    (old middle new : Written) (fields others : List HeaderField) →
    Appends old middle (bits_of_fields fields) → Appends middle new (bits_of_fields others) →
    Appends old new (bits_of_fields (fields ++ others))
