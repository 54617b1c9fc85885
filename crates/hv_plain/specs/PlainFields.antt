-- What the fields of the plain programs stand for.
use Rattle.hv_plain.specs.declared.fields.Field.{Field as PlainField}
use Rattle.hv_plain.specs.declared.fields.Field.TheVariants.{U, Ue}
use Rattle.hv_stream_model.specs.Fields.{Field, u, ue}

abbrev pub field_of : PlainField → Field
field_of (U n value) = u n value
field_of (Ue value) = ue value
