use Rattle.hv_bits.proofs.FieldListLemmas.{tables_joined}
use Rattle.hv_bits.proofs.fields.tables_join.Goals as goal

pub returns : goal.returns
returns c = tables_joined c.joined_fields_have_joined_bits.ensures
