use Rattle.hv_bits.proofs.FieldListLemmas.{one_field}
use Rattle.hv_bits.proofs.fields.put_fields.Goals as goal

pub loop-field-preserved : goal.loop-field-preserved
loop-field-preserved c = (
  one_field c.joined_fields_have_joined_bits.ensures _ c.args.fields.now c.loop-field.field-index
      _ _ _ _ c.loop-field-test.true c.loop-field.invariant.0 c.put_field.ensures,
  c.requires,
)
