-- The tables behind one another are the set's fields.
use Rattle.std.proofs.Common.{map, subst, ◌++◌}
use Rattle.hv_bits.specs.Writing.{Appends}
use Rattle.hv_bits.specs.FieldTables.{field_of}
use Rattle.hv_stream_model.specs.Fields.{bits_of_fields}
use Rattle.hv_params.specs.declared.tables.TheConstants.{VPS_START, VPS_END, PROFILE_TIER_LEVEL}
use Rattle.hv_params.proofs.sets.put_vps.Goals as goal

pub returns : goal.returns
returns c =
    let join = c.tables_join.ensures in
    let start = map field_of VPS_START in
    let profile = map field_of PROFILE_TIER_LEVEL in
    let levels = map field_of c.ordering.result in
    let end = map field_of VPS_END in
    let two = join _ _ _ start profile c.put_fields.ensures c.put_fields-2.ensures in
    let three = join _ _ _ (start ++ profile) levels two c.put_fields-3.ensures in
    subst
    (λ l. Appends c.args.writer.now c.put_fields-4.new.writer
    (bits_of_fields (start ++ profile ++ l ++ end))) c.ordering.ensures.value
    (join _ _ _ (start ++ profile ++ levels) end three c.put_fields-4.ensures)
