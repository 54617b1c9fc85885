-- The tables behind one another are the set's fields.
use Rattle.std.proofs.Common.{map, subst, ap, ◌∙◌, ◌++◌}
use Rattle.hv_bits.specs.Writing.{Appends}
use Rattle.hv_bits.specs.FieldTables.{field_of}
use Rattle.hv_stream_model.specs.Fields.{bits_of_fields}
use Rattle.hv_stream_model.specs.Headers.{size_of, size_fields, ordering}
use Rattle.hv_params.specs.declared.tables.TheConstants.{SPS_START, SPS_FORMAT, SPS_DEPTHS, SPS_END, PROFILE_TIER_LEVEL}
use Rattle.hv_params.proofs.sets.put_sps.Goals as goal

pub returns : goal.returns
returns c =
    let join = c.tables_join.ensures in
    let start = map field_of SPS_START in
    let profile = map field_of PROFILE_TIER_LEVEL in
    let format = map field_of SPS_FORMAT in
    let size = size_fields (size_of c.args.config.now) in
    let depths = map field_of SPS_DEPTHS in
    let levels = map field_of c.ordering.result in
    let end = map field_of SPS_END in
    let two = join _ _ _ start profile c.put_fields.ensures c.put_fields-2.ensures in
    let three = join _ _ _ (start ++ profile) format two c.put_fields-3.ensures in
    let head = start ++ profile ++ format in
    let four = join _ _ _ head size three c.put_size.ensures in
    let five = join _ _ _ (head ++ size) depths four c.put_fields-4.ensures in
    let six = join _ _ _ (head ++ size ++ depths) levels five c.put_fields-5.ensures in
    subst
    (λ l. Appends c.args.writer.now c.put_fields-6.new.writer
    (bits_of_fields (head ++ size ++ depths ++ l ++ end)))
    (c.ordering.ensures.value ∙ ap (λ s. ordering s.levels) c.settings.ensures.value)
    (join _ _ _ (head ++ size ++ depths ++ levels) end six c.put_fields-6.ensures)
