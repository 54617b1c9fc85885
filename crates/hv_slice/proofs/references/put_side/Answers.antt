use Rattle.std.proofs.Common.{rules}
use Rattle.hv_slice.proofs.SideLemmas.{one_put, flag_is}
use Rattle.hv_slice.proofs.references.put_side.Goals as goal

pub loop-entry-preserved : goal.loop-entry-preserved
loop-entry-preserved c =
    one_put c.tables_join.ensures c.args.side.now c.loop-entry.entry-index c.loop-entry.last
    c.unsigned_abs-distance.result _ _ _ _ _ _ c.loop-entry-test.true c.loop-entry.invariant
    (search rules) c.from.ensures (flag_is _ _ c.from-in-loop-entry.ensures) c.put_fields.ensures
