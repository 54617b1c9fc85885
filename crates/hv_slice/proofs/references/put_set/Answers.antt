use Rattle.std.proofs.Common.{refl}
use Rattle.hv_slice.proofs.SideLemmas.{both_put}
use Rattle.hv_slice.proofs.references.put_set.Goals as goal

pub returns : goal.returns
returns c =
    both_put c.tables_join.ensures c.args.before.now c.args.after.now _ _ _ _ _ _ refl refl
    c.put_fields.ensures c.put_side.ensures c.put_side-2.ensures
