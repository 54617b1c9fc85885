use Rattle.std.proofs.Common.{arith, ℕ, ℤ}
use Rattle.hv_transform.specs.Columns.{pass_mean}
use Rattle.hv_lanes.proofs.PartLemmas.{none_yet, HasFirst-put}
use Rattle.hv_transform.proofs.inverse_passes.pass_4.Goals as goal

pub returns : goal.returns
returns c =
    let f : ℕ → ℤ = pass_mean 0 c.args.rows.now c.args.shift in
    let first = HasFirst-put 0 8 8 f c.args.out.now c.rows_of_4.new.out (omega arith) (omega arith) (none_yet f c.args.out.now) c.rows_of_4.ensures in
    HasFirst-put 8 8 8 f _ c.rows_of_4-2.new.out (omega arith) (omega arith) first c.rows_of_4-2.ensures
