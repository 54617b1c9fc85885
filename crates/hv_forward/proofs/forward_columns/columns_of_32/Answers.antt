use Rattle.std.proofs.Common.{arith}
use Rattle.hv_forward.proofs.ColumnLaneLemmas.{frequency_more}
use Rattle.hv_forward.proofs.forward_columns.columns_of_32.Goals as goal

pub loop-v-preserved : goal.loop-v-preserved
loop-v-preserved c = λ k below.
    frequency_more 32 c.loop-v.v c.args.shift _ c.args.matrix.now c.args.rows.now c.loop-v.out c.put_row_of_32.new.out (omega arith) (omega arith) c.put_row_of_32.ensures c.loop-v.invariant k (omega (arith, below))
