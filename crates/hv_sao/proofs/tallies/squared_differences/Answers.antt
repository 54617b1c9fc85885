use Rattle.std.proofs.Common.{◌+◌, ◌∙◌, ap, arith, sym, refl}
use Rattle.std.specs.List.{sum_by}
use Rattle.hv_filter_model.specs.OffsetDecision.{Block}
use Rattle.hv_sao.specs.Decisions.{block_of, input_error}
use Rattle.hv_sao.proofs.AddLemmas.{rows_before, sum_no_rows, sum_row}
use Rattle.hv_sao.proofs.tallies.squared_differences.Goals as goal

pub loop-y-init : goal.loop-y-init
loop-y-init c =
    let b : Block = block_of c.args.block.deblocked.now c.args.block.input.now c.args.block.area in
    record { value = sym (sum_no_rows (input_error b) b.area); most = omega arith }

pub loop-y-preserved : goal.loop-y-preserved
loop-y-preserved c =
    let b : Block = block_of c.args.block.deblocked.now c.args.block.input.now c.args.block.area in
    record {
      value = sum_row (input_error b) b.area c.loop-y.y (c.loop-y.y + 1) c.loop-y.sum c.row_differences-sum.result refl
          c.loop-y.invariant.value c.row_differences-sum.ensures.value;
      most = omega (arith, c.loop-y.invariant.most, c.row_differences-sum.ensures.most);
    }

pub overflow_add-sum : goal.overflow_add-sum
overflow_add-sum c = omega (arith, c.loop-y.invariant.most, c.row_differences-sum.ensures.most, c.args.block.inside.rows)

pub returns : goal.returns
returns c =
    let b : Block = block_of c.args.block.deblocked.now c.args.block.input.now c.args.block.area in
    record {
      value = c.loop-y.invariant.value ∙ ap (λ r. sum_by (input_error b) (rows_before b.area r)) (omega arith);
      most = omega (arith, c.loop-y.invariant.most, c.args.block.inside.rows);
    }
