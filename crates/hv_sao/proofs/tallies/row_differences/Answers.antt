use Rattle.std.proofs.Common.{◌+◌, ◌*◌, ◌∙◌, ap₂, arith, sym, refl}
use Rattle.std.specs.Int.{abs_diff}
use Rattle.hv_filter_model.specs.OffsetDecision.{Block}
use Rattle.hv_sao.specs.Decisions.{block_of, input_error}
use Rattle.hv_sao.proofs.AddLemmas.{sum_none, sum_sample}
use Rattle.hv_sao.proofs.tallies.row_differences.Goals as goal

pub overflow_add-area : goal.overflow_add-area
overflow_add-area c = omega (arith, c.args.block.inside.fits_down)

pub overflow_add-area-2 : goal.overflow_add-area-2
overflow_add-area-2 c = omega (arith, c.args.block.inside.fits_down)

pub loop-x-init : goal.loop-x-init
loop-x-init c =
    let b : Block = block_of c.args.block.deblocked.now c.args.block.input.now c.args.block.area in
    record { value = sym (sum_none (input_error b) b.area c.args.y); most = omega arith }

pub loop-x-preserved : goal.loop-x-preserved
loop-x-preserved c =
    let b : Block = block_of c.args.block.deblocked.now c.args.block.input.now c.args.block.area in
    let value = c.part_of_row-samples.ensures.samples c.loop-x.x (omega arith) in
    let input = c.part_of_row-inputs.ensures.samples c.loop-x.x (omega arith) in
    record {
      value = sum_sample (input_error b) b.area c.args.y c.loop-x.x (c.loop-x.x + 1) c.loop-x.sum c.squared_difference-sum.result refl
          c.loop-x.invariant.value
          (c.squared_difference-sum.ensures.value ∙ ap₂ (λ i s. abs_diff i s * abs_diff i s) input value);
      most = omega (arith, c.loop-x.invariant.most, c.squared_difference-sum.ensures.most);
    }
