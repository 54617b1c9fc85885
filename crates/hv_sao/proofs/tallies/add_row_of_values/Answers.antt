use Rattle.std.proofs.Common.{arith, ◌+◌, ◌*◌, ◌∙◌, ◌-ℤ◌, ap₂, pos, sym, refl}
use Rattle.std.proofs.lemmas.Int.{ints}
use Rattle.hv_filter_model.specs.OffsetDecision.{Block, difference}
use Rattle.hv_sao.specs.Decisions.{block_of, value_key}
use Rattle.hv_sao.proofs.AddLemmas.{adds_nothing, adds_sample, at_most_one, at_most_more}
use Rattle.hv_sao.proofs.tallies.add_row_of_values.Goals as goal

pub overflow_add-area : goal.overflow_add-area
overflow_add-area c = omega (arith, c.args.block.inside.fits_down)

pub overflow_add-area-2 : goal.overflow_add-area-2
overflow_add-area-2 c = omega (arith, c.args.block.inside.fits_down)

pub loop-x-init : goal.loop-x-init
loop-x-init c =
    let b : Block = block_of c.args.block.deblocked.now c.args.block.input.now c.args.block.area in
    record {
      added = adds_nothing 256 (value_key b) (difference b) b.area c.args.y c.args.tallies.now;
      few = at_most_more 256 (64 * c.args.y) (64 * c.args.y + 0) c.args.tallies.now c.requires.few (omega arith);
    }

pub loop-x-preserved : goal.loop-x-preserved
loop-x-preserved c =
    let b : Block = block_of c.args.block.deblocked.now c.args.block.input.now c.args.block.area in
    let value = c.part_of_row-samples.ensures.samples c.loop-x.x (omega arith) in
    let input = c.part_of_row-inputs.ensures.samples c.loop-x.x (omega arith) in
    record {
      added = adds_sample 256 (value_key b) (difference b) b.area c.args.y c.loop-x.x (c.loop-x.x + 1) c.from-key.result _
          c.args.tallies.now c.loop-x.tallies c.with.result c.loop-x.invariant.added refl (omega (arith, c.type_inv.samples c.loop-x.x))
          (omega arith) (sym value ∙ sym c.from-key.ensures) (ap₂ (λ i s. pos i -ℤ pos s) (sym input) (sym value))
          c.with.ensures.count c.with.ensures.sum;
      few = at_most_one 256 (64 * c.args.y + c.loop-x.x) (64 * c.args.y + (c.loop-x.x + 1)) c.from-key.result _ c.loop-x.tallies c.with.result
          c.loop-x.invariant.few (omega (arith, c.type_inv.samples c.loop-x.x)) (omega arith) (omega arith)
          (omega (arith, ints, c.type_inv.samples c.loop-x.x, c.type_inv.inputs c.loop-x.x)) c.with.ensures.count c.with.ensures.sum;
    }
