use Rattle.std.proofs.Common.{arith, refl, ◌≤◌, pos}
use Rattle.std.specs.Int.RustNames.{unsigned_abs}
use Rattle.std.proofs.lemmas.List.Elements.{All-get_or}
use Rattle.hv_lanes.specs.Passes.{AreWithin}
use Rattle.hv_lanes.proofs.WeightLemmas.{rows_are_light}
use Rattle.hv_forward.proofs.ForwardStepLemmas.{Have16Bits-within}
use Rattle.hv_forward.proofs.ForwardLaneLemmas.{forward_is, forward_within, halfway_numbers, pair_numbers}
use Rattle.hv_forward.proofs.forward_lanes.forward_16.Goals as goal

pub columns_of_16-requires-clause-numbers : goal.columns_of_16-requires-clause-numbers
columns_of_16-requires-clause-numbers c =
    pair_numbers 16 c.rows_of_16.new.out c.weave.new.out
    (halfway_numbers 4 3 256 c.args.residual.now c.rows_of_16.new.out (omega arith) c.rows_of_16.ensures)
    (c.weave.ensures 0 c.rising_order_of_16.ensures.order)

pub columns_of_16-requires-clause-light : goal.columns_of_16-requires-clause-light
columns_of_16-requires-clause-light c = rows_are_light 16 4 c.matrix_16.result.now refl (omega arith) (omega arith) c.matrix_16.ensures.entries

pub returns-clause-value : goal.returns-clause-value
returns-clause-value c =
    let within : AreWithin 256 255 c.args.residual.now =
    λ k below. All-get_or (λ z. unsigned_abs z ≤ 255) c.args.residual.now k (pos 0) (omega (arith, below, c.requires.block)) c.requires.range in
    forward_is 4 c.args.residual.now c.rows_of_16.new.out c.weave.new.out c.matrix_16.result.now c.columns_of_16.new.out (omega arith) (omega arith)
    (record {
      range = within;
      entries = c.matrix_16.ensures.entries;
      first = c.rows_of_16.ensures;
      woven = c.weave.ensures 0 c.rising_order_of_16.ensures.order;
      second = c.columns_of_16.ensures;
      whole = omega arith;
    })

pub returns-clause-range : goal.returns-clause-range
returns-clause-range c =
    let within : AreWithin 256 255 c.args.residual.now =
    λ k below. All-get_or (λ z. unsigned_abs z ≤ 255) c.args.residual.now k (pos 0) (omega (arith, below, c.requires.block)) c.requires.range in
    Have16Bits-within 16 c.columns_of_16.new.out (omega arith)
    (forward_within 4 c.args.residual.now c.rows_of_16.new.out c.weave.new.out c.matrix_16.result.now c.columns_of_16.new.out (omega arith) (omega arith)
    (record {
      range = within;
      entries = c.matrix_16.ensures.entries;
      first = c.rows_of_16.ensures;
      woven = c.weave.ensures 0 c.rising_order_of_16.ensures.order;
      second = c.columns_of_16.ensures;
      whole = omega arith;
    }))
