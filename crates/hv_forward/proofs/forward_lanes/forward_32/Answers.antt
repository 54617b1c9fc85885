use Rattle.std.proofs.Common.{arith, refl, ◌≤◌, pos}
use Rattle.std.specs.Int.RustNames.{unsigned_abs}
use Rattle.std.proofs.lemmas.List.Elements.{All-get_or}
use Rattle.hv_lanes.specs.Passes.{AreWithin}
use Rattle.hv_lanes.proofs.WeightLemmas.{rows_are_light}
use Rattle.hv_forward.proofs.ForwardStepLemmas.{Have16Bits-within}
use Rattle.hv_forward.proofs.ForwardLaneLemmas.{forward_is, forward_within, halfway_numbers, pair_numbers}
use Rattle.hv_forward.proofs.forward_lanes.forward_32.Goals as goal

pub columns_of_32-requires-clause-numbers : goal.columns_of_32-requires-clause-numbers
columns_of_32-requires-clause-numbers c =
    pair_numbers 32 c.rows_of_32.new.out c.weave.new.out
    (halfway_numbers 5 4 1024 c.args.residual.now c.rows_of_32.new.out (omega arith) c.rows_of_32.ensures)
    (c.weave.ensures 0 c.rising_order_of_32.ensures.order)

pub columns_of_32-requires-clause-light : goal.columns_of_32-requires-clause-light
columns_of_32-requires-clause-light c = rows_are_light 32 5 c.matrix_32.result.now refl (omega arith) (omega arith) c.matrix_32.ensures.entries

pub returns-clause-value : goal.returns-clause-value
returns-clause-value c =
    let within : AreWithin 1024 255 c.args.residual.now =
    λ k below. All-get_or (λ z. unsigned_abs z ≤ 255) c.args.residual.now k (pos 0) (omega (arith, below, c.requires.block)) c.requires.range in
    forward_is 5 c.args.residual.now c.rows_of_32.new.out c.weave.new.out c.matrix_32.result.now c.columns_of_32.new.out (omega arith) (omega arith)
    (record {
      range = within;
      entries = c.matrix_32.ensures.entries;
      first = c.rows_of_32.ensures;
      woven = c.weave.ensures 0 c.rising_order_of_32.ensures.order;
      second = c.columns_of_32.ensures;
      whole = omega arith;
    })

pub returns-clause-range : goal.returns-clause-range
returns-clause-range c =
    let within : AreWithin 1024 255 c.args.residual.now =
    λ k below. All-get_or (λ z. unsigned_abs z ≤ 255) c.args.residual.now k (pos 0) (omega (arith, below, c.requires.block)) c.requires.range in
    Have16Bits-within 32 c.columns_of_32.new.out (omega arith)
    (forward_within 5 c.args.residual.now c.rows_of_32.new.out c.weave.new.out c.matrix_32.result.now c.columns_of_32.new.out (omega arith) (omega arith)
    (record {
      range = within;
      entries = c.matrix_32.ensures.entries;
      first = c.rows_of_32.ensures;
      woven = c.weave.ensures 0 c.rising_order_of_32.ensures.order;
      second = c.columns_of_32.ensures;
      whole = omega arith;
    }))
