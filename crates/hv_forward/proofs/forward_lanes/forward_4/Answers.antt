use Rattle.std.proofs.Common.{arith, refl, ◌≤◌, pos}
use Rattle.std.specs.Int.RustNames.{unsigned_abs}
use Rattle.std.proofs.lemmas.List.Elements.{All-get_or}
use Rattle.hv_lanes.specs.Passes.{AreWithin}
use Rattle.hv_lanes.proofs.WeightLemmas.{rows_are_light}
use Rattle.hv_forward.proofs.ForwardStepLemmas.{Have16Bits-within}
use Rattle.hv_forward.proofs.ForwardLaneLemmas.{forward_is, forward_within, halfway_numbers, pair_numbers}
use Rattle.hv_forward.proofs.forward_lanes.forward_4.Goals as goal

pub columns_of_4-requires-clause-numbers : goal.columns_of_4-requires-clause-numbers
columns_of_4-requires-clause-numbers c =
    pair_numbers 4 c.rows_of_4.new.out c.pairs_of_4.result
    (halfway_numbers 2 1 16 c.args.residual.now c.rows_of_4.new.out (omega arith) c.rows_of_4.ensures)
    c.pairs_of_4.ensures

pub columns_of_4-requires-clause-light : goal.columns_of_4-requires-clause-light
columns_of_4-requires-clause-light c = rows_are_light 4 2 c.matrix_4.result.now refl (omega arith) (omega arith) c.matrix_4.ensures.entries

pub returns-clause-value : goal.returns-clause-value
returns-clause-value c =
    let within : AreWithin 16 255 c.args.residual.now =
    λ k below. All-get_or (λ z. unsigned_abs z ≤ 255) c.args.residual.now k (pos 0) (omega (arith, below, c.requires.block)) c.requires.range in
    forward_is 2 c.args.residual.now c.rows_of_4.new.out c.pairs_of_4.result c.matrix_4.result.now c.columns_of_4.new.out (omega arith) (omega arith)
    (record {
      range = within;
      entries = c.matrix_4.ensures.entries;
      first = c.rows_of_4.ensures;
      woven = c.pairs_of_4.ensures;
      second = c.columns_of_4.ensures;
      whole = omega arith;
    })

pub returns-clause-range : goal.returns-clause-range
returns-clause-range c =
    let within : AreWithin 16 255 c.args.residual.now =
    λ k below. All-get_or (λ z. unsigned_abs z ≤ 255) c.args.residual.now k (pos 0) (omega (arith, below, c.requires.block)) c.requires.range in
    Have16Bits-within 4 c.columns_of_4.new.out (omega arith)
    (forward_within 2 c.args.residual.now c.rows_of_4.new.out c.pairs_of_4.result c.matrix_4.result.now c.columns_of_4.new.out (omega arith) (omega arith)
    (record {
      range = within;
      entries = c.matrix_4.ensures.entries;
      first = c.rows_of_4.ensures;
      woven = c.pairs_of_4.ensures;
      second = c.columns_of_4.ensures;
      whole = omega arith;
    }))
