use Rattle.std.proofs.Common.{arith, rules}
use Rattle.hv_lanes.specs.Passes.{HasFirst}
use Rattle.hv_lanes.specs.Lanes.{at}
use Rattle.hv_transform.specs.Columns.{pass_mean}
use Rattle.hv_lanes.proofs.PartLemmas.{numbers_of_bits}
use Rattle.hv_lanes.proofs.PartLemmas.{numbers_by}
use Rattle.hv_transform.proofs.InverseLaneLemmas.{mean_fits, bits_of_pairs, inverse_is, pass_at}
use Rattle.hv_lanes.proofs.PlaceLemmas.{place_inside}
use Rattle.hv_transform.proofs.inverse_lanes.inverse_8.Goals as goal

pub pass_8-requires : goal.pass_8-requires
pass_8-requires c =
    let block : HasFirst 64 (at c.args.coefficients.now) c.narrow.new.out = λ k below. c.narrow.ensures k (omega (arith, below, c.requires.block)) in
    let numbers = numbers_by 64 (at c.args.coefficients.now) c.narrow.new.out (omega arith) block (numbers_of_bits c.args.coefficients.now c.requires.range) in (
      omega arith,
      (
        omega arith,
        (
          omega arith,
          (
            omega arith,
            (
              bits_of_pairs 1 8 8 c.narrow.new.out c.weave.new.out numbers (c.weave.ensures 1 c.order_of_8.ensures.order),
              (c.first_weights_8.ensures, (omega arith, (omega arith, search rules))),
            ),
          ),
        ),
      ),
    )

pub pass_8-requires-2 : goal.pass_8-requires-2
pass_8-requires-2 c =
    let numbers = numbers_by 64 (pass_mean 1 c.weave.new.out 7) c.pass_8.new.out (omega arith) c.pass_8.ensures (mean_fits 1 c.weave.new.out 7) in (
      omega arith,
      (
        omega arith,
        (
          omega arith,
          (
            omega arith,
            (
              bits_of_pairs 1 8 8 c.pass_8.new.out c.weave-2.new.out numbers (c.weave-2.ensures 1 c.order_of_8-2.ensures.order),
              (c.second_weights_8.ensures, (omega arith, (omega arith, search rules))),
            ),
          ),
        ),
      ),
    )

pub returns : goal.returns
returns c =
    inverse_is 1 8 c.args.coefficients.now c.narrow.new.out c.weave.new.out c.pass_8.new.out c.weave-2.new.out c.pass_8-2.new.out (omega arith) (omega arith)
    (record {
      narrowed = λ k below. c.narrow.ensures k (omega (arith, below, c.requires.block));
      woven = c.weave.ensures 1 c.order_of_8.ensures.order;
      first = λ i j across down. pass_at 1 7 64 i j c.weave.new.out c.pass_8.new.out c.pass_8.ensures (place_inside 8 i j across down) down;
      others = λ i j outside inside down. absurd (omega (arith, outside, inside));
      woven_again = c.weave-2.ensures 1 c.order_of_8-2.ensures.order;
      second = c.pass_8-2.ensures;
      whole = omega arith;
    })
