use Rattle.std.proofs.Common.{refl, arith, rules, true≢false, sym}
use Rattle.hv_transform.specs.Columns.{pass_mean}
use Rattle.hv_lanes.proofs.PartLemmas.{numbers_by}
use Rattle.hv_transform.proofs.InverseLaneLemmas.{mean_fits, bits_of_pairs, inverse_is, pass_at}
use Rattle.hv_lanes.proofs.PlaceLemmas.{place_inside}
use Rattle.hv_transform.proofs.inverse_lanes.whole_16.Goals as goal

pub pass_16-requires : goal.pass_16-requires
pass_16-requires c = (
  omega arith,
  (
    omega arith,
    (
      omega arith,
      (
        omega arith,
        (
          bits_of_pairs 2 16 16 c.args.block.now c.weave.new.out c.requires.numbers (c.weave.ensures 2 c.order_of_16.ensures.order),
          ((λ never. absurd (true≢false (sym never))), (c.first_weights_16.ensures, (omega arith, (omega arith, search rules)))),
        ),
      ),
    ),
  ),
)

pub pass_16-requires-2 : goal.pass_16-requires-2
pass_16-requires-2 c =
    let numbers = numbers_by 256 (pass_mean 2 c.weave.new.out 7) c.pass_16.new.out (omega arith) c.pass_16.ensures (mean_fits 2 c.weave.new.out 7) in (
      omega arith,
      (
        omega arith,
        (
          omega arith,
          (
            omega arith,
            (
              bits_of_pairs 2 16 16 c.pass_16.new.out c.weave-2.new.out numbers (c.weave-2.ensures 2 c.order_of_16-2.ensures.order),
              ((λ never. absurd (true≢false (sym never))), (c.second_weights_16.ensures, (omega arith, (omega arith, search rules)))),
            ),
          ),
        ),
      ),
    )

pub returns : goal.returns
returns c =
    inverse_is 2 16 c.args.block.now c.args.block.now c.weave.new.out c.pass_16.new.out c.weave-2.new.out c.pass_16-2.new.out (omega arith) (omega arith)
    (record {
      narrowed = λ k below. refl;
      woven = c.weave.ensures 2 c.order_of_16.ensures.order;
      first = λ i j across down. pass_at 2 7 256 i j c.weave.new.out c.pass_16.new.out c.pass_16.ensures (place_inside 16 i j across down) down;
      others = λ i j outside inside down. absurd (omega (arith, outside, inside));
      woven_again = c.weave-2.ensures 2 c.order_of_16-2.ensures.order;
      second = c.pass_16-2.ensures;
      whole = omega arith;
    })
