use Rattle.std.proofs.Common.{arith}
use Rattle.hv_transform.proofs.InverseLaneLemmas.{inverse_is, pass_at}
use Rattle.hv_lanes.proofs.PlaceLemmas.{place_inside}
use Rattle.hv_transform.proofs.inverse_lanes.inverse_4.Goals as goal

pub returns : goal.returns
returns c =
    inverse_is 0 4 c.args.coefficients.now c.narrow.new.out c.pairs_of_4.result c.pass_4.new.out c.pairs_of_4-2.result c.pass_4-2.new.out (omega arith) (omega arith)
    (record {
      narrowed = λ k below. c.narrow.ensures k (omega (arith, below, c.requires.block));
      woven = c.pairs_of_4.ensures;
      first = λ i j across down. pass_at 0 7 16 i j c.pairs_of_4.result c.pass_4.new.out c.pass_4.ensures (place_inside 4 i j across down) down;
      others = λ i j outside inside down. absurd (omega (arith, outside, inside));
      woven_again = c.pairs_of_4-2.ensures;
      second = c.pass_4-2.ensures;
      whole = omega arith;
    })
