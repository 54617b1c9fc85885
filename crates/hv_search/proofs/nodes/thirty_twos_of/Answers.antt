use Rattle.std.proofs.Common.{◌+◌, arith}
use Rattle.hv_search.proofs.LaneSumLemmas.{part_small, four_parts}
use Rattle.hv_search.proofs.nodes.thirty_twos_of.Goals as goal

pub sum_of_four-requires : goal.sum_of_four-requires
sum_of_four-requires c =
    (omega arith, ((λ j h. part_small c.args.sixteens c.args.sixteens 16 0 4 65280 j c.fits-sixteens.0 (omega arith) c.requires (omega arith) h), ((λ j h. part_small c.args.sixteens c.args.sixteens 16 4 4 65280 j c.fits-sixteens.0 (omega arith) c.requires (omega arith) h), ((λ j h. part_small c.args.sixteens c.args.sixteens 16 8 4 65280 j c.fits-sixteens.0 (omega arith) c.requires (omega arith) h), (λ j h. part_small c.args.sixteens c.args.sixteens 16 12 4 65280 j c.fits-sixteens.0 (omega arith) c.requires (omega arith) h)))))

pub returns-clause-value : goal.returns-clause-value
returns-clause-value c = λ j h. four_parts c.args.sixteens c.args.sixteens 16 4 4 8 12 _ j c.fits-sixteens.0 (omega arith) (omega arith) (omega arith) (omega arith) h (c.sum_of_four.ensures j h)

pub returns-clause-small : goal.returns-clause-small
returns-clause-small c = λ j h.
    let value = four_parts c.args.sixteens c.args.sixteens 16 4 4 8 12 _ j c.fits-sixteens.0 (omega arith) (omega arith) (omega arith) (omega arith) h (c.sum_of_four.ensures j h) in
    omega (arith, value, c.requires j (omega arith), c.requires (4 + j) (omega arith), c.requires (8 + j) (omega arith), c.requires (12 + j) (omega arith))
