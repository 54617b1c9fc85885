use Rattle.std.proofs.Common.{◌+◌, arith}
use Rattle.hv_search.proofs.LaneSumLemmas.{part_small, four_parts}
use Rattle.hv_search.proofs.nodes.sixteens_of.Goals as goal

pub sum_of_four-requires : goal.sum_of_four-requires
sum_of_four-requires c =
    (omega arith, ((λ j h. part_small c.args.eights c.args.eights 64 0 16 16320 j c.fits-eights.0 (omega arith) c.requires (omega arith) h), ((λ j h. part_small c.args.eights c.args.eights 64 16 16 16320 j c.fits-eights.0 (omega arith) c.requires (omega arith) h), ((λ j h. part_small c.args.eights c.args.eights 64 32 16 16320 j c.fits-eights.0 (omega arith) c.requires (omega arith) h), (λ j h. part_small c.args.eights c.args.eights 64 48 16 16320 j c.fits-eights.0 (omega arith) c.requires (omega arith) h)))))

pub returns-clause-value : goal.returns-clause-value
returns-clause-value c = λ j h. four_parts c.args.eights c.args.eights 64 16 16 32 48 _ j c.fits-eights.0 (omega arith) (omega arith) (omega arith) (omega arith) h (c.sum_of_four.ensures j h)

pub returns-clause-small : goal.returns-clause-small
returns-clause-small c = λ j h.
    let value = four_parts c.args.eights c.args.eights 64 16 16 32 48 _ j c.fits-eights.0 (omega arith) (omega arith) (omega arith) (omega arith) h (c.sum_of_four.ensures j h) in
    omega (arith, value, c.requires j (omega arith), c.requires (16 + j) (omega arith), c.requires (32 + j) (omega arith), c.requires (48 + j) (omega arith))
