use Rattle.std.proofs.Common.{arith}
use Rattle.hv_syntax.proofs.LeafLemmas.{chroma_fits}
use Rattle.hv_syntax.proofs.leaves.transform_unit.Goals as goal

pub part-requires-2 : goal.part-requires-2
part-requires-2 c =
    let fits = chroma_fits c.args.address c.args.log2 c.requires.least c.requires.inside in
    rw c.side-half.ensures.value (omega (arith, fits))
