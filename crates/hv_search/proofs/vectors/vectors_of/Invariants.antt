use Rattle.hv_search.specs.Vectors.{AreVectors}
use Rattle.hv_search.proofs.vectors.vectors_of.Given as goal

abbrev pub invariant-loop-index : goal.invariant-loop-index
invariant-loop-index l = AreVectors l.effort l.fn.input.luma.now l.fn.reference.luma.now l.index l.vectors.items
