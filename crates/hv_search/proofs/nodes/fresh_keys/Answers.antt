use Rattle.std.proofs.lemmas.Simd.{get_or-replicate}
use Rattle.hv_search.proofs.nodes.fresh_keys.Goals as goal

pub returns-clause-eights : goal.returns-clause-eights
returns-clause-eights c = λ p h. get_or-replicate 64 p 4294967295 0 h
