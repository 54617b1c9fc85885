use Rattle.hv_sao.proofs.AddLemmas.{no_keys}
use Rattle.hv_sao.proofs.tallies.put_row_of_keys.Goals as goal

pub put_edge_keys-requires-clause-before : goal.put_edge_keys-requires-clause-before
put_edge_keys-requires-clause-before c = no_keys _ _ _ _
