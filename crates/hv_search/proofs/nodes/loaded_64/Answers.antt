use Rattle.std.proofs.Common.{◌-◌, arith}
use Rattle.hv_search.proofs.LaneSumLemmas.{loaded}
use Rattle.hv_search.proofs.nodes.loaded_64.Goals as goal

pub returns : goal.returns
returns c = λ j h. loaded c.args.sums.now c.args.at (1088 - c.args.at) 64 j (omega (arith, c.requires)) h
