use Rattle.std.proofs.Common.{◌++◌, length-append, arith}
use Rattle.std.proofs.lemmas.Simd.{pick_l_whole}
use Rattle.hv_search.proofs.lanes.join_32.Goals as goal

pub returns : goal.returns
returns c = pick_l_whole 0 (c.args.first ++ c.args.second) 64 (omega (arith, length-append c.args.first c.args.second, c.fits-first.0, c.fits-second.0))
