use Rattle.hv_types.specs.Video.{IsPicture}
use Rattle.hv_speed.proofs.checksum_of_edges.Given as goal

abbrev pub invariant-loop : goal.invariant-loop
invariant-loop l = IsPicture 256 256 l.picture

abbrev pub invariant-loop-2 : goal.invariant-loop-2
invariant-loop-2 l = IsPicture 256 256 l.picture
