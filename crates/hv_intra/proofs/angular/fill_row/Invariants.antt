use Rattle.hv_intra.specs.Blocks.{IsRow}
use Rattle.hv_intra.specs.References.{sample_between}
use Rattle.hv_intra.proofs.angular.fill_row.Given as goal

abbrev pub invariant-loop-x : goal.invariant-loop-x
invariant-loop-x l = IsRow l.x (sample_between l.reference l.first l.part) l.row
