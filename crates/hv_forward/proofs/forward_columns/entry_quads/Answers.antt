use Rattle.std.proofs.Common.{map, take, arith}
use mir.Val.{of_z}
use mir.Syntax.{w16}
use Rattle.hv_forward.specs.Forward.{entry_quad}
use Rattle.hv_lanes.proofs.LaneSumLemmas.{always}
use Rattle.hv_forward.proofs.RowLaneLemmas.{four_lanes}
use Rattle.hv_forward.proofs.ColumnLaneLemmas.{entry_lane}
use Rattle.hv_forward.proofs.forward_columns.entry_quads.Goals as goal

pub overflow_cast-m-3 : goal.overflow_cast-m-3
overflow_cast-m-3 c = (always _, (always _, (always _, (always _, (always _, (always _, (always _, (always _, tt))))))))

pub overflow_cast-m-4 : goal.overflow_cast-m-4
overflow_cast-m-4 c = (always _, (always _, (always _, (always _, (always _, (always _, (always _, (always _, tt))))))))

pub returns : goal.returns
returns c =
    let one = λ (j : _). entry_lane j c.args.first.now c.args.second.now c.args.entries.now (map (of_z w16) (take 4 c.args.entries.now)) in
    four_lanes (entry_quad c.args.entries.now c.args.first.now c.args.second.now) _ _ _ _
    (one 0 (omega arith) c.requires.first c.requires.second c.requires.four c.requires.first_numbers c.requires.second_numbers c.requires.entries)
    (one 1 (omega arith) c.requires.first c.requires.second c.requires.four c.requires.first_numbers c.requires.second_numbers c.requires.entries)
    (one 2 (omega arith) c.requires.first c.requires.second c.requires.four c.requires.first_numbers c.requires.second_numbers c.requires.entries)
    (one 3 (omega arith) c.requires.first c.requires.second c.requires.four c.requires.first_numbers c.requires.second_numbers c.requires.entries)
