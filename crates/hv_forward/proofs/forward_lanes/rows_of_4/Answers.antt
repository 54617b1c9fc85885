use Rattle.std.proofs.Common.{arith, ℕ, ℤ}
use Rattle.hv_forward.specs.Forward.{rows_mean}
use Rattle.hv_lanes.proofs.PartLemmas.{none_yet, HasFirst-put}
use Rattle.hv_forward.proofs.ColumnLaneLemmas.{part_within}
use Rattle.hv_forward.proofs.RowSumLemmas.{two_lines}
use Rattle.hv_forward.proofs.forward_lanes.rows_of_4.Goals as goal

pub put_lines_of_4-requires-clause-range : goal.put_lines_of_4-requires-clause-range
put_lines_of_4-requires-clause-range c = part_within 16 0 8 255 c.args.block.now c.requires.range (omega arith)

pub put_lines_of_4-requires-2-clause-range : goal.put_lines_of_4-requires-2-clause-range
put_lines_of_4-requires-2-clause-range c = part_within 16 8 8 255 c.args.block.now c.requires.range (omega arith)

pub returns : goal.returns
returns c =
    let f : ℕ → ℤ = rows_mean 2 c.args.block.now c.args.shift in
    let first = HasFirst-put 0 8 8 f c.args.out.now c.put_lines_of_4.new.out (omega arith) (omega arith) (none_yet f c.args.out.now) (two_lines 0 c.args.shift c.args.block.now c.put_lines_of_4.new.out c.put_lines_of_4.ensures) in
    HasFirst-put 8 8 8 f _ c.put_lines_of_4-2.new.out (omega arith) (omega arith) first (two_lines 1 c.args.shift c.args.block.now c.put_lines_of_4-2.new.out c.put_lines_of_4-2.ensures)
