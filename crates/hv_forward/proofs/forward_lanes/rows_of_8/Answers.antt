use Rattle.std.proofs.Common.{arith, ℕ, refl}
use Rattle.hv_forward.specs.Forward.{rows_mean}
use Rattle.hv_lanes.proofs.PartLemmas.{none_yet}
use Rattle.hv_forward.proofs.ColumnLaneLemmas.{part_within}
use Rattle.hv_forward.proofs.RowSumLemmas.{lines_more}
use Rattle.hv_forward.proofs.forward_lanes.rows_of_8.Goals as goal

pub put_line_of_8-requires-clause-range : goal.put_line_of_8-requires-clause-range
put_line_of_8-requires-clause-range c = part_within 64 0 8 255 c.args.block.now c.requires.range (omega arith)

pub put_line_of_8-requires-2-clause-range : goal.put_line_of_8-requires-2-clause-range
put_line_of_8-requires-2-clause-range c = part_within 64 8 8 255 c.args.block.now c.requires.range (omega arith)

pub put_line_of_8-requires-3-clause-range : goal.put_line_of_8-requires-3-clause-range
put_line_of_8-requires-3-clause-range c = part_within 64 16 8 255 c.args.block.now c.requires.range (omega arith)

pub put_line_of_8-requires-4-clause-range : goal.put_line_of_8-requires-4-clause-range
put_line_of_8-requires-4-clause-range c = part_within 64 24 8 255 c.args.block.now c.requires.range (omega arith)

pub put_line_of_8-requires-5-clause-range : goal.put_line_of_8-requires-5-clause-range
put_line_of_8-requires-5-clause-range c = part_within 64 32 8 255 c.args.block.now c.requires.range (omega arith)

pub put_line_of_8-requires-6-clause-range : goal.put_line_of_8-requires-6-clause-range
put_line_of_8-requires-6-clause-range c = part_within 64 40 8 255 c.args.block.now c.requires.range (omega arith)

pub put_line_of_8-requires-7-clause-range : goal.put_line_of_8-requires-7-clause-range
put_line_of_8-requires-7-clause-range c = part_within 64 48 8 255 c.args.block.now c.requires.range (omega arith)

pub put_line_of_8-requires-8-clause-range : goal.put_line_of_8-requires-8-clause-range
put_line_of_8-requires-8-clause-range c = part_within 64 56 8 255 c.args.block.now c.requires.range (omega arith)

pub returns : goal.returns
returns c =
    let more = λ (y : ℕ). lines_more 3 y c.args.shift 8 c.args.block.now in
    let part_0 = more 0 _ _ c.put_line_of_8.new.out refl (omega arith) (omega arith) c.put_line_of_8.ensures (none_yet (rows_mean 3 c.args.block.now c.args.shift) c.args.out.now) in
    let part_1 = more 1 _ _ c.put_line_of_8-2.new.out refl (omega arith) (omega arith) c.put_line_of_8-2.ensures part_0 in
    let part_2 = more 2 _ _ c.put_line_of_8-3.new.out refl (omega arith) (omega arith) c.put_line_of_8-3.ensures part_1 in
    let part_3 = more 3 _ _ c.put_line_of_8-4.new.out refl (omega arith) (omega arith) c.put_line_of_8-4.ensures part_2 in
    let part_4 = more 4 _ _ c.put_line_of_8-5.new.out refl (omega arith) (omega arith) c.put_line_of_8-5.ensures part_3 in
    let part_5 = more 5 _ _ c.put_line_of_8-6.new.out refl (omega arith) (omega arith) c.put_line_of_8-6.ensures part_4 in
    let part_6 = more 6 _ _ c.put_line_of_8-7.new.out refl (omega arith) (omega arith) c.put_line_of_8-7.ensures part_5 in
    more 7 _ _ c.put_line_of_8-8.new.out refl (omega arith) (omega arith) c.put_line_of_8-8.ensures part_6
