use Rattle.std.proofs.Common.{arith, ◌≡◌, ◌+◌, ◌-◌, ◌*◌, subst, sym, ap, take, drop}
use Rattle.hv_lanes.specs.Passes.{AreWithin}
use Rattle.hv_forward.proofs.ColumnLaneLemmas.{part_within}
use Rattle.hv_forward.proofs.RowSumLemmas.{lines_more}
use Rattle.hv_forward.proofs.forward_lanes.rows_of_16.Goals as goal

pub put_line_of_16-requires-clause-range : goal.put_line_of_16-requires-clause-range
put_line_of_16-requires-clause-range c =
    let few : c.loop-y.y * 16 + 16 - c.loop-y.y * 16 ≡ 16 = omega arith in
    subst (λ m. AreWithin 16 255 (take m (drop (c.loop-y.y * 16) c.args.block.now))) (sym few)
    (part_within 256 (c.loop-y.y * 16) 16 255 c.args.block.now c.requires.range (omega arith))

pub loop-y-preserved : goal.loop-y-preserved
loop-y-preserved c = λ k below.
    let few : c.loop-y.y * 16 + 16 - c.loop-y.y * 16 ≡ 16 = omega arith in
    lines_more 4 c.loop-y.y c.args.shift _ c.args.block.now (take (c.loop-y.y * 16 + 16 - c.loop-y.y * 16) (drop (c.loop-y.y * 16) c.args.block.now)) c.loop-y.out c.put_line_of_16.new.out (ap (λ m. take m (drop (c.loop-y.y * 16) c.args.block.now)) few) (omega arith) (omega arith) c.put_line_of_16.ensures c.loop-y.invariant k (omega (arith, below))
