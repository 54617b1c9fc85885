use Rattle.std.proofs.Common.{◌≢◌, ◌+◌, arith, sym}
use Rattle.hv_residual_model.specs.ScanOrder.{Position, position_at}
use Rattle.hv_residual_model.specs.ResidualContexts.{by_neighbours}
use Rattle.hv_residual.specs.Blocks.{block_of, spot_of}
use Rattle.hv_residual.proofs.ContextLemmas.{first_position, at_first, not_at_first, along_scan, not_all_first}
use Rattle.hv_residual.proofs.contexts.sig_ctx.Goals as goal

pub returns-then-corner-i-eq0-clause-value : goal.returns-then-corner-i-eq0-clause-value
returns-then-corner-i-eq0-clause-value c =
    let P : Position = position_at c.args.block.scan 2 c.args.i in
    let p = first_position c.args.block.scan c.args.i (omega arith) in
    sym (at_first (block_of c.args.block) c.args.right c.args.below (spot_of c.args.corner) P
    c.if-block-eq2.false (rw p (omega arith)))

pub returns-clause-value : goal.returns-clause-value
returns-clause-value c =
    let P : Position = position_at c.args.block.scan 2 c.args.i in
    let e = along_scan (by_neighbours c.args.right c.args.below) c.args.block.scan
    c.of_neighbours.result.now c.args.i c.requires c.of_neighbours.ensures.value in
    let apart : c.args.corner.x + c.args.corner.y + P.x + P.y ≢ 0 =
    not_all_first c.args.block.scan c.args.corner.x c.args.corner.y c.args.i c.requires (omega arith) in
    let s = not_at_first (block_of c.args.block) c.args.right c.args.below (spot_of c.args.corner) P
    c.if-block-eq2.false apart in
    rw (c.from-2.ensures, e, c.addend.ensures.value) (sym s)
