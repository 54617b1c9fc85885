use Rattle.std.proofs.Common.{◌≡◌, ◌∙◌, ◌-◌, sym, rules, arith}
use Rattle.hv_residual_model.specs.ScanOrder.{position_at}
use Rattle.std.proofs.lemmas.List.{length-set}
use mir.Syntax.{w16}
use mir.Val.{to_z, of_z}
use Rattle.hv_residual.specs.Blocks.{block_of, spot_of}
use Rattle.hv_residual.proofs.GatheringLemmas.{clear_levels, gather_step, gathered, as_levels_below}
use Rattle.hv_residual.proofs.ScanLemmas.{inside_sub_block}
use Rattle.hv_residual.proofs.gathering.gather.Goals as goal

pub loop-k-preserved : goal.loop-k-preserved
loop-k-preserved c =
    let same : to_z w16 (of_z w16 c.level_in.result) ≡ c.level_in.result = search rules in
    let P = position_at c.args.block.scan 2 (15 - c.loop-k.k) in
    let inside = inside_sub_block c.args.block.scan (15 - c.loop-k.k) (omega arith) in
    record {
      room = length-set c.loop-k.all c.from.result _ ∙ c.loop-k.invariant.room;
      levels = rw c.from.ensures
          (gather_step (block_of c.args.block) c.args.levels.now c.args.s c.loop-k.k c.loop-k.all _
          (spot_of c.sub_block-corner.result) c.loop-k-test.true c.loop-k.invariant.room
          c.sub_block-corner.ensures.spot
          (same ∙ c.level_in.ensures ∙ c.by_rows-rows.ensures P.x P.y inside.0 inside.1) c.loop-k.invariant.levels);
    }

pub returns : goal.returns
returns c =
    gathered c.loop-k.all c.loop-k.k _ c.loop-k.invariant.room c.loop-k-test.false c.loop-k.auto.k-end c.loop-k.invariant.levels ∙
    sym (as_levels_below (block_of c.args.block) c.args.levels.now c.args.s)

pub returns-then-is_clear : goal.returns-then-is_clear
returns-then-is_clear c =
    clear_levels (block_of c.args.block) c.args.levels.now c.args.s (spot_of c.sub_block-corner.result)
    c.sub_block-corner.ensures.spot (c.is_clear.ensures c.if-is_clear.true)
