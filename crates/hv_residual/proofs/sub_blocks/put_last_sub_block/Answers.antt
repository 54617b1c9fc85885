use Rattle.std.proofs.Common.{◌+◌, ◌-◌, true, false, refl, arith, subst}
use Rattle.hv_residual_model.specs.ResidualSyntax.{Earlier, nothing_earlier}
use Rattle.hv_residual_model.specs.ResidualBins.{levels_below}
use Rattle.hv_residual.specs.Blocks.{block_of, spot_of}
use Rattle.hv_residual.specs.Earlier.{Shows}
use Rattle.hv_residual.proofs.PuttingLemmas.{puts_both, puts_same}
use Rattle.hv_residual.proofs.EarlierLemmas.{last_parts, cut_levels, behind_is}
use Rattle.hv_residual.proofs.sub_blocks.put_last_sub_block.Goals as goal

pub returns-clause-puts : goal.returns-clause-puts
returns-clause-puts g c =
    let b = block_of c.args.block in
    let levels = c.args.levels.now in
    let s = c.args.last.sub_block in
    let i = c.args.last.position in
    let k = c.from-from.result in
    let lower = cut_levels b levels s i (15 - k + 1) c.gather-these.result
    (omega (arith, c.args.last.inside, c.from-from.ensures)) c.gather-these.ensures in
    let all = cut_levels b levels s (i + 1) (15 - k) c.gather-these.result
    (omega (arith, c.args.last.inside, c.from-from.ensures)) c.gather-these.ensures in
    puts_same g.B.BinSink.stands_for _ _ _ _
    (last_parts b levels s i c.ctx_set.result _ _ (spot_of c.sub_block-corner.result)
    c.sub_block-corner.ensures.spot lower all c.ctx_set.ensures.value)
    (puts_both g.B.BinSink.stands_for _ c.put_significance.new.sink _ _ _ c.put_significance.ensures
    c.put_levels-had.ensures.puts)

pub returns-clause-shows : goal.returns-clause-shows
returns-clause-shows g c =
    let b = block_of c.args.block in
    let levels = c.args.levels.now in
    let s = c.args.last.sub_block in
    let i = c.args.last.position in
    let all = cut_levels b levels s (i + 1) (15 - c.from-from.result) c.gather-these.result
    (omega (arith, c.args.last.inside, c.from-from.ensures)) c.gather-these.ensures in
    let behind = behind_is b s nothing_earlier (levels_below b levels s (i + 1)) _
    (spot_of c.sub_block-corner.result) true true false c.put_levels-had.result
    c.sub_block-corner.ensures.spot refl all refl c.put_levels-had.ensures.had in
    subst (λ (e : Earlier). Shows c.set.new.self e) behind
    (c.set.ensures nothing_earlier c.nothing-coded.ensures)
