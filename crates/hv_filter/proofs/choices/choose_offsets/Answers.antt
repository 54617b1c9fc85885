use Rattle.std.proofs.Common.{refl, arith}
use Rattle.hv_filter_model.specs.OffsetDecision.{block_count, block_offsets}
use Rattle.hv_filter.proofs.ChoiceLemmas.{none_chosen, chosen_more, all_chosen, all_valid}
use Rattle.hv_filter.proofs.choices.choose_offsets.Goals as goal

pub loop-number-init : goal.loop-number-init
loop-number-init c = none_chosen _ _ _ c.args.sao.now refl c.requires.count

pub loop-number-preserved : goal.loop-number-preserved
loop-number-preserved c =
    chosen_more c.loop-number.number (block_count c.args.deblocked.now)
    (block_offsets c.args.effort c.args.qp c.args.deblocked.now c.args.input.now)
    c.loop-number.sao c.choose_block.result
    (omega (arith, c.loop-number-test.true, c.requires.count)) c.choose_block.ensures.value
    c.choose_block.ensures.valid c.loop-number.invariant

pub returns-clause-value : goal.returns-clause-value
returns-clause-value c =
    all_chosen c.loop-number.number _ _ c.loop-number.sao
    (omega (arith, c.loop-number-test.false, c.requires.count)) c.loop-number.invariant

pub returns-clause-valid : goal.returns-clause-valid
returns-clause-valid c =
    all_valid c.loop-number.number _ _ c.loop-number.sao
    (omega (arith, c.loop-number-test.false, c.requires.count)) c.loop-number.invariant
