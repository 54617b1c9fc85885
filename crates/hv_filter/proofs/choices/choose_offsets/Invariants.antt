use Rattle.hv_filter_model.specs.OffsetDecision.{block_count, block_offsets}
use Rattle.hv_filter.proofs.ChoiceLemmas.{AreChosenTo}
use Rattle.hv_filter.proofs.choices.choose_offsets.Given as goal

abbrev pub invariant-loop-number : goal.invariant-loop-number
invariant-loop-number l =
    AreChosenTo l.number (block_count l.deblocked)
    (block_offsets l.effort l.qp l.deblocked l.input) l.sao
