use Rattle.hv_sao.proofs.CandidateLemmas.{low_edge_at, high_edge_at}
use Rattle.hv_sao.proofs.candidates.edge_offset.Goals as goal

pub returns-then-index-lt2-clause-value : goal.returns-then-index-lt2-clause-value
returns-then-index-lt2-clause-value c = λ class b squares counted.
    low_edge_at class b c.args.index c.from-at.result squares c.args.tallies.now c.offset_from.result.value c.offset_from.result.growth
    c.if-index-lt2.true c.from-at.ensures counted c.offset_from.ensures.value c.offset_from.ensures.growth

pub returns-else-index-lt2-clause-value : goal.returns-else-index-lt2-clause-value
returns-else-index-lt2-clause-value c = λ class b squares counted.
    high_edge_at class b c.args.index c.from-at.result squares c.args.tallies.now c.offset_from-else-index-lt2.result.value
    c.offset_from-else-index-lt2.result.growth c.if-index-lt2.false c.requires.index c.from-at.ensures counted
    c.offset_from-else-index-lt2.ensures.value c.offset_from-else-index-lt2.ensures.growth
