use Rattle.std.proofs.Common.{◌*◌, ◌∙◌, ap, sym}
use Rattle.hv_sao.proofs.CandidateLemmas.{band_offset_at}
use Rattle.hv_sao.proofs.candidates.band_offset.Goals as goal

pub returns-clause-value : goal.returns-clause-value
returns-clause-value c = λ b squares position i counted last below is.
    band_offset_at b position i c.from.result (8 * c.args.band) squares c.args.tallies.now
    c.offset_from.result.value c.offset_from.result.growth below last (c.from.ensures ∙ ap (λ n. 8 * n) (sym is)) (ap (λ n. 8 * n) (sym is))
    counted c.offset_from.ensures.value c.offset_from.ensures.growth
