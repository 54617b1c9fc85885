use Rattle.std.proofs.Common.{◌+◌, [], ◌∷◌, arith}
use Rattle.hv_lemmas.proofs.ComputedLemmas.{each_of_four}
use Rattle.hv_plan.specs.declared.offsets.SaoKind.TheVariants.{Band}
use Rattle.hv_sao.specs.Decisions.{offset_at_index}
use Rattle.hv_sao.proofs.CandidateLemmas.{candidate_is, band_offset_of}
use Rattle.hv_sao.proofs.candidates.band_candidate.Goals as goal

pub returns : goal.returns
returns c = λ b each measured.
    candidate_is b (Band c.args.position) c.args.squares
    (offset_at_index c.args.offsets.now c.from-at.result ∷ offset_at_index c.args.offsets.now (c.from-at.result + 1)
    ∷ offset_at_index c.args.offsets.now (c.from-at.result + 2) ∷ offset_at_index c.args.offsets.now (c.from-at.result + 3) ∷ [])
    c.from_offsets.result measured
    (each_of_four _
    (band_offset_of b c.args.offsets.now c.args.position 0 c.from-at.result each c.requires.position (omega arith) (omega (arith, c.from-at.ensures)))
    (band_offset_of b c.args.offsets.now c.args.position 1 (c.from-at.result + 1) each c.requires.position (omega arith) (omega (arith, c.from-at.ensures)))
    (band_offset_of b c.args.offsets.now c.args.position 2 (c.from-at.result + 2) each c.requires.position (omega arith) (omega (arith, c.from-at.ensures)))
    (band_offset_of b c.args.offsets.now c.args.position 3 (c.from-at.result + 3) each c.requires.position (omega arith) (omega (arith, c.from-at.ensures))))
    c.from_offsets.ensures.component c.from_offsets.ensures.squares c.from_offsets.ensures.bins
