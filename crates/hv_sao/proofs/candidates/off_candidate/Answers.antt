use Rattle.std.proofs.Common.{replicate, pos}
use Rattle.hv_lemmas.proofs.ComputedLemmas.{each_of_four}
use Rattle.hv_plan.specs.declared.offsets.SaoKind.TheVariants.{Off}
use Rattle.hv_sao.proofs.CandidateLemmas.{candidate_is, off_each}
use Rattle.hv_sao.proofs.candidates.off_candidate.Goals as goal

pub returns : goal.returns
returns c = λ b measured.
    candidate_is b Off c.args.squares (replicate 4 (record { value = pos 0; growth = pos 0 })) c.from_offsets.result measured
    (each_of_four _ (off_each b 0) (off_each b 1) (off_each b 2) (off_each b 3))
    c.from_offsets.ensures.component c.from_offsets.ensures.squares c.from_offsets.ensures.bins
