use Rattle.std.proofs.Common.{[], ◌∷◌}
use Rattle.hv_lemmas.proofs.ComputedLemmas.{each_of_four}
use Rattle.hv_plan.specs.declared.offsets.SaoKind.TheVariants.{Edge}
use Rattle.hv_sao.proofs.CandidateLemmas.{candidate_is}
use Rattle.hv_sao.proofs.candidates.edge_candidate.Goals as goal

pub returns : goal.returns
returns c = λ b counted.
    candidate_is b (Edge c.args.class) c.args.squares (c.edge_offset.result ∷ c.edge_offset-2.result ∷ c.edge_offset-3.result ∷ c.edge_offset-4.result ∷ []) c.from_offsets.result
    counted.measured
    (each_of_four _ (c.edge_offset.ensures.value c.args.class b c.args.squares counted) (c.edge_offset-2.ensures.value c.args.class b c.args.squares counted) (c.edge_offset-3.ensures.value c.args.class b c.args.squares counted) (c.edge_offset-4.ensures.value c.args.class b c.args.squares counted))
    c.from_offsets.ensures.component c.from_offsets.ensures.squares c.from_offsets.ensures.bins
