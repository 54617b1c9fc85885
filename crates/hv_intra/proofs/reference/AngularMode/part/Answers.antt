use Rattle.std.proofs.Common.{◌<◌, ap, ◌∙◌, arith}
use Rattle.std.specs.Prelude.{ℤ, pos}
use Rattle.std.specs.Int.{int_rem_euclid}
use Rattle.std.specs.Int.RustNames.{unsigned_abs}
use Rattle.hv_intra.specs.References.{part}
use Rattle.hv_lemmas.proofs.SignedLemmas.{passed_small}
use Rattle.hv_intra.proofs.reference.AngularMode.part.Goals as goal

pub returns-clause-value : goal.returns-clause-value
unfolding part
returns-clause-value c =
    let below : unsigned_abs c.rem_euclid.result < 32 = c.rem_euclid.ensures.upper_bound in
    ap unsigned_abs (passed_small c.rem_euclid.result (omega arith) ∙ c.rem_euclid.ensures.value) ∙
    ap (λ (z : ℤ). unsigned_abs (int_rem_euclid z (pos 32)))
    (passed_small c.way.result (omega (arith, c.way.ensures.most)) ∙ c.way.ensures.value)
