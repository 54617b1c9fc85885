use Rattle.std.proofs.Common.{ap, ◌∙◌}
use Rattle.std.specs.Prelude.{ℤ}
use Rattle.std.specs.Int.{int_shr}
use Rattle.hv_intra.specs.References.{shift}
use Rattle.hv_intra.proofs.SignedLemmas.{shift_is, shifted_by_5}
use Rattle.hv_intra.proofs.reference.AngularMode.shift.Goals as goal

pub returns-clause-value : goal.returns-clause-value
unfolding shift
returns-clause-value c =
    shift_is c.way.result c.way.ensures.most ∙ ap (λ (z : ℤ). int_shr z 5) c.way.ensures.value

pub returns-clause-most : goal.returns-clause-most
returns-clause-most c =
    rw (shift_is c.way.result c.way.ensures.most) (shifted_by_5 c.way.result c.way.ensures.most)
