use Rattle.std.proofs.Common.{◌≡◌, ap, ◌∙◌, arith, nat_abs, pos, rules}
use Rattle.std.proofs.lemmas.Int.{ints}
use mir.Syntax.{w32}
use mir.Val.{to_z, of_z, SFits}
use Rattle.hv_lemmas.specs.Clipping.{clip3}
use Rattle.hv_plain.proofs.SignedLemmas.{passed}
use Rattle.hv_plain.proofs.variables.pre_ctx_state.Goals as goal

pub returns-clause-value : goal.returns-clause-value
returns-clause-value c =
    let r : to_z w32 (of_z w32 c.clip3.result) ≡ c.clip3.result = omega (arith, ints) in
    let f : SFits w32 c.unclipped.result = search rules in
    let e : c.clip3.result ≡ clip3 (pos 1) (pos 126) c.unclipped.result =
    passed (clip3 (pos 1) (pos 126)) c.unclipped.result c.clip3.result f c.clip3.ensures.value in
    ap nat_abs (r ∙ e ∙ ap (clip3 (pos 1) (pos 126)) c.unclipped.ensures)
