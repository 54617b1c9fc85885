use Rattle.std.proofs.Common.{◌≡◌, ℤ, pos, ◌+ℤ◌, ◌*ℤ◌, ◌∙◌, ap₂, ap, arith, rules}
use Rattle.std.proofs.lemmas.Int.{ints}
use Rattle.std.specs.Int.{int_shr}
use mir.Syntax.{w32}
use mir.Val.{to_z, of_z, SFits}
use Rattle.hv_plain.proofs.SignedLemmas.{passed}
use Rattle.hv_plain.proofs.variables.unclipped.Goals as goal

pub returns : goal.returns
returns c =
    let f : SFits w32 c.slope.result = search rules in
    let g : SFits w32 c.scaled.result = search rules in
    let m : c.scaled.result ≡ c.slope.result *ℤ pos c.args.qp =
    passed (λ x. x *ℤ pos c.args.qp) c.slope.result c.scaled.result f c.scaled.ensures in
    let s : c.sixteenth.result ≡ int_shr c.scaled.result 4 =
    passed (λ x. int_shr x 4) c.scaled.result c.sixteenth.result g c.sixteenth.ensures.value in
    let x : ℤ = to_z w32 (of_z w32 c.sixteenth.result) in
    let y : ℤ = to_z w32 (of_z w32 c.offset.result) in
    let sum : to_z w32 (of_z w32 (x +ℤ y)) ≡ c.sixteenth.result +ℤ c.offset.result =
    omega (arith, ints) in
    let t : c.sixteenth.result ≡ int_shr (c.slope.result *ℤ pos c.args.qp) 4 =
    s ∙ ap (λ x. int_shr x 4) m in
    let u = t ∙ ap (λ m. int_shr (m *ℤ pos c.args.qp) 4) c.slope.ensures.value in
    sum ∙ ap₂ (λ a b. a +ℤ b) u c.offset.ensures.value
