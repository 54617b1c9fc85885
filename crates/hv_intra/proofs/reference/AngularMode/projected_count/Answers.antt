use Rattle.std.proofs.Common.{◌≡◌, ◌≤◌, ◌-◌, ◌^◌, ap, sym, ◌∙◌, arith, ℕ}
use Rattle.std.specs.Prelude.{ℤ}
use Rattle.std.specs.Int.RustNames.{unsigned_abs}
use Rattle.hv_intra.specs.References.{shift}
use Rattle.hv_lemmas.proofs.SignedLemmas.{passed_small}
use Rattle.hv_intra.proofs.FactLemmas.{shift_some, projected_count_is, projected_count_none}
use Rattle.hv_intra.proofs.reference.AngularMode.projected_count.Goals as goal

size_is : (n side mode : ℕ) (s : ℤ) (size : ℕ) → size ≡ unsigned_abs s → s ≡ shift mode (side - 1) → side ≡ n →
    size ≡ unsigned_abs (shift mode (n - 1))
size_is n side mode s size e f g = e ∙ ap unsigned_abs f ∙ ap (λ (m : ℕ). unsigned_abs (shift mode (m - 1))) g

pub overflow_sub-result : goal.overflow_sub-result
overflow_sub-result c =
    let small : unsigned_abs c.shift.result ≤ 32 = c.shift.ensures.most in
    let e = size_is (2 ^ c.args.side.log2) c.count.result c.args.self.number c.shift.result c.unsigned_abs.result
    (c.unsigned_abs.ensures.value ∙ ap unsigned_abs (passed_small c.shift.result (omega arith)))
    c.shift.ensures.value c.count.ensures.value in
    let some = shift_some c.args.side.log2 c.args.self.number c.args.side.least c.args.side.most c.if-self-ge11.true c.if-self-le25.true in
    omega (arith, e, some)

pub returns-then-self-le25 : goal.returns-then-self-le25
returns-then-self-le25 c =
    let small : unsigned_abs c.shift.result ≤ 32 = c.shift.ensures.most in
    let e = size_is (2 ^ c.args.side.log2) c.count.result c.args.self.number c.shift.result c.unsigned_abs.result
    (c.unsigned_abs.ensures.value ∙ ap unsigned_abs (passed_small c.shift.result (omega arith)))
    c.shift.ensures.value c.count.ensures.value in
    ap (λ (size : ℕ). size - 1) e ∙
    sym (projected_count_is c.args.side.log2 c.args.self.number c.if-self-ge11.true c.if-self-le25.true)

pub returns-else-self-ge11 : goal.returns-else-self-ge11
returns-else-self-ge11 c = sym (projected_count_none c.args.side.log2 c.args.self.number c.else-self-ge11.either)
