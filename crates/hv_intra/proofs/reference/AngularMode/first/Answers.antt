use Rattle.std.proofs.Common.{◌≡◌, ◌+◌, ap, ap₂, sym, ◌∙◌, arith, ℕ}
use Rattle.std.specs.Prelude.{ℤ, pos, ◌+ℤ◌}
use Rattle.std.specs.Int.RustNames.{unsigned_abs}
use Rattle.hv_intra.specs.References.{first}
use Rattle.hv_intra.proofs.SignedLemmas.{first_is}
use Rattle.hv_intra.proofs.FactLemmas.{row_facts}
use Rattle.hv_intra.proofs.SideLemmas.{side_few}
use Rattle.hv_intra.proofs.reference.AngularMode.first.Goals as goal

pub overflow_cast-result-2 : goal.overflow_cast-result-2
overflow_cast-result-2 c =
    let f = row_facts c.args.side.log2 c.args.self.number c.args.across c.args.side.least c.args.side.most c.args.self.first c.args.self.last c.requires in
    let few = side_few c.args.side.log2 c.args.side.least c.args.side.most in
    let e : pos (c.count.result + 1) +ℤ c.shift.result ≡ pos (first c.args.side.log2 c.args.self.number c.args.across) =
    ap₂ (λ (n : ℕ) (s : ℤ). pos (n + 1) +ℤ s) c.count.ensures.value c.shift.ensures.value ∙ sym f.is in
    rw (first_is c.count.result c.shift.result c.count.ensures.most c.shift.ensures.most, e)
    (tt, omega (arith, f.most, few))

pub returns : goal.returns
unfolding first
returns c =
    ap unsigned_abs (first_is c.count.result c.shift.result c.count.ensures.most c.shift.ensures.most) ∙
    ap₂ (λ (n : ℕ) (s : ℤ). unsigned_abs (pos (n + 1) +ℤ s)) c.count.ensures.value c.shift.ensures.value
