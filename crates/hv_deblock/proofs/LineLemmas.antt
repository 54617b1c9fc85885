-- Lines behind the normal filter (8.7.2.5.7).
use Rattle.std.proofs.Common.{◌≡◌, ℕ, ◌*◌, ◌<◌, Bool, true, false, cond, nat_lt, ◌&&◌, refl, sym, ap, ◌∙◌, ℤ}
use Rattle.std.specs.Int.RustNames.{unsigned_abs}
use Rattle.hv_deblock_model.specs.declared.line.Line.{Line}
use Rattle.hv_deblock_model.specs.EdgeFilters.{clip_to, luma_step, stepped_line, normal_line}
use Rattle.hv_lemmas.proofs.ComparisonLemmas.{lt_below}

pub first_of_cond : {A : Type 0} (b : Bool) (x y : A) → b ≡ true → cond b x y ≡ x
first_of_cond b x y e = rw e refl

pub second_of_cond : {A : Type 0} (b : Bool) (x y : A) → b ≡ false → cond b x y ≡ y
second_of_cond b x y e = rw e refl

pub and_false : (b : Bool) → (b && false) ≡ false
and_false true = refl
and_false false = refl

-- where the step is small
pub normal_stepped : (tc : ℕ) (dEp dEq : Bool) (line new : Line) (step clipped : ℤ) → step ≡ luma_step line →
    unsigned_abs step < 10 * tc → clipped ≡ clip_to tc step → new ≡ stepped_line tc dEp dEq line clipped →
    new ≡ normal_line tc dEp dEq line
normal_stepped tc dEp dEq line new step clipped same few cut is =
    is ∙ ap (stepped_line tc dEp dEq line) (cut ∙ ap (clip_to tc) same)
    ∙ sym (first_of_cond (nat_lt (unsigned_abs (luma_step line)) (10 * tc)) _ line
    (sym (ap (λ z. nat_lt (unsigned_abs z) (10 * tc)) same) ∙ lt_below _ _ few))
