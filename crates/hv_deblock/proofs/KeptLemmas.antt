-- Each filter leaves the outer samples of a line (8.7.2.5.7, 8.7.2.5.8).
use Rattle.std.proofs.Common.{ℕ, zero, suc, Bool, true, false, cond, nat_lt, ◌*◌, ℤ, refl, arith}
use Rattle.std.specs.Int.RustNames.{unsigned_abs}
use Rattle.hv_deblock_model.specs.declared.line.Line.{Line}
use Rattle.hv_deblock_model.specs.EdgeFilters.{strong_line, clip_to, luma_step, stepped_line, normal_line, chroma_line}
use Rattle.hv_deblock.specs.Lines.{KeepsOuter}

pub strong_keeps : (tc : ℕ) (line : Line) → KeepsOuter 1 line (strong_line tc line)
strong_keeps tc line zero less = (refl, refl)
strong_keeps tc line (suc i) less = absurd (omega arith)

either_keeps : (margin : ℕ) (b : Bool) (line new : Line) → KeepsOuter margin line new →
    KeepsOuter margin line (cond b new line)
either_keeps margin true line new kept = kept
either_keeps margin false line new kept = λ i less. (refl, refl)

stepped_keeps : (tc : ℕ) (dEp dEq : Bool) (line : Line) (step : ℤ) →
    KeepsOuter 2 line (stepped_line tc dEp dEq line step)
stepped_keeps tc dEp dEq line step zero less = (refl, refl)
stepped_keeps tc dEp dEq line step (suc zero) less = (refl, refl)
stepped_keeps tc dEp dEq line step (suc (suc i)) less = absurd (omega arith)

pub normal_keeps : (tc : ℕ) (dEp dEq : Bool) (line : Line) →
    KeepsOuter 2 line (normal_line tc dEp dEq line)
normal_keeps tc dEp dEq line =
    either_keeps 2 (nat_lt (unsigned_abs (luma_step line)) (10 * tc)) line
    (stepped_line tc dEp dEq line (clip_to tc (luma_step line)))
    (stepped_keeps tc dEp dEq line (clip_to tc (luma_step line)))

pub chroma_keeps : (tc : ℕ) (line : Line) → KeepsOuter 3 line (chroma_line tc line)
chroma_keeps tc line zero less = (refl, refl)
chroma_keeps tc line (suc zero) less = (refl, refl)
chroma_keeps tc line (suc (suc zero)) less = (refl, refl)
chroma_keeps tc line (suc (suc (suc i))) less = absurd (omega arith)
