-- Lines across edges, known by their samples.
use Rattle.std.proofs.Common.{◌≡◌, ℕ, ◌+◌, ◌-◌, ◌*◌, ◌<◌, ◌≤◌, ap₂, arith}
use Rattle.hv_deblock_model.specs.declared.line.Side.{Side}
use Rattle.hv_deblock_model.specs.declared.line.Line.{Line}
use Rattle.hv_deblock_model.specs.Deblocking.{Samples, line_at}

abbrev side_of : ℕ → ℕ → ℕ → ℕ → Side
side_of a b c d = record { s0 = a; s1 = b; s2 = c; s3 = d }

side_same : (a b c d e f g h : ℕ) → a ≡ e → b ≡ f → c ≡ g → d ≡ h →
    side_of a b c d ≡ side_of e f g h
side_same a b c d e f g h e₁ e₂ e₃ e₄ = cc

abbrev pub line_of : Side → Side → Line
line_of p q = record { p = p; q = q }

-- a line is known by its eight samples
pub line_same : (s t : Samples) (k y : ℕ) → 0 < k →
    ((x : ℕ) → 8 * k - 4 ≤ x → x < 8 * k + 4 → s x y ≡ t x y) → line_at s k y ≡ line_at t k y
line_same s t k y some same =
    ap₂ line_of
    (side_same _ _ _ _ _ _ _ _
    (same (8 * k - 1) (omega arith) (omega arith)) (same (8 * k - 2) (omega arith) (omega arith))
    (same (8 * k - 3) (omega arith) (omega arith)) (same (8 * k - 4) (omega arith) (omega arith)))
    (side_same _ _ _ _ _ _ _ _
    (same (8 * k) (omega arith) (omega arith)) (same (8 * k + 1) (omega arith) (omega arith))
    (same (8 * k + 2) (omega arith) (omega arith)) (same (8 * k + 3) (omega arith) (omega arith)))
