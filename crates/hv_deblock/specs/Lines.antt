-- Lines of which the outer samples stay.
use Rattle.std.specs.Prelude.{◌≡◌, ℕ, ◌-◌, ◌%◌, ◌+◌, ◌<◌}
use Rattle.hv_deblock_model.specs.declared.line.Line.{Line}
use Rattle.hv_deblock_model.specs.Deblocking.{Samples, line_at, line_sample}

-- so many samples at each end of a line are as before
abbrev pub KeepsOuter : ℕ → Line → Line → Type 0
KeepsOuter margin old new = (i : ℕ) → i < margin →
    (line_sample new i ≡ line_sample old i) × (line_sample new (7 - i) ≡ line_sample old (7 - i))

-- the samples of rows across edge k, where each row becomes `after` of it
abbrev pub lines_after : (Line → Line) → ℕ → Samples → Samples
lines_after after k samples x y = line_sample (after (line_at samples k y)) ((x + 4) % 8)
