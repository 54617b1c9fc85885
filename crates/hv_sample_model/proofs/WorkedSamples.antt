-- Worked residuals and levels of transform blocks (8.6).
use Rattle.std.proofs.Common.{◌≡◌, refl, true, List, ◌∷◌, replicate, pos, ℤ}
use Rattle.hv_sample_model.specs.InverseTransform.{scaled, residual}
use Rattle.hv_sample_model.specs.Quantisation.{transformed, levels}
use Rattle.hv_sample_model.specs.Blocks.{sum_of, total_of}
use Rattle.hv_lemmas.specs.Lists.{tabulate}

-- a flat residual of 10 in a block of 8x8, at quantiser 32
abbrev pub flat : List ℤ
flat = replicate 64 (pos 10)

flat_coefficients : transformed 3 flat ≡ pos 1280 ∷ replicate 63 (pos 0)
unfolding tabulate sum_of total_of
flat_coefficients = refl

flat_levels : levels 3 32 true flat ≡ pos 3 ∷ replicate 63 (pos 0)
unfolding tabulate sum_of total_of levels
flat_levels = refl

flat_scaled : scaled 3 32 (pos 3) ≡ pos 1224
unfolding tabulate sum_of total_of
flat_scaled = refl

flat_again : residual 3 32 (pos 3 ∷ replicate 63 (pos 0)) ≡ flat
unfolding tabulate sum_of total_of residual
flat_again = refl
