use Rattle.std.proofs.Common.{◌≡◌, ℕ, ◌≤◌, ◌∙◌, ap, sym, subst, arith, length, List, ℤ, map, take_all}
use Rattle.std.specs.Int.RustNames.{unsigned_abs}
use mir.Syntax.{w16}
use mir.Val.{of_z, to_z}
use lib.Lanes.{chunk}
use Rattle.hv_inter_model.specs.Interpolation.{weighted_sample}
use Rattle.hv_interp.specs.Lanes.{lane}
use Rattle.hv_interp.proofs.EightSumLemmas.{kept, small_fit}
use Rattle.hv_interp.proofs.lanes.round_16.Goals as goal

-- sixteen numbers are loaded as they are
loaded : (sums : List ℤ) → length sums ≡ 16 → ((j : ℕ) → unsigned_abs (lane sums j) ≤ 28560) →
    map (to_z w16) (map (of_z w16) (chunk 0 16 sums)) ≡ sums
loaded sums sixteen small =
    ap (λ l. map (to_z w16) (map (of_z w16) l)) (take_all 16 sums (omega (arith, sixteen))) ∙ kept sums (small_fit sums small)

pub put_16_samples-requires-clause-sixteen : goal.put_16_samples-requires-clause-sixteen
put_16_samples-requires-clause-sixteen c =
    ap (λ l. length l) (loaded c.args.sums.now c.requires.sixteen c.requires.range) ∙ c.requires.sixteen

pub put_16_samples-requires-clause-range : goal.put_16_samples-requires-clause-range
put_16_samples-requires-clause-range c =
    subst (λ l. (j : ℕ) → unsigned_abs (lane l j) ≤ 28560) (sym (loaded c.args.sums.now c.requires.sixteen c.requires.range)) c.requires.range

pub returns-clause-each : goal.returns-clause-each
returns-clause-each c j below =
    c.put_16_samples.ensures.each j below ∙
    ap (λ l. weighted_sample (lane l j)) (loaded c.args.sums.now c.requires.sixteen c.requires.range)
