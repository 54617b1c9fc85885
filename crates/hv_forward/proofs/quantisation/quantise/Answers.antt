use Rattle.std.proofs.Common.{◌≡◌, ℕ, ◌+◌, ◌-◌, ◌*◌, ◌/◌, ◌^◌, ℤ, pos, ◌∙◌, ap, arith, rules, w32, slice_index_or}
use Rattle.std.proofs.lemmas.Int.{to_z-of_z}
use Rattle.std.specs.Int.RustNames.{FitsSigned, unsigned_abs}
use mir.Syntax.{w16}
use Rattle.hv_lemmas.specs.Clipping.{clip16}
use Rattle.hv_sample_model.specs.Quantisation.{quantised, with_sign_of, offset_of_kind, quantisation_shift}
use Rattle.hv_tables.specs.Quantisers.{quantisation_factor}
use Rattle.hv_lanes.proofs.PartLemmas.{numbers_by, clip_fits}
use Rattle.hv_lanes.proofs.ListLemmas.{map_is}
use Rattle.hv_forward.specs.Levels.{level_by}
use Rattle.hv_forward.proofs.LevelLemmas.{eight_more}
use Rattle.hv_lanes.proofs.PlaceLemmas.{HasFirst-set}
use Rattle.hv_forward.proofs.quantisation.quantise.Goals as goal

pub loop-g-preserved : goal.loop-g-preserved
loop-g-preserved c = λ k below.
    let by : ℕ → ℕ → ℕ → ℤ → ℤ = λ f o s z. level_by f o s z in
    let shift : c.from-shift.result ≡ quantisation_shift c.args.log2 c.args.qp = omega arith in
    let factor : c.from-factor.result ≡ quantisation_factor c.args.qp = omega (arith, c.quantisation_factor.ensures.value) in
    let kind : ℕ = offset_of_kind c.args.intra in
    eight_more c.loop-g.g _ (by c.from-factor.result c.offset_of-offset.result c.from-shift.result) (quantised c.args.log2 c.args.qp c.args.intra) c.args.coefficients.now c.loop-g.out c.quantise_eight.new.out
    (omega arith) (omega arith)
    (λ z.
    ap (λ f. by f c.offset_of-offset.result c.from-shift.result z) factor ∙
    ap (λ o. by (quantisation_factor c.args.qp) o c.from-shift.result z) c.offset_of-offset.ensures.value ∙
    ap (λ s. by (quantisation_factor c.args.qp) (kind * 2 ^ (s - 9)) s z) shift)
    c.loop-g.invariant c.quantise_eight.ensures k (omega (arith, below))

pub loop-i-preserved : goal.loop-i-preserved
loop-i-preserved c =
    let number : ℤ = slice_index_or c.args.coefficients.now c.loop-i.i (pos 0) in
    let by : ℤ → ℕ → ℕ → ℕ → ℤ = λ z f o s. clip16 (with_sign_of z ((unsigned_abs z * f + o) / 2 ^ s)) in
    let wide : FitsSigned w32 number = search rules in
    let fits : FitsSigned w16 c.quantised_by.result = search rules in
    let shift : c.from-shift.result ≡ quantisation_shift c.args.log2 c.args.qp = omega arith in
    let factor : c.from-factor.result ≡ quantisation_factor c.args.qp = omega (arith, c.quantisation_factor.ensures.value) in
    let kind : ℕ = offset_of_kind c.args.intra in
    let value : c.quantised_by.result ≡ quantised c.args.log2 c.args.qp c.args.intra number =
    c.quantised_by.ensures ∙
    ap (λ z. by z c.from-factor.result c.offset_of-offset.result c.from-shift.result) (to_z-of_z w32 number wide) ∙
    ap (λ f. by number f c.offset_of-offset.result c.from-shift.result) factor ∙
    ap (λ o. by number (quantisation_factor c.args.qp) o c.from-shift.result) c.offset_of-offset.ensures.value ∙
    ap (λ s. by number (quantisation_factor c.args.qp) (kind * 2 ^ (s - 9)) s) shift in
    HasFirst-set c.loop-i.i (λ k. quantised c.args.log2 c.args.qp c.args.intra (slice_index_or c.args.coefficients.now k (pos 0))) c.loop-i.out _ (omega arith) c.loop-i.invariant
    (to_z-of_z w16 c.quantised_by.result fits ∙ value)

pub have_other_than_0-requires : goal.have_other_than_0-requires
have_other_than_0-requires c =
    record {
      numbers = numbers_by c.loop-i.i (λ k. quantised c.args.log2 c.args.qp c.args.intra (slice_index_or c.args.coefficients.now k (pos 0))) c.loop-i.out (omega arith) c.loop-i.invariant
          (λ k. clip_fits (with_sign_of (slice_index_or c.args.coefficients.now k (pos 0))
          ((unsigned_abs (slice_index_or c.args.coefficients.now k (pos 0)) * quantisation_factor c.args.qp + offset_of_kind c.args.intra * 2 ^ (quantisation_shift c.args.log2 c.args.qp - 9)) / 2 ^ quantisation_shift c.args.log2 c.args.qp)));
    }

pub returns-clause-value : goal.returns-clause-value
returns-clause-value c =
    map_is (quantised c.args.log2 c.args.qp c.args.intra) c.args.coefficients.now c.loop-i.out c.loop-i.i (omega arith) (omega arith) c.loop-i.invariant
