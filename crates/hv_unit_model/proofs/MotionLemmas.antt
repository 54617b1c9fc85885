-- What is read of the bins of a prediction unit's motion is what was coded (7.3.8.6, 7.3.8.9).
use Rattle.std.proofs.Common.{◌≡◌, ℕ, zero, suc, ◌+◌, ◌-◌, ◌<◌, ◌≤◌, Bool, true, false, cond, [], ◌∷◌, ◌++◌, refl, sym, ap, ◌∙◌, subst, arith, ℤ, pos}
use Rattle.std.specs.Prelude.{nat_lt, nat_eq}
use Rattle.std.specs.Int.{is_negative}
use Rattle.std.specs.Int.RustNames.{unsigned_abs}
use Rattle.std.proofs.lemmas.Bool.{ltb-true, ltb-false}
use Rattle.hv_tables.specs.declared.bins.CtxTable.TheVariants.{RefIdx, MvdGreater1}
use Rattle.hv_plan.specs.declared.prediction.Mv.{Mv}
use Rattle.hv_stream_model.specs.Scripts.{Done, Ask, Reads, nothing, one, only_if}
use Rattle.hv_stream_model.proofs.ScriptLemmas.{reads_then, reads_map, where_true}
use Rattle.hv_residual_model.specs.UnitBins.{UnitScript, InBypass, unit_bin, context}
use Rattle.hv_residual_model.specs.Binarization.{exp_golomb_bins}
use Rattle.hv_residual_model.specs.ResidualSyntax.{with_sign}
use Rattle.hv_plan.specs.Levels.{has_16_bits, is_significant}
use Rattle.hv_tree_model.specs.Trees.{Motion}
use Rattle.hv_tree_model.specs.Validity.{IsMotion}
use Rattle.hv_unit_model.specs.BlockSyntax.{digit, abs_mvd_greater1_flag, mvd_magnitude, mvd_component, mvd_coding, prediction_unit}
use Rattle.hv_unit_model.specs.Bins.{bin, where_coded, greater1_bins, rest_bins, mvd_bins, prediction_unit_bins}
use Rattle.hv_residual_model.proofs.BinarizationLemmas.{reads_exp_golomb}
use Rattle.hv_unit_model.proofs.FlagLemmas.{reads_done, reads_where}
use Rattle.hv_unit_model.proofs.SignLemmas.{with_own_sign}
use Rattle.hv_tree_model.proofs.LevelLemmas.{small_magnitude, insignificant, significant_above_0}

-- ---- a component of a difference

signed : ℕ → UnitScript ℤ
signed magnitude =
    Ask InBypass (λ sign.
    only_if (has_16_bits (with_sign sign magnitude)) (Done (with_sign sign magnitude)))

reads_signed : (d : ℤ) → has_16_bits d ≡ true →
    Reads (signed (unsigned_abs d)) (unit_bin InBypass (is_negative d) ∷ []) d
unfolding signed
reads_signed d small =
    let own : with_sign (is_negative d) (unsigned_abs d) ≡ d = with_own_sign d in
    let fits : has_16_bits (with_sign (is_negative d) (unsigned_abs d)) ≡ true =
    ap has_16_bits own ∙ small in
    one (where_true _ fits (reads_done (with_sign (is_negative d) (unsigned_abs d)) d own))

-- abs_mvd_minus2 of a magnitude that isn't 0
reads_magnitude : (magnitude : ℕ) (greater : Bool) → nat_lt 1 magnitude ≡ greater →
    1 ≤ magnitude → magnitude ≤ 32768 →
    Reads (mvd_magnitude greater) (cond greater (exp_golomb_bins 32 1 (magnitude - 2)) [])
    magnitude
reads_magnitude magnitude true e least most =
    let above : 1 < magnitude = ltb-true 1 magnitude e in
    let whole : 2 + (magnitude - 2) ≡ magnitude = omega (arith, above) in
    subst (λ m. Reads (mvd_magnitude true) (exp_golomb_bins 32 1 (magnitude - 2)) m) whole
    (reads_map (λ m. 2 + m) (reads_exp_golomb 32 1 (magnitude - 2) (omega (arith, most))))
reads_magnitude magnitude false e least most =
    let not_above : magnitude ≤ 1 = ltb-false 1 magnitude e in
    let one_left : 1 ≡ magnitude = omega (arith, least, not_above) in
    subst (λ m. Reads (mvd_magnitude false) [] m) one_left nothing

component_by : (d : ℤ) (significant : Bool) → is_significant d ≡ significant →
    has_16_bits d ≡ true →
    Reads (mvd_component significant (nat_lt 1 (unsigned_abs d)))
    (cond significant
    (cond (nat_lt 1 (unsigned_abs d)) (exp_golomb_bins 32 1 (unsigned_abs d - 2)) [] ++
    unit_bin InBypass (is_negative d) ∷ [])
    [])
    d
unfolding signed
component_by d true e small =
    reads_then signed
    (reads_magnitude (unsigned_abs d) (nat_lt 1 (unsigned_abs d)) refl
    (significant_above_0 d e) (small_magnitude d small))
    (reads_signed d small)
component_by d false e small =
    reads_done (pos 0) d (insignificant d e)

reads_component : (d : ℤ) → has_16_bits d ≡ true →
    Reads (mvd_component (is_significant d) (nat_lt 1 (unsigned_abs d))) (rest_bins d) d
reads_component d small = component_by d (is_significant d) refl small

-- abs_mvd_greater1_flag
reads_greater1 : (d : ℤ) →
    Reads (abs_mvd_greater1_flag (is_significant d)) (greater1_bins d)
    (nat_lt 1 (unsigned_abs d))
reads_greater1 d =
    reads_where (context MvdGreater1 0) false (is_significant d) (nat_lt 1 (unsigned_abs d))
    (λ off. let zero_there : pos 0 ≡ d = insignificant d off in rw (sym zero_there) refl)

reads_mvd : (d : Mv) → has_16_bits d.x ≡ true → has_16_bits d.y ≡ true →
    Reads mvd_coding (mvd_bins d) d
unfolding mvd_coding mvd_bins
reads_mvd d x y =
    one (one
    (reads_then _ (reads_greater1 d.x)
    (reads_then _ (reads_greater1 d.y)
    (reads_then _ (reads_component d.x x)
    (reads_map (λ v. record { x = d.x; y = v }) (reads_component d.y y))))))

-- ---- a prediction unit

digit_of : (n : ℕ) → n < 2 → digit (nat_eq n 1) ≡ n
digit_of zero h = refl
digit_of (suc zero) h = refl
digit_of (suc (suc n)) h = absurd (omega (arith, h))

reference_by : (references reference : ℕ) (two : Bool) → nat_lt 1 references ≡ two →
    references ≤ 2 → reference < references →
    Reads (cond two (Ask (context RefIdx 0) (λ flag. Done (digit flag))) (Done 0))
    (where_coded two (bin RefIdx 0 (nat_eq reference 1))) reference
reference_by references reference true e most below =
    let few : reference < 2 = omega (arith, most, below) in
    one (reads_done (digit (nat_eq reference 1)) reference (digit_of reference few))
reference_by references reference false e most below =
    let one_left : references ≤ 1 = ltb-false 1 references e in
    reads_done 0 reference (omega (arith, one_left, below))

pub reads_prediction_unit : (references : ℕ) (motion : Motion) → IsMotion references motion →
    Reads (prediction_unit references) (prediction_unit_bins references motion) motion
unfolding prediction_unit prediction_unit_bins
reads_prediction_unit references motion valid =
    let made : ℕ → Motion = λ flag. record {
      ref_idx_l0 = motion.ref_idx_l0;
      mvp_l0_flag = flag;
      MvdL0 = motion.MvdL0;
    } in
    one
    (reads_then _
    (reference_by references motion.ref_idx_l0 (nat_lt 1 references) refl valid.most_references
    valid.reference)
    (reads_then _ (reads_mvd motion.MvdL0 valid.x valid.y)
    (one
    (reads_done (made (digit (nat_eq motion.mvp_l0_flag 1))) motion
    (ap made (digit_of motion.mvp_l0_flag valid.flag))))))
