use Rattle.std.proofs.Common.{◌≡◌, ℕ, ◌+◌, ◌-◌, ◌*◌, ◌/◌, ◌^◌, ℤ, pos, ◌*ℤ◌, ◌∙◌, ap, arith, rules, w32, slice_index_or}
use Rattle.std.proofs.lemmas.Int.{to_z-of_z}
use Rattle.std.specs.Int.RustNames.{FitsSigned}
use mir.Syntax.{w16}
use Rattle.hv_lemmas.specs.Clipping.{clip16}
use Rattle.hv_sample_model.specs.Quantisation.{rounded}
use Rattle.hv_sample_model.specs.InverseTransform.{scaled}
use Rattle.hv_tables.specs.Quantisers.{levelScale}
use Rattle.hv_transform.proofs.ScaleLemmas.{scaled_is}
use Rattle.hv_lanes.proofs.ListLemmas.{map_is, Have16Bits-clipped}
use Rattle.hv_lanes.proofs.PlaceLemmas.{HasFirst-set}
use Rattle.hv_transform.proofs.scaling.scale.Goals as goal

pub loop-i-preserved : goal.loop-i-preserved
loop-i-preserved c =
    let level : ℤ = slice_index_or c.args.levels.now c.loop-i.i (pos 0) in
    let by : ℤ → ℕ → ℕ → ℤ = λ l f s. clip16 (rounded (l *ℤ pos f) s) in
    let narrow : FitsSigned w16 level = search rules in
    let fits : FitsSigned w32 c.scaled_by.result = search rules in
    let shift : c.from-shift.result - 1 ≡ c.args.log2 - 1 = omega arith in
    let factor : ℕ = levelScale c.args.qp * 2 ^ (c.args.qp / 6) in
    let value : c.scaled_by.result ≡ scaled c.args.log2 c.args.qp level =
    c.scaled_by.ensures ∙
    ap (λ l. by l c.factor_of-factor.result (c.from-shift.result - 1)) (to_z-of_z w16 level narrow) ∙
    ap (λ f. by level f (c.from-shift.result - 1)) c.factor_of-factor.ensures.value ∙
    ap (λ s. by level factor s) shift ∙ scaled_is c.args.log2 c.args.qp level c.requires.least in
    HasFirst-set c.loop-i.i (λ k. scaled c.args.log2 c.args.qp (slice_index_or c.args.levels.now k (pos 0))) c.loop-i.out _ (omega arith) c.loop-i.invariant
    (to_z-of_z w32 c.scaled_by.result fits ∙ value)

pub returns-clause-value : goal.returns-clause-value
returns-clause-value c =
    map_is (scaled c.args.log2 c.args.qp) c.args.levels.now c.loop-i.out c.loop-i.i (omega arith) (omega arith) c.loop-i.invariant

pub returns-clause-range : goal.returns-clause-range
returns-clause-range c =
    let factor : ℕ = 16 * levelScale c.args.qp * 2 ^ (c.args.qp / 6) in
    Have16Bits-clipped (λ k. rounded (slice_index_or c.args.levels.now k (pos 0) *ℤ pos factor) (c.args.log2 + 3)) c.loop-i.out c.loop-i.i (omega arith) c.loop-i.invariant
