-- What is read of the bins of a transform tree is what was coded (7.3.8.8, 7.3.8.10).
use Rattle.std.proofs.Common.{◌≡◌, ℕ, zero, suc, ◌-◌, ◌*◌, ◌^◌, ◌≤◌, Bool, true, false, cond, List, [], ◌∷◌, length, replicate, refl, sym, ap₂, subst, arith, append-nil, ℤ, pos}
use Rattle.std.specs.Prelude.{nat_lt, ◌&&◌, ◌||◌}
use Rattle.std.specs.List.{list_all}
use Rattle.hv_plan.specs.Levels.{has_16_bits, any_significant, is_significant}
use Rattle.std.proofs.lemmas.List.{length-replicate}
use Rattle.std.proofs.lemmas.Bool.{ltb-false, or_parts, and_from, true≢false}
use Rattle.hv_tables.specs.declared.bins.CtxTable.TheVariants.{CbfChroma}
use Rattle.hv_lemmas.specs.Booleans.{same}
use Rattle.hv_lemmas.proofs.BooleanLemmas.{same_self}
use Rattle.hv_stream_model.specs.Scripts.{Reads, nothing, one}
use Rattle.hv_stream_model.proofs.ScriptLemmas.{reads_then, reads_map, where_true}
use Rattle.hv_residual_model.specs.UnitBins.{UnitBin, context}
use Rattle.hv_residual_model.specs.ResidualBins.{residual_bins}
use Rattle.hv_residual_model.proofs.ResidualLemmas.{reads_residual}
use Rattle.hv_tree_model.specs.Trees.{Prediction, TransformUnit, greatest_size, log2TrafoSize, transform_units, no_levels, no_unit, no_units, any_cb, any_cr, any_level}
use Rattle.hv_tree_model.specs.Validity.{HaveLevels, IsTransformUnit, AreTransformUnits}
use Rattle.hv_unit_model.specs.BlockSyntax.{transform_block, is_intra, block_levels, luma_flag_at, has_luma_flag, transform_unit, quarters, four_quarters, transform_tree, rooted_tree}
use Rattle.hv_unit_model.specs.Bins.{block_bins, transform_unit_bins, quarters_bins, transform_tree_bins}
use Rattle.hv_unit_model.proofs.FlagLemmas.{reads_done, reads_where}
use Rattle.hv_tree_model.proofs.LevelLemmas.{insignificant}

or_false : (b : Bool) → b ≡ b || false
or_false true = refl
or_false false = refl

only_first : (a b c : Bool) → a || (b || (c || false)) ≡ true → b ≡ false → c ≡ false → true ≡ a
only_first true b c h off_b off_c = refl
only_first false true c h off_b off_c = off_b
only_first false false true h off_b off_c = off_c
only_first false false false h off_b off_c = sym h

-- ---- levels that are all 0

all_zero : (levels : List ℤ) → any_significant levels ≡ false →
    replicate (length levels) (pos 0) ≡ levels
all_zero [] none = refl
all_zero (level ∷ levels) none =
    let parts = or_parts (is_significant level) (any_significant levels) none in
    ap₂ (λ first others. first ∷ others) (insignificant level parts.0) (all_zero levels parts.1)

small_zeros : (n : ℕ) → list_all has_16_bits (replicate n (pos 0)) ≡ true
small_zeros zero = refl
small_zeros (suc n) = small_zeros n

nothing_there : (log2 : ℕ) (levels : List ℤ) → HaveLevels log2 levels →
    any_significant levels ≡ false → no_levels log2 ≡ levels
unfolding no_levels
nothing_there log2 levels valid none = rw (sym valid.whole) (all_zero levels none)

pub levels_of_nothing : (log2 : ℕ) → HaveLevels log2 (no_levels log2)
unfolding no_levels
levels_of_nothing log2 = record {
  whole = length-replicate _ _;
  small = small_zeros (2 ^ log2 * 2 ^ log2);
}

units_of_nothing : (log2 count : ℕ) →
    AreTransformUnits log2 count (replicate count (no_unit log2))
units_of_nothing log2 zero = tt
units_of_nothing log2 (suc count) =
    let t : IsTransformUnit log2 (no_unit log2) = record {
      luma = levels_of_nothing log2;
      cb = levels_of_nothing (log2 - 1);
      cr = levels_of_nothing (log2 - 1);
    } in
    (t, units_of_nothing log2 count)

-- a unit may have no level but 0
pub no_units_valid : (size : ℕ) →
    AreTransformUnits (log2TrafoSize size) (transform_units size) (no_units size)
unfolding no_units
no_units_valid size = units_of_nothing (log2TrafoSize size) (transform_units size)

no_level_of_unit : (log2 : ℕ) (t : TransformUnit) → IsTransformUnit log2 t →
    any_significant t.luma ≡ false → any_significant t.cb ≡ false →
    any_significant t.cr ≡ false → no_unit log2 ≡ t
no_level_of_unit log2 t valid luma cb cr = λ i. record {
  luma = nothing_there log2 t.luma valid.luma luma i;
  cb = nothing_there (log2 - 1) t.cb valid.cb cb i;
  cr = nothing_there (log2 - 1) t.cr valid.cr cr i;
}

no_level_of_units : (log2 count : ℕ) (units : List TransformUnit) →
    AreTransformUnits log2 count units → any_level units ≡ false →
    replicate count (no_unit log2) ≡ units
no_level_of_units log2 zero [] valid none = refl
no_level_of_units log2 zero (t ∷ units) valid none = absurd valid
no_level_of_units log2 (suc count) [] valid none = absurd valid
no_level_of_units log2 (suc count) (t ∷ units) valid none =
    let luma = or_parts (any_significant t.luma)
    (any_significant t.cb || (any_significant t.cr || any_level units)) none in
    let cb = or_parts (any_significant t.cb) (any_significant t.cr || any_level units) luma.1 in
    let cr = or_parts (any_significant t.cr) (any_level units) cb.1 in
    ap₂ (λ first others. first ∷ others) (no_level_of_unit log2 t valid.0 luma.0 cb.0 cr.0)
    (no_level_of_units log2 count units valid.1 cr.1)

-- a unit without levels
unit_free : (size : ℕ) (units : List TransformUnit) →
    AreTransformUnits (log2TrafoSize size) (transform_units size) units →
    any_level units ≡ false → no_units size ≡ units
unfolding no_units
unit_free size units valid none =
    no_level_of_units (log2TrafoSize size) (transform_units size) units valid none

-- ---- a transform unit

block_by : (prediction : Prediction) (log2 : ℕ) (is_luma : Bool) (levels : List ℤ)
    (value : Bool) → 2 ≤ log2 → log2 ≤ 5 → HaveLevels log2 levels →
    any_significant levels ≡ value →
    Reads (block_levels value (transform_block prediction log2 is_luma))
    (cond value (residual_bins (transform_block prediction log2 is_luma) levels) []) levels
unfolding block_levels
block_by prediction log2 is_luma levels true least most valid e =
    reads_residual (transform_block prediction log2 is_luma) levels (least, most)
    (record { whole = valid.whole; small = valid.small; some = e })
block_by prediction log2 is_luma levels false least most valid e =
    reads_done (no_levels log2) levels (nothing_there log2 levels valid e)

reads_block : (prediction : Prediction) (log2 : ℕ) (is_luma : Bool) (levels : List ℤ) →
    2 ≤ log2 → log2 ≤ 5 → HaveLevels log2 levels →
    Reads (block_levels (any_significant levels) (transform_block prediction log2 is_luma))
    (block_bins (transform_block prediction log2 is_luma) levels) levels
reads_block prediction log2 is_luma levels least most valid =
    block_by prediction log2 is_luma levels (any_significant levels) least most valid refl

-- cbf_luma is inferred only where it is 1
reads_unit : (prediction : Prediction) (log2 trafoDepth : ℕ) (t : TransformUnit) →
    3 ≤ log2 → log2 ≤ 5 → IsTransformUnit log2 t →
    (has_luma_flag prediction trafoDepth (any_significant t.cb) (any_significant t.cr) ≡ false →
    true ≡ any_significant t.luma) →
    Reads
    (transform_unit prediction log2 trafoDepth (any_significant t.cb) (any_significant t.cr))
    (transform_unit_bins prediction log2 trafoDepth t) t
unfolding transform_unit transform_unit_bins
reads_unit prediction log2 trafoDepth t least most valid inferred =
    let cb : Bool = any_significant t.cb in
    let cr : Bool = any_significant t.cr in
    let luma : Bool = any_significant t.luma in
    reads_then _
    (reads_where (luma_flag_at trafoDepth) true (has_luma_flag prediction trafoDepth cb cr) luma
    inferred)
    (reads_then _
    (reads_block prediction log2 true t.luma (omega (arith, least)) most valid.luma)
    (reads_then _
    (reads_block prediction (log2 - 1) false t.cb (omega (arith, least)) (omega (arith, most))
    valid.cb)
    (reads_map (λ v. record { luma = t.luma; cb = t.cb; cr = v })
    (reads_block prediction (log2 - 1) false t.cr (omega (arith, least)) (omega (arith, most))
    valid.cr))))

-- ---- the four of 64x64

-- at depth 1 cbf_luma is always coded
coded_at_1 : (prediction : Prediction) (cb cr : Bool) {A : Type 0} →
    has_luma_flag prediction 1 cb cr ≡ false → A
coded_at_1 prediction cb cr e =
    absurd (true≢false (or_parts (is_intra prediction) true e).1)

reads_quarters : (prediction : Prediction) (parent_cb parent_cr : Bool) (count : ℕ)
    (units : List TransformUnit) → AreTransformUnits 5 count units →
    (parent_cb ≡ false → any_cb units ≡ false) → (parent_cr ≡ false → any_cr units ≡ false) →
    Reads (quarters prediction parent_cb parent_cr count)
    (quarters_bins prediction parent_cb parent_cr units) units
unfolding quarters quarters_bins
reads_quarters prediction parent_cb parent_cr zero [] valid cb cr = nothing
reads_quarters prediction parent_cb parent_cr zero (t ∷ units) valid cb cr = absurd valid
reads_quarters prediction parent_cb parent_cr (suc count) [] valid cb cr = absurd valid
reads_quarters prediction parent_cb parent_cr (suc count) (t ∷ units) valid cb cr =
    reads_then _
    (reads_where (context CbfChroma 1) false parent_cb (any_significant t.cb)
    (λ off. sym (or_parts (any_significant t.cb) (any_cb units) (cb off)).0))
    (reads_then _
    (reads_where (context CbfChroma 1) false parent_cr (any_significant t.cr)
    (λ off. sym (or_parts (any_significant t.cr) (any_cr units) (cr off)).0))
    (reads_then _
    (reads_unit prediction 5 1 t (omega arith) (omega arith) valid.0
    (λ off. coded_at_1 prediction (any_significant t.cb) (any_significant t.cr) off))
    (reads_map (λ others. t ∷ others)
    (reads_quarters prediction parent_cb parent_cr count units valid.1
    (λ off. (or_parts (any_significant t.cb) (any_cb units) (cb off)).1)
    (λ off. (or_parts (any_significant t.cr) (any_cr units) (cr off)).1)))))

reads_four_quarters : (prediction : Prediction) (units : List TransformUnit) →
    AreTransformUnits 5 4 units →
    Reads (four_quarters prediction (any_cb units) (any_cr units))
    (quarters_bins prediction (any_cb units) (any_cr units) units) units
reads_four_quarters prediction units valid =
    let cb : Bool = any_cb units in
    let cr : Bool = any_cr units in
    let these : List UnitBin = quarters_bins prediction cb cr units in
    let agree : same cb cb && same cr cr ≡ true =
    and_from (same cb cb) (same cr cr) (same_self cb) (same_self cr) in
    subst (λ list. Reads (four_quarters prediction cb cr) list units) (append-nil these)
    (reads_then _ (reads_quarters prediction cb cr 4 units valid (λ off. off) (λ off. off))
    (where_true _ agree nothing))

-- ---- the transform tree

-- of one transform unit: cbf_luma is inferred only where it is 1
luma_alone : (prediction : Prediction) (t : TransformUnit) →
    (is_intra prediction ≡ false → any_level (t ∷ []) ≡ true) →
    has_luma_flag prediction 0 (any_significant t.cb) (any_significant t.cr) ≡ false →
    true ≡ any_significant t.luma
luma_alone prediction t some off =
    let cb : Bool = any_significant t.cb in
    let cr : Bool = any_significant t.cr in
    let parts = or_parts (is_intra prediction) (cb || cr) off in
    let chroma = or_parts cb cr parts.1 in
    only_first (any_significant t.luma) cb cr (some parts.0) chroma.0 chroma.1

-- its chroma flags, as those of a list of one
reads_single : (prediction : Prediction) (log2 : ℕ) (t : TransformUnit) →
    3 ≤ log2 → log2 ≤ 5 → IsTransformUnit log2 t →
    (is_intra prediction ≡ false → any_level (t ∷ []) ≡ true) →
    Reads (transform_unit prediction log2 0 (any_cb (t ∷ [])) (any_cr (t ∷ [])))
    (transform_unit_bins prediction log2 0 t) t
reads_single prediction log2 t least most valid some =
    let these : List UnitBin = transform_unit_bins prediction log2 0 t in
    subst (λ cb. Reads (transform_unit prediction log2 0 cb (any_cr (t ∷ []))) these t)
    (or_false (any_significant t.cb))
    (subst (λ cr. Reads (transform_unit prediction log2 0 (any_significant t.cb) cr) these t)
    (or_false (any_significant t.cr))
    (reads_unit prediction log2 0 t least most valid (luma_alone prediction t some)))

tree_by : (prediction : Prediction) (size : ℕ) (units : List TransformUnit) (below_64 : Bool) →
    nat_lt size greatest_size ≡ below_64 →
    AreTransformUnits (log2TrafoSize size) (cond below_64 1 4) units →
    (is_intra prediction ≡ false → any_level units ≡ true) →
    Reads (transform_tree prediction size) (transform_tree_bins prediction size units) units
unfolding transform_tree transform_tree_bins
tree_by prediction size [] true e valid some = absurd valid
tree_by prediction size (t ∷ u ∷ units) true e valid some = absurd valid.1
tree_by prediction size (t ∷ []) true e valid some =
    rw e
    (one (one
    (reads_map (λ unit. unit ∷ [])
    (reads_single prediction (log2TrafoSize size) t (omega arith) (omega arith) valid.0 some))))
tree_by prediction size units false e valid some =
    let large : 3 ≤ size = ltb-false size 3 e in
    let is_5 : log2TrafoSize size ≡ 5 = omega (arith, large) in
    rw e
    (one (one
    (reads_four_quarters prediction units
    (subst (λ log2. AreTransformUnits log2 4 units) is_5 valid))))

pub reads_transform_tree : (prediction : Prediction) (size : ℕ) (units : List TransformUnit) →
    AreTransformUnits (log2TrafoSize size) (transform_units size) units →
    (is_intra prediction ≡ false → any_level units ≡ true) →
    Reads (transform_tree prediction size) (transform_tree_bins prediction size units) units
reads_transform_tree prediction size units valid some =
    tree_by prediction size units (nat_lt size greatest_size) refl valid some

rooted_by : (prediction : Prediction) (size : ℕ) (units : List TransformUnit) (root : Bool) →
    any_level units ≡ root →
    AreTransformUnits (log2TrafoSize size) (transform_units size) units →
    Reads (rooted_tree prediction size root)
    (cond root (transform_tree_bins prediction size units) []) units
rooted_by prediction size units true e valid =
    let these : List UnitBin = transform_tree_bins prediction size units in
    subst (λ list. Reads (rooted_tree prediction size true) list units) (append-nil these)
    (reads_then _ (reads_transform_tree prediction size units valid (λ off. e))
    (where_true _ e nothing))
rooted_by prediction size units false e valid =
    reads_done (no_units size) units (unit_free size units valid e)

-- behind rqt_root_cbf
pub reads_rooted_tree : (prediction : Prediction) (size : ℕ) (units : List TransformUnit) →
    AreTransformUnits (log2TrafoSize size) (transform_units size) units →
    Reads (rooted_tree prediction size (any_level units))
    (cond (any_level units) (transform_tree_bins prediction size units) []) units
reads_rooted_tree prediction size units valid =
    rooted_by prediction size units (any_level units) refl valid
