-- What is read of the bins of sample adaptive offsets is what was coded (7.3.8.3).
use Rattle.std.proofs.Common.{◌≡◌, ℕ, zero, suc, ◌<◌, ◌≤◌, Bool, true, false, List, [], ◌∷◌, ◌++◌, length, refl, ap₂, subst, arith, ℤ, pos, negsuc, map, append-nil}
use Rattle.std.specs.Prelude.{int_le, replicate}
use Rattle.std.specs.Int.RustNames.{unsigned_abs}
use Rattle.std.proofs.lemmas.Bool.{and_parts, leb-true, eqb-true, false≢true}
use Rattle.hv_plan.specs.declared.offsets.SaoKind.{SaoKind}
use Rattle.hv_plan.specs.declared.offsets.SaoKind.TheVariants.{Off, Band, Edge}
use Rattle.hv_lemmas.proofs.ComparisonLemmas.{lt_zero}
use Rattle.hv_stream_model.specs.Scripts.{Done, Reads, nothing, one}
use Rattle.hv_stream_model.proofs.ScriptLemmas.{reads_then, reads_map}
use Rattle.hv_residual_model.specs.UnitBins.{UnitBin, UnitScript}
use Rattle.hv_residual_model.specs.Binarization.{fixed_length, fixed_length_bins, bypass_at}
use Rattle.hv_residual_model.specs.ResidualSyntax.{with_sign}
use Rattle.hv_residual_model.specs.ResidualBins.{signs, sign_bins}
use Rattle.hv_tree_model.specs.Sites.{has_left, has_above}
use Rattle.hv_tree_model.specs.Validity.{Range, is_in, are_in, either_way, raising, lowering, no_change, ranges_of, IsKind, go_together}
use Rattle.hv_unit_model.specs.BlockSyntax.{merge_flag, sao_type_idx, sao_type_at, sao_offset_abs, sao_offset_sign, edge_signs, with_signs, component, off_component, band_component, edge_component, component_of_type, component_like, sao}
use Rattle.hv_unit_model.specs.Bins.{merge_bins, type_of, sao_type_bins, offsets_abs_bins, class_bins, component_bins, cr_bins, sao_bins}
use Rattle.hv_unit_model.specs.UnitLaws.{OffsetsAreReadBack}
use Rattle.hv_residual_model.proofs.BinarizationLemmas.{reads_small_number, reads_truncated_unary}

-- ---- ranges

within : (o : ℤ) → is_in either_way o ≡ true → unsigned_abs o ≤ 7
within (pos n) h = leb-true n 7 h
within (negsuc n) h =
    let e = leb-true n 6 (and_parts (int_le (negsuc 6) (negsuc n)) true h).0 in omega (arith, e)

raised_up : (o : ℤ) → is_in raising o ≡ true →
    (unsigned_abs o ≤ 7) × (with_sign false (unsigned_abs o) ≡ o)
raised_up (pos n) h = (
  leb-true n 7 (and_parts (int_le (pos 0) (pos n)) (int_le (pos n) (pos 7))
      h).1,
  refl,
)
raised_up (negsuc n) h = cc

lowered : (o : ℤ) → is_in lowering o ≡ true → (unsigned_abs o ≤ 7) ×
    (with_sign true (unsigned_abs o) ≡ o)
lowered (pos zero) h = (omega arith, refl)
lowered (pos (suc n)) h =
    let e = leb-true (suc n) 0 (and_parts true (int_le (pos (suc n)) (pos 0)) h).1 in
    absurd (omega (arith, e))
lowered (negsuc n) h =
    let e = leb-true n 6 (and_parts (int_le (negsuc 6) (negsuc n)) true h).0 in
    (omega (arith, e), refl)

unchanged : (o : ℤ) → is_in no_change o ≡ true → pos 0 ≡ o
unchanged (pos zero) h = refl
unchanged (pos (suc n)) h =
    let e = leb-true (suc n) 0 (and_parts (int_le (pos 0) (pos (suc n)))
    (int_le (pos (suc n)) (pos 0)) h).1 in
    absurd (omega (arith, e))
unchanged (negsuc n) h = cc

-- so many offsets of at most 7
abbrev pub AreSmall : ℕ → List ℤ → Type 0
AreSmall zero [] = Unit {0}
AreSmall zero (o ∷ offsets) = ⊥
AreSmall (suc n) [] = ⊥
AreSmall (suc n) (o ∷ offsets) = (unsigned_abs o ≤ 7) × AreSmall n offsets

abbrev pub KeepSmall : List Range → Type 0
KeepSmall [] = Unit {0}
KeepSmall (range ∷ ranges) =
    ((o : ℤ) → is_in range o ≡ true → unsigned_abs o ≤ 7) × KeepSmall ranges

small_offsets : (ranges : List Range) (offsets : List ℤ) → KeepSmall ranges →
    are_in ranges offsets ≡ true → AreSmall (length ranges) offsets
small_offsets [] [] keep h = tt
small_offsets [] (o ∷ offsets) keep h = absurd (false≢true h)
small_offsets (range ∷ ranges) [] keep h = absurd (false≢true h)
small_offsets (range ∷ ranges) (o ∷ offsets) keep h =
    let parts = and_parts (is_in range o) (are_in ranges offsets) h in
    (keep.0 o parts.0, small_offsets ranges offsets keep.1 parts.1)

-- so many that are 0
zero_offsets : (n : ℕ) (offsets : List ℤ) → are_in (replicate n no_change) offsets ≡ true →
    replicate n (pos 0) ≡ offsets
zero_offsets zero [] h = refl
zero_offsets zero (o ∷ offsets) h = absurd (false≢true h)
zero_offsets (suc n) [] h = absurd (false≢true h)
zero_offsets (suc n) (o ∷ offsets) h =
    let parts = and_parts (is_in no_change o) (are_in (replicate n no_change) offsets) h in
    ap₂ (λ first others. first ∷ others) (unchanged o parts.0)
    (zero_offsets n offsets parts.1)

-- those whose signs are known
abbrev pub HaveSigns : List Bool → List Range → Type 0
HaveSigns [] [] = Unit {0}
HaveSigns [] (range ∷ ranges) = ⊥
HaveSigns (sign ∷ signs) [] = ⊥
HaveSigns (sign ∷ signs) (range ∷ ranges) =
    ((o : ℤ) → is_in range o ≡ true → with_sign sign (unsigned_abs o) ≡ o) × HaveSigns signs ranges

known_signs : (signs : List Bool) (ranges : List Range) (offsets : List ℤ) →
    HaveSigns signs ranges → are_in ranges offsets ≡ true →
    with_signs signs (map unsigned_abs offsets) ≡ offsets
known_signs [] [] [] have h = refl
known_signs [] [] (o ∷ offsets) have h = absurd (false≢true h)
known_signs [] (range ∷ ranges) offsets have h = absurd have
known_signs (sign ∷ signs) [] offsets have h = absurd have
known_signs (sign ∷ signs) (range ∷ ranges) [] have h = absurd (false≢true h)
known_signs (sign ∷ signs) (range ∷ ranges) (o ∷ offsets) have h =
    let parts = and_parts (is_in range o) (are_in ranges offsets) h in
    ap₂ (λ first others. first ∷ others) (have.0 o parts.0)
    (known_signs signs ranges offsets have.1 parts.1)

small_bands : (offsets : List ℤ) →
    are_in (either_way ∷ either_way ∷ either_way ∷ either_way ∷ []) offsets ≡ true →
    AreSmall 4 offsets
small_bands offsets h =
    small_offsets (either_way ∷ either_way ∷ either_way ∷ either_way ∷ []) offsets
    (within, (within, (within, (within, tt)))) h

small_edges : (offsets : List ℤ) →
    are_in (raising ∷ raising ∷ lowering ∷ lowering ∷ []) offsets ≡ true → AreSmall 4 offsets
small_edges offsets h =
    let up : (o : ℤ) → is_in raising o ≡ true → unsigned_abs o ≤ 7 = λ o e. (raised_up o e).0 in
    let down : (o : ℤ) → is_in lowering o ≡ true → unsigned_abs o ≤ 7 = λ o e. (lowered o e).0 in
    small_offsets (raising ∷ raising ∷ lowering ∷ lowering ∷ []) offsets
    (up, (up, (down, (down, tt)))) h

signs_of_edges : (offsets : List ℤ) →
    are_in (raising ∷ raising ∷ lowering ∷ lowering ∷ []) offsets ≡ true →
    with_signs edge_signs (map unsigned_abs offsets) ≡ offsets
signs_of_edges offsets h =
    let up : (o : ℤ) → is_in raising o ≡ true → with_sign false (unsigned_abs o) ≡ o =
    λ o e. (raised_up o e).1 in
    let down : (o : ℤ) → is_in lowering o ≡ true → with_sign true (unsigned_abs o) ≡ o =
    λ o e. (lowered o e).1 in
    known_signs edge_signs (raising ∷ raising ∷ lowering ∷ lowering ∷ []) offsets
    (up, (up, (down, (down, tt)))) h

-- ---- magnitudes and signs

reads_magnitudes : (n : ℕ) (offsets : List ℤ) → AreSmall n offsets →
    Reads (sao_offset_abs n) (offsets_abs_bins offsets) (map unsigned_abs offsets)
reads_magnitudes zero [] small = nothing
reads_magnitudes zero (o ∷ offsets) small = absurd small
reads_magnitudes (suc n) [] small = absurd small
reads_magnitudes (suc n) (o ∷ offsets) small =
    reads_then _ (reads_truncated_unary bypass_at 7 0 (unsigned_abs o) small.0)
    (reads_map (λ magnitudes. unsigned_abs o ∷ magnitudes) (reads_magnitudes n offsets small.1))

reads_signs : (offsets : List ℤ) →
    Reads (sao_offset_sign (map unsigned_abs offsets)) (sign_bins (signs offsets)) offsets
reads_signs [] = nothing
reads_signs (pos zero ∷ offsets) = reads_map (λ others. pos 0 ∷ others) (reads_signs offsets)
reads_signs (pos (suc n) ∷ offsets) =
    rw (lt_zero (suc n)) (one (reads_map (λ others. pos (suc n) ∷ others) (reads_signs offsets)))
reads_signs (negsuc n ∷ offsets) =
    one (reads_map (λ others. negsuc n ∷ others) (reads_signs offsets))

-- ---- a component

reads_off : (offsets : List ℤ) →
    are_in (no_change ∷ no_change ∷ no_change ∷ no_change ∷ []) offsets ≡ true →
    Reads off_component [] (component Off offsets)
reads_off offsets h =
    subst (λ these. Reads off_component [] (component Off these)) (zero_offsets 4 offsets h) nothing

reads_band : (position : ℕ) (offsets : List ℤ) → position < 32 →
    are_in (either_way ∷ either_way ∷ either_way ∷ either_way ∷ []) offsets ≡ true →
    Reads band_component
    (offsets_abs_bins offsets ++ (sign_bins (signs offsets) ++ fixed_length_bins 5 position))
    (component (Band position) offsets)
reads_band position offsets place h =
    reads_then _ (reads_magnitudes 4 offsets (small_bands offsets h))
    (reads_then _ (reads_signs offsets)
    (reads_map (λ p. component (Band p) offsets) (reads_small_number 5 position place)))

-- whatever tells the class
reads_edge : (class : ℕ) (offsets : List ℤ) (class_script : UnitScript ℕ)
    (bins_of_class : List UnitBin) →
    Reads class_script bins_of_class class →
    are_in (raising ∷ raising ∷ lowering ∷ lowering ∷ []) offsets ≡ true →
    Reads (edge_component class_script) (offsets_abs_bins offsets ++ bins_of_class)
    (component (Edge class) offsets)
reads_edge class offsets class_script bins_of_class r h =
    subst
    (λ these. Reads (edge_component class_script) (offsets_abs_bins offsets ++ bins_of_class)
    (component (Edge class) these))
    (signs_of_edges offsets h)
    (reads_then _ (reads_magnitudes 4 offsets (small_edges offsets h))
    (reads_map
    (λ c. component (Edge c) (with_signs edge_signs (map unsigned_abs offsets))) r))

reads_component : (kind : SaoKind) (offsets : List ℤ) → IsKind kind →
    are_in (ranges_of kind) offsets ≡ true →
    Reads (component_of_type (type_of kind)) (component_bins kind offsets) (component kind offsets)
reads_component Off offsets k h = reads_off offsets h
reads_component (Band position) offsets k h = reads_band position offsets k h
reads_component (Edge class) offsets k h =
    reads_edge class offsets (fixed_length 2) (class_bins class) (reads_small_number 2 class k) h

reads_like : (cb cr : SaoKind) (offsets : List ℤ) → IsKind cr → go_together cb cr ≡ true →
    are_in (ranges_of cr) offsets ≡ true →
    Reads (component_like cb) (cr_bins cr offsets) (component cr offsets)
reads_like Off Off offsets k same h = reads_off offsets h
reads_like Off (Band q) offsets k same h = absurd (false≢true same)
reads_like Off (Edge d) offsets k same h = absurd (false≢true same)
reads_like (Band p) Off offsets k same h = absurd (false≢true same)
reads_like (Band p) (Band q) offsets k same h = reads_band q offsets k h
reads_like (Band p) (Edge d) offsets k same h = absurd (false≢true same)
reads_like (Edge c) Off offsets k same h = absurd (false≢true same)
reads_like (Edge c) (Band q) offsets k same h = absurd (false≢true same)
reads_like (Edge c) (Edge d) offsets k same h =
    let e : c ≡ d = eqb-true c d same in
    let this : UnitScript ℕ = Done c in
    let none : offsets_abs_bins offsets ++ [] ≡ offsets_abs_bins offsets =
    append-nil (offsets_abs_bins offsets) in
    subst (λ list. Reads (edge_component (Done c)) list (component (Edge d) offsets)) none
    (reads_edge d offsets (Done c) [] (subst (λ n. Reads this [] n) e nothing) h)

-- ---- all of them

reads_merge : (is_there : Bool) → Reads (merge_flag is_there) (merge_bins is_there) tt
reads_merge true = one nothing
reads_merge false = nothing

reads_type : (kind : SaoKind) → Reads sao_type_idx (sao_type_bins kind) (type_of kind)
reads_type Off = reads_truncated_unary sao_type_at 2 0 0 (omega arith)
reads_type (Band position) = reads_truncated_unary sao_type_at 2 0 1 (omega arith)
reads_type (Edge class) = reads_truncated_unary sao_type_at 2 0 2 (omega arith)

pub reads_sao : OffsetsAreReadBack
unfolding sao sao_bins
reads_sao site offsets valid =
    reads_then _ (reads_merge (has_left site))
    (reads_then _ (reads_merge (has_above site))
    (reads_then _ (reads_type offsets.luma.kind)
    (reads_then _ (reads_component offsets.luma.kind offsets.luma.offsets valid.luma.kind
    valid.luma.offsets)
    (reads_then _ (reads_type offsets.cb.kind)
    (reads_then _ (reads_component offsets.cb.kind offsets.cb.offsets valid.cb.kind
    valid.cb.offsets)
    (reads_map
    (λ cr. record { luma = offsets.luma; cb = offsets.cb; cr = cr })
    (reads_like offsets.cb.kind offsets.cr.kind offsets.cr.offsets valid.cr.kind valid.chroma
    valid.cr.offsets)))))))
