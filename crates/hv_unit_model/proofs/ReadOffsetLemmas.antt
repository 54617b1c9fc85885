-- Sample adaptive offsets that are read, whatever answers, may be coded (7.4.9.3).
use Rattle.std.proofs.Common.{◌≡◌, ℕ, zero, suc, ◌<◌, ◌≤◌, Bool, true, false, List, [], ◌∷◌, replicate, refl, arith, ℤ}
use Rattle.std.proofs.lemmas.Bool.{and_from, le-leb, eq-eqb}
use Rattle.hv_plan.specs.declared.offsets.SaoKind.{SaoKind}
use Rattle.hv_plan.specs.declared.offsets.SaoKind.TheVariants.{Off, Band, Edge}
use Rattle.hv_plan.specs.declared.offsets.SaoComponent.{SaoComponent}
use Rattle.hv_stream_model.specs.Scripts.{Done}
use Rattle.hv_residual_model.specs.UnitBins.{UnitScript}
use Rattle.hv_residual_model.specs.Binarization.{truncated_unary, fixed_length, bypass_at}
use Rattle.hv_residual_model.specs.ResidualSyntax.{with_sign}
use Rattle.hv_tree_model.specs.Sites.{Site, has_left, has_above}
use Rattle.hv_tree_model.specs.Validity.{is_in, are_in, either_way, raising, lowering, IsKind, go_together, AreComponentOffsets, AreOffsets}
use Rattle.hv_unit_model.specs.BlockSyntax.{merge_flag, sao_type_idx, sao_offset_abs, sao_offset_sign, edge_signs, with_signs, component, off_component, band_component, edge_component, component_of_type, component_like, sao}
use Rattle.hv_unit_model.specs.UnitLaws.{OffsetsThatAreReadMayBeCoded}
use Rattle.hv_unit_model.proofs.GivenLemmas.{Gives, given, gives_then, gives_after, fixed_below, unary_at_most}

-- so many magnitudes of at most 7
abbrev Magnitudes : ℕ → List ℕ → Type 0
Magnitudes zero [] = Unit {0}
Magnitudes zero (m ∷ list) = ⊥
Magnitudes (suc n) [] = ⊥
Magnitudes (suc n) (m ∷ list) = (m ≤ 7) × Magnitudes n list

gives_magnitudes : (n : ℕ) → Gives (Magnitudes n) (sao_offset_abs n)
gives_magnitudes zero = tt
gives_magnitudes (suc n) =
    gives_then (λ m. m ≤ 7) (Magnitudes (suc n)) (truncated_unary bypass_at 7 0) _
    (unary_at_most bypass_at 7 0)
    (λ m small. gives_then (Magnitudes n) (Magnitudes (suc n)) (sao_offset_abs n) _
    (gives_magnitudes n) (λ list others. (small, others)))

-- ---- signs

signed_either_way : (sign : Bool) (m : ℕ) → m ≤ 7 → is_in either_way (with_sign sign m) ≡ true
signed_either_way true zero h = refl
signed_either_way true (suc m) h = and_from _ _ (le-leb m 6 (omega (arith, h))) refl
signed_either_way false m h = le-leb m 7 h

signed_up : (m : ℕ) → m ≤ 7 → is_in raising (with_sign false m) ≡ true
signed_up m h = and_from _ _ (le-leb 0 m (omega arith)) (le-leb m 7 h)

signed_down : (m : ℕ) → m ≤ 7 → is_in lowering (with_sign true m) ≡ true
signed_down zero h = refl
signed_down (suc m) h = and_from _ _ (le-leb m 6 (omega (arith, h))) refl

Bands : ℕ → List ℤ → Type 0
Bands n offsets = are_in (replicate n either_way) offsets ≡ true

gives_bands : (n : ℕ) (list : List ℕ) → Magnitudes n list → Gives (Bands n) (sao_offset_sign list)
unfolding Bands
gives_bands zero [] small = refl
gives_bands zero (m ∷ list) small = absurd small
gives_bands (suc n) [] small = absurd small
gives_bands (suc n) (zero ∷ list) small =
    gives_then (Bands n) (Bands (suc n)) (sao_offset_sign list) _ (gives_bands n list small.1)
    (λ offsets h. h)
gives_bands (suc n) (suc m ∷ list) small = λ sign.
    gives_then (Bands n) (Bands (suc n)) (sao_offset_sign list) _ (gives_bands n list small.1)
    (λ offsets h. and_from _ _ (signed_either_way sign (suc m) small.0) h)

edges_in : (list : List ℕ) → Magnitudes 4 list →
    are_in (raising ∷ raising ∷ lowering ∷ lowering ∷ []) (with_signs edge_signs list) ≡ true
edges_in [] h = absurd h
edges_in (a ∷ []) h = absurd h.1
edges_in (a ∷ b ∷ []) h = absurd h.1.1
edges_in (a ∷ b ∷ c ∷ []) h = absurd h.1.1.1
edges_in (a ∷ b ∷ c ∷ d ∷ []) h =
    and_from _ _ (signed_up a h.0) (and_from _ _ (signed_up b h.1.0)
    (and_from _ _ (signed_down c h.1.1.0) (and_from _ _ (signed_down d h.1.1.1.0) refl)))
edges_in (a ∷ b ∷ c ∷ d ∷ e ∷ list) h = absurd h.1.1.1.1

-- ---- components

gives_off : Gives AreComponentOffsets off_component
gives_off = record { kind = tt; offsets = refl }

gives_band : Gives AreComponentOffsets band_component
unfolding Bands
gives_band =
    gives_then (Magnitudes 4) AreComponentOffsets (sao_offset_abs 4) _ (gives_magnitudes 4)
    (λ list small.
    gives_then (Bands 4) AreComponentOffsets (sao_offset_sign list) _ (gives_bands 4 list small)
    (λ offsets fits.
    gives_then (λ p. p < 32) AreComponentOffsets (fixed_length 5)
    (λ position. Done (component (Band position) offsets)) (fixed_below 5)
    (λ position below. record { kind = below; offsets = fits })))

gives_edge : (class_script : UnitScript ℕ) → Gives (λ c. c < 4) class_script →
    Gives AreComponentOffsets (edge_component class_script)
gives_edge class_script g =
    gives_then (Magnitudes 4) AreComponentOffsets (sao_offset_abs 4) _ (gives_magnitudes 4)
    (λ list small.
    gives_then (λ c. c < 4) AreComponentOffsets class_script _ g
    (λ class below. record { kind = below; offsets = edges_in list small }))

gives_component : (t : ℕ) → Gives AreComponentOffsets (component_of_type t)
gives_component zero = gives_off
gives_component (suc zero) = gives_band
gives_component (suc (suc more)) = gives_edge (fixed_length 2) (fixed_below 2)

-- of Cr, with the type and the class of Cb
record AreLike (cb : SaoKind) (c : SaoComponent) : Type 0 where
  offsets : AreComponentOffsets c
  chroma : go_together cb c.kind ≡ true

gives_like : (cb : SaoKind) → IsKind cb → Gives (AreLike cb) (component_like cb)
unfolding Bands
gives_like Off k = record { offsets = gives_off; chroma = refl }
gives_like (Band position) k =
    gives_then (Magnitudes 4) (AreLike (Band position)) (sao_offset_abs 4) _ (gives_magnitudes 4)
    (λ list small.
    gives_then (Bands 4) (AreLike (Band position)) (sao_offset_sign list) _
    (gives_bands 4 list small)
    (λ offsets fits.
    gives_then (λ p. p < 32) (AreLike (Band position)) (fixed_length 5)
    (λ place. Done (component (Band place) offsets)) (fixed_below 5)
    (λ place below. record {
      offsets = record { kind = below; offsets = fits };
      chroma = refl;
    })))
gives_like (Edge class) k =
    gives_then (Magnitudes 4) (AreLike (Edge class)) (sao_offset_abs 4) _ (gives_magnitudes 4)
    (λ list small. record {
      offsets = record { kind = k; offsets = edges_in list small };
      chroma = eq-eqb class class refl;
    })

-- ---- all of them

pub gives_sao : (site : Site) → Gives AreOffsets (sao site)
unfolding sao
gives_sao site =
    gives_after AreOffsets (merge_flag (has_left site)) _ (λ m.
    gives_after AreOffsets (merge_flag (has_above site)) _ (λ m.
    gives_after AreOffsets sao_type_idx _ (λ luma_type.
    gives_then AreComponentOffsets AreOffsets (component_of_type luma_type) _
    (gives_component luma_type) (λ luma is_luma.
    gives_after AreOffsets sao_type_idx _ (λ chroma_type.
    gives_then AreComponentOffsets AreOffsets (component_of_type chroma_type) _
    (gives_component chroma_type) (λ cb is_cb.
    gives_then (AreLike cb.kind) AreOffsets (component_like cb.kind) _
    (gives_like cb.kind is_cb.kind) (λ cr is_cr.
    record { luma = is_luma; cb = is_cb; cr = is_cr.offsets; chroma = is_cr.chroma })))))))

pub read_offsets : OffsetsThatAreReadMayBeCoded
read_offsets site bins offsets r = given AreOffsets (gives_sao site) r
