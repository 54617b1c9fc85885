-- The sample adaptive offsets that the encoder chooses for a coding tree block may be coded
-- (7.4.9.3).
use Rattle.std.proofs.Common.{◌≡◌, ℕ, zero, suc, ◌+◌, Bool, true, false, T, [], ◌∷◌, length, map, ℤ, ◌≤ℤ◌, refl, arith, eq-eqb}
use Rattle.std.proofs.lemmas.Int.{ints, clamps}
use Rattle.hv_lemmas.specs.Clipping.{clip3}
use Rattle.hv_lemmas.specs.Lists.{tabulate}
use Rattle.hv_types.specs.declared.picture.Picture.{Picture}
use Rattle.hv_plan.specs.declared.offsets.SaoKind.{SaoKind}
use Rattle.hv_plan.specs.declared.offsets.SaoKind.TheVariants.{Off, Band, Edge}
use Rattle.hv_plan.specs.declared.offsets.SaoComponent.{SaoComponent}
use Rattle.hv_plan.specs.declared.place.Place.{Place}
use Rattle.hv_tree_model.specs.Validity.{Range, between, is_in, are_in, no_change, raising, lowering, either_way, IsKind, AreComponentOffsets, go_together, AreOffsets}
use Rattle.hv_filter_model.specs.Blocks.{luma_side, chroma_side, blocks_over}
use Rattle.hv_filter_model.specs.Costs.{cost}
use Rattle.hv_filter_model.specs.OffsetBins.{own_bins, luma_bins}
use Rattle.hv_filter_model.specs.SampleAdaptiveOffset.{least_offset, most_offset}
use Rattle.hv_filter_model.specs.OffsetDecision.{Block, Chroma, difference, samples_of, sum_of, mean, offset, candidate, squared_errors, luma_candidates, luma_choice, band_choice, edge_pair, chroma_cost, chroma_choice, block_of, chosen_offsets, block_count, block_offsets, place_in, picture_offsets}
use Rattle.hv_filter_model.proofs.CostLemmas.{Each, first_least_keeps, each_tabulate, each_append}

-- ---- ranges

passed : (b : Bool) → T b → b ≡ true
passed true t = refl
passed false t = absurd t

in_range : (low high z : ℤ) → low ≤ℤ z → z ≤ℤ high → is_in (between low high) z ≡ true
in_range low high z least most = rw (passed _ least.le, passed _ most.le) refl

clipped : (low high z : ℤ) → low ≤ℤ high → is_in (between low high) (clip3 low high z) ≡ true
clipped low high z order =
    in_range low high (clip3 low high z) (omega (arith, ints, clamps)) (omega (arith, ints, clamps))

four_in : (a b c d : Range) (w x y z : ℤ) → is_in a w ≡ true → is_in b x ≡ true →
    is_in c y ≡ true → is_in d z ≡ true →
    are_in (a ∷ b ∷ c ∷ d ∷ []) (w ∷ x ∷ y ∷ z ∷ []) ≡ true
four_in a b c d w x y z p q r s = rw (p, q, r, s) refl

-- ---- a component

-- the mean before it is clipped
abbrev unclipped : Block → SaoKind → ℕ → ℤ
unclipped b kind i =
    mean (sum_of (map (difference b) (samples_of b kind i))) (length (samples_of b kind i))

offset_in : (b : Block) (kind : SaoKind) (i : ℕ) → least_offset kind i ≤ℤ most_offset kind i →
    is_in (between (least_offset kind i) (most_offset kind i)) (offset b kind i) ≡ true
offset_in b kind i order =
    clipped (least_offset kind i) (most_offset kind i) (unclipped b kind i) order

candidate_valid : (b : Block) (kind : SaoKind) → IsKind kind →
    AreComponentOffsets (candidate b kind)
unfolding tabulate
candidate_valid b Off known =
    let o : ℕ → ℤ = offset b Off in
    record {
      kind = known;
      offsets = four_in no_change no_change no_change no_change (o 0) (o 1) (o 2) (o 3)
          (offset_in b Off 0 (omega (arith, ints))) (offset_in b Off 1 (omega (arith, ints)))
          (offset_in b Off 2 (omega (arith, ints))) (offset_in b Off 3 (omega (arith, ints)));
    }
candidate_valid b (Band p) known =
    let o : ℕ → ℤ = offset b (Band p) in
    record {
      kind = known;
      offsets = four_in either_way either_way either_way either_way (o 0) (o 1) (o 2) (o 3)
          (offset_in b (Band p) 0 (omega (arith, ints)))
          (offset_in b (Band p) 1 (omega (arith, ints)))
          (offset_in b (Band p) 2 (omega (arith, ints)))
          (offset_in b (Band p) 3 (omega (arith, ints)));
    }
candidate_valid b (Edge c) known =
    let o : ℕ → ℤ = offset b (Edge c) in
    record {
      kind = known;
      offsets = four_in raising raising lowering lowering (o 0) (o 1) (o 2) (o 3)
          (offset_in b (Edge c) 0 (omega (arith, ints)))
          (offset_in b (Edge c) 1 (omega (arith, ints)))
          (offset_in b (Edge c) 2 (omega (arith, ints)))
          (offset_in b (Edge c) 3 (omega (arith, ints)));
    }

-- ---- luma

luma_valid : (qp : ℕ) (b : Block) → AreComponentOffsets (luma_choice qp b)
luma_valid qp b =
    first_least_keeps AreComponentOffsets (λ c. cost qp (squared_errors b c) (luma_bins c))
    (candidate b Off) (luma_candidates b) (candidate_valid b Off tt)
    (each_append AreComponentOffsets (tabulate 29 (λ position. candidate b (Band position)))
    (tabulate 4 (λ class. candidate b (Edge class)))
    (each_tabulate AreComponentOffsets 29 (λ position. candidate b (Band position))
    (λ i below. candidate_valid b (Band i) (omega (arith, below))))
    (each_tabulate AreComponentOffsets 4 (λ class. candidate b (Edge class))
    (λ i below. candidate_valid b (Edge i) below)))

-- ---- Cb and Cr

-- it may be coded, and is a band
abbrev IsBand : SaoComponent → Type 0
IsBand c = AreComponentOffsets c × ((position : ℕ) × (c.kind ≡ Band position))

band_valid : (qp : ℕ) (b : Block) → IsBand (band_choice qp b)
band_valid qp b =
    first_least_keeps IsBand (λ c. cost qp (squared_errors b c) (own_bins c))
    (candidate b (Band 0)) (tabulate 28 (λ i. candidate b (Band (i + 1))))
    (candidate_valid b (Band 0) (omega arith), (0, refl))
    (each_tabulate IsBand 28 (λ i. candidate b (Band (i + 1)))
    (λ i below. (candidate_valid b (Band (i + 1)) (omega (arith, below)), (i + 1, refl))))

pub record IsPair (pair : Chroma) : Type 0 where
  pub cb : AreComponentOffsets pair.cb
  pub cr : AreComponentOffsets pair.cr
  pub both : go_together pair.cb.kind pair.cr.kind ≡ true

bands_together : (p q : ℕ) (k l : SaoKind) → k ≡ Band p → l ≡ Band q → go_together k l ≡ true
bands_together p q k l e f = rw (e, f) refl

chroma_valid : (qp : ℕ) (cb cr : Block) → IsPair (chroma_choice qp cb cr)
unfolding tabulate
chroma_valid qp cb cr =
    let u : IsBand (band_choice qp cb) = band_valid qp cb in
    let v : IsBand (band_choice qp cr) = band_valid qp cr in
    first_least_keeps IsPair (chroma_cost qp cb cr)
    (record { cb = candidate cb Off; cr = candidate cr Off })
    (record { cb = band_choice qp cb; cr = band_choice qp cr } ∷ tabulate 4 (edge_pair cb cr))
    (record { cb = candidate_valid cb Off tt; cr = candidate_valid cr Off tt; both = refl }) (
      record {
        cb = u.0;
        cr = v.0;
        both = bands_together u.1.0 v.1.0 (band_choice qp cb).kind (band_choice qp cr).kind
            u.1.1 v.1.1;
      },
      each_tabulate IsPair 4 (edge_pair cb cr) (λ i below. record {
        cb = candidate_valid cb (Edge i) below;
        cr = candidate_valid cr (Edge i) below;
        both = eq-eqb i i refl;
      }),
    )

-- ---- a block

chosen_valid : (deblocked input : Picture) (place : Place) (qp : ℕ) →
    AreOffsets (chosen_offsets deblocked input place qp)
chosen_valid deblocked input place qp =
    let across : ℕ = blocks_over luma_side place.width in
    let cb : Block = block_of chroma_side across place.index deblocked.cb input.cb in
    let cr : Block = block_of chroma_side across place.index deblocked.cr input.cr in
    let pair : IsPair (chroma_choice qp cb cr) = chroma_valid qp cb cr in
    record {
      luma = luma_valid qp (block_of luma_side across place.index deblocked.luma input.luma);
      cb = pair.cb;
      cr = pair.cr;
      chroma = pair.both;
    }

offsets_valid : (effort qp : ℕ) (deblocked input : Picture) (number : ℕ) →
    AreOffsets (block_offsets effort qp deblocked input number)
offsets_valid zero qp deblocked input number = record {
  luma = record { kind = tt; offsets = refl };
  cb = record { kind = tt; offsets = refl };
  cr = record { kind = tt; offsets = refl };
  chroma = refl;
}
offsets_valid (suc effort) qp deblocked input number =
    chosen_valid deblocked input (place_in deblocked number) qp

-- all blocks of a picture
pub picture_valid : (effort qp : ℕ) (deblocked input : Picture) →
    Each AreOffsets (picture_offsets effort qp deblocked input)
picture_valid effort qp deblocked input =
    each_tabulate AreOffsets (block_count deblocked) (block_offsets effort qp deblocked input)
    (λ i below. offsets_valid effort qp deblocked input i)
