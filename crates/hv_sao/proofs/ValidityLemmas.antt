-- The choice of a block's offsets is valid.
use Rattle.std.proofs.Common.{◌≡◌, ℕ, ◌+◌, ◌∷◌, ◌++◌, pos, refl, sym, subst, arith}
use Rattle.hv_lemmas.specs.Lists.{tabulate}
use Rattle.hv_lemmas.proofs.ListLemmas.{get_or-tabulate}
use Rattle.hv_plan.specs.declared.offsets.SaoKind.{SaoKind}
use Rattle.hv_plan.specs.declared.offsets.SaoKind.TheVariants.{Off, Band, Edge}
use Rattle.hv_plan.specs.declared.offsets.SaoComponent.{SaoComponent}
use Rattle.hv_filter_model.specs.SampleAdaptiveOffset.{IsKind, IsBetween, least_offset, most_offset, IsValidComponent, HaveOneType}
use Rattle.hv_filter_model.specs.OffsetDecision.{Block, Chroma, offset, candidate, luma_choice, band_choice, edge_pair, chroma_cost, chroma_choice}
use Rattle.hv_filter_model.proofs.CostLemmas.{first_least_keeps, each_append, each_tabulate}
use Rattle.hv_sao.specs.Prices.{luma_cost, own_cost, off_pair, band_pair}
use Rattle.hv_sao.proofs.KeyLemmas.{offset_between}

candidate_valid : (b : Block) (kind : SaoKind) → IsKind kind → IsValidComponent (candidate b kind)
candidate_valid b kind h = record {
  kind = h;
  offsets = λ i below.
      subst (λ z. IsBetween (least_offset kind i) (most_offset kind i) z) (sym (get_or-tabulate 4 i (offset b kind) (pos 0) below))
      (offset_between b kind i below);
}

pub luma_valid : (qp : ℕ) (b : Block) → IsValidComponent (luma_choice qp b)
luma_valid qp b =
    first_least_keeps IsValidComponent (luma_cost qp b) (candidate b Off)
    (tabulate 29 (λ p. candidate b (Band p)) ++ tabulate 4 (λ k. candidate b (Edge k))) (candidate_valid b Off tt)
    (each_append IsValidComponent (tabulate 29 (λ p. candidate b (Band p))) (tabulate 4 (λ k. candidate b (Edge k)))
    (each_tabulate IsValidComponent 29 (λ p. candidate b (Band p)) (λ i below. candidate_valid b (Band i) (omega arith)))
    (each_tabulate IsValidComponent 4 (λ k. candidate b (Edge k)) (λ i below. candidate_valid b (Edge i) below)))

record IsValidBand (c : SaoComponent) : Type 0 where
  valid : IsValidComponent c
  position : ℕ
  band : c.kind ≡ Band position

band_valid : (qp : ℕ) (b : Block) → IsValidBand (band_choice qp b)
band_valid qp b =
    first_least_keeps IsValidBand (own_cost qp b) (candidate b (Band 0)) (tabulate 28 (λ i. candidate b (Band (i + 1))))
    (record { valid = candidate_valid b (Band 0) (omega arith); position = 0; band = refl })
    (each_tabulate IsValidBand 28 (λ i. candidate b (Band (i + 1)))
    (λ i below. record { valid = candidate_valid b (Band (i + 1)) (omega arith); position = i + 1; band = refl }))

pub record IsValidPair (c : Chroma) : Type 0 where
  pub cb : IsValidComponent c.cb
  pub cr : IsValidComponent c.cr
  pub kinds : HaveOneType c.cb.kind c.cr.kind

bands_have_one_type : (k l : SaoKind) (p q : ℕ) → k ≡ Band p → l ≡ Band q → HaveOneType k l
bands_have_one_type k l p q e₁ e₂ = rw (e₁, e₂) tt

pub chroma_valid : (qp : ℕ) (cb cr : Block) → IsValidPair (chroma_choice qp cb cr)
chroma_valid qp cb cr =
    let first : IsValidBand (band_choice qp cb) = band_valid qp cb in
    let second : IsValidBand (band_choice qp cr) = band_valid qp cr in
    first_least_keeps IsValidPair (chroma_cost qp cb cr) (off_pair cb cr) (band_pair qp cb cr ∷ tabulate 4 (edge_pair cb cr))
    (record { cb = candidate_valid cb Off tt; cr = candidate_valid cr Off tt; kinds = tt }) (
      record {
        cb = first.valid;
        cr = second.valid;
        kinds = bands_have_one_type (band_choice qp cb).kind (band_choice qp cr).kind first.position second.position first.band second.band;
      },
      each_tabulate IsValidPair 4 (edge_pair cb cr)
          (λ i below. record { cb = candidate_valid cb (Edge i) below; cr = candidate_valid cr (Edge i) below; kinds = refl }),
    )
