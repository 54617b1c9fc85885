-- Candidates from four offsets.
use Rattle.std.proofs.Common.{◌≡◌, ℕ, zero, suc, ◌+◌, ◌*◌, ◌<◌, ◌≤◌, Bool, false, cond, nat_eq, ⊎_elim, List, [], ◌∷◌, ◌^◌, length, map, slice_set, ℤ, pos, negsuc, ◌+ℤ◌, refl, sym, ◌∙◌, ap, ap₂, subst, arith}
use Rattle.std.specs.Int.RustNames.{unsigned_abs}
use Rattle.std.proofs.lemmas.Bool.{cases_eq}
use Rattle.std.proofs.lemmas.Int.{ints, clamps}
use Rattle.std.proofs.lemmas.List.{get_or-set_same, get_or-set_other}
use Rattle.hv_lemmas.specs.Lists.{tabulate}
use Rattle.hv_lemmas.specs.Clipping.{clip3}
use Rattle.hv_plan.specs.declared.offsets.SaoKind.{SaoKind}
use Rattle.hv_plan.specs.declared.offsets.SaoKind.TheVariants.{Off, Band, Edge}
use Rattle.hv_plan.specs.declared.offsets.SaoComponent.{SaoComponent}
use Rattle.std.proofs.lemmas.Bool.Decides.{nat_tests}
use Rattle.hv_filter_model.specs.Blocks.{Location, locations}
use Rattle.hv_filter_model.specs.OffsetBins.{own_bins}
use Rattle.hv_filter_model.specs.OffsetDecision.{Block, difference, samples_of, sum_of, mean, offset, candidate}
use Rattle.hv_sao.specs.declared.offset.Offset.{Offset}
use Rattle.hv_sao.specs.declared.candidate.Candidate.{Candidate}
use Rattle.hv_sao.specs.Decisions.{IsOffset, IsCandidate, IsMeasured, IsCounted, IsCountedByEdge, HasBandOffsets, AreSmallTo, growth_at, group_count, group_sum, group_growth, offset_at_index, growth_at_index, component_from}
use Rattle.hv_sao.specs.declared.tally.Tally.{Tally}
use Rattle.hv_sao.specs.Tallies.{chosen}
use Rattle.hv_sao.proofs.GrowthLemmas.{errors_by_category}
use Rattle.hv_sao.proofs.KeyLemmas.{band_offset_is, edge_offset_is}

abbrev component_with : SaoKind → List ℤ → SaoComponent
component_with kind offsets = record { kind = kind; offsets = offsets }

component_same : (kind : SaoKind) (f : ℕ → ℤ) (a b c d : ℤ) → a ≡ f 0 → b ≡ f 1 → c ≡ f 2 → d ≡ f 3 →
    component_with kind (a ∷ b ∷ c ∷ d ∷ []) ≡ component_with kind (tabulate 4 f)
unfolding tabulate
component_same kind f a b c d e₀ e₁ e₂ e₃ =
    let made : ℤ → ℤ → ℤ → ℤ → SaoComponent = λ w x y z. component_with kind (w ∷ x ∷ y ∷ z ∷ []) in
    ap₂ (λ w x. made w x c d) e₀ e₁ ∙ ap₂ (λ y z. made (f 0) (f 1) y z) e₂ e₃

pub candidate_is : (b : Block) (kind : SaoKind) (squares : ℕ) (offsets : List Offset) (made : Candidate) → IsMeasured b squares →
    ((i : ℕ) → i < 4 → IsOffset b kind i (offset_at_index offsets i).value (offset_at_index offsets i).growth) →
    made.component ≡ component_from kind offsets →
    made.squares ≡ pos squares +ℤ (growth_at_index offsets 0 +ℤ growth_at_index offsets 1 +ℤ growth_at_index offsets 2 +ℤ growth_at_index offsets 3) →
    made.bins ≡ own_bins made.component → IsCandidate b kind made
candidate_is b kind squares offsets made measured each component errors bins =
    let same : made.component ≡ candidate b kind =
    component
    ∙ component_same kind (offset b kind) (offset_at_index offsets 0).value (offset_at_index offsets 1).value (offset_at_index offsets 2).value
    (offset_at_index offsets 3).value (each 0 (omega arith)).value (each 1 (omega arith)).value (each 2 (omega arith)).value
    (each 3 (omega arith)).value in
    record {
      component = same;
      squares = errors
          ∙ ap (λ n. pos n +ℤ (growth_at_index offsets 0 +ℤ growth_at_index offsets 1 +ℤ growth_at_index offsets 2 +ℤ growth_at_index offsets 3)) measured.squares
          ∙ sym (errors_by_category b (candidate b kind) (growth_at_index offsets 0) (growth_at_index offsets 1) (growth_at_index offsets 2)
          (growth_at_index offsets 3) measured.bytes (each 0 (omega arith)).growth (each 1 (omega arith)).growth (each 2 (omega arith)).growth
          (each 3 (omega arith)).growth);
      bins = bins ∙ ap own_bins same;
    }

-- ---- off

chosen_false : (t : Location → Bool) (f : Location → ℤ) (xs : List Location) → ((a : Location) → t a ≡ false) → chosen t f xs ≡ pos 0
unfolding chosen
chosen_false t f [] none = refl
chosen_false t f (a ∷ xs) none = ap₂ (λ b z. cond b (f a) (pos 0) +ℤ z) (none a) (chosen_false t f xs none)

above_zero : (i : ℕ) → nat_eq 0 (i + 1) ≡ false
above_zero i = grind (arith, nat_tests)

pub off_each : (b : Block) (i : ℕ) → IsOffset b Off i (pos 0) (pos 0)
off_each b i = record {
  value = clip_zero (mean (sum_of (map (difference b) (samples_of b Off i))) (length (samples_of b Off i)));
  growth = sym (chosen_false (λ a. nat_eq 0 (i + 1)) (growth_at b (candidate b Off)) (locations b.area) (λ a. above_zero i));
}
  where
    clip_zero : (z : ℤ) → pos 0 ≡ clip3 (pos 0) (pos 0) z
    clip_zero z = omega (arith, ints, clamps)

-- ---- bands and edges, where code has computed the places

pub band_offset_at : (b : Block) (position i at base squares : ℕ) (tallies : List Tally) (value growth : ℤ) → i < 4 → position ≤ 28 →
    at ≡ 8 * (position + i) → base ≡ 8 * (position + i) → IsCounted b tallies squares →
    value ≡ clip3 (negsuc 6) (pos 7) (mean (group_sum tallies at) (unsigned_abs (group_count tallies at))) →
    growth ≡ group_growth tallies at base value → IsOffset b (Band position) i value growth
band_offset_at b position i at base squares tallies value growth below last e₁ e₂ h is grows =
    band_offset_is b position i tallies value growth below (omega arith) h.measured.bytes h.counts
    (is ∙ ap (λ k. clip3 (negsuc 6) (pos 7) (mean (group_sum tallies k) (unsigned_abs (group_count tallies k)))) e₁)
    (grows ∙ ap₂ (λ k v. group_growth tallies k v value) e₁ e₂)

abbrev Offset-none : Offset
Offset-none = record { value = pos 0; growth = pos 0 }

pub no_band_offsets : (b : Block) (offsets : List Offset) → HasBandOffsets 0 b offsets
no_band_offsets b offsets = record { each = λ position i last below inside. absurd (omega arith) }

pub band_offsets_more : (n next : ℕ) (b : Block) (offsets : List Offset) (o : Offset) → n < length offsets → next ≡ n + 1 →
    HasBandOffsets n b offsets →
    ((position i : ℕ) → position ≤ 28 → i < 4 → position + i ≡ n → IsOffset b (Band position) i o.value o.growth) →
    HasBandOffsets next b (slice_set offsets n o)
band_offsets_more n next b offsets o room is h here = record {
  each = λ position i last below inside.
      ⊎_elim
      (λ same.
      subst (λ (e : Offset). IsOffset b (Band position) i e.value e.growth)
      (sym (ap (λ k. offset_at_index (slice_set offsets n o) k) same ∙ get_or-set_same offsets n o Offset-none room))
      (here position i last below same))
      (λ other.
      subst (λ (e : Offset). IsOffset b (Band position) i e.value e.growth)
      (sym (get_or-set_other offsets n (position + i) o Offset-none other))
      (h.each position i last below (omega arith)))
      (cases_eq (position + i) n);
}

pub band_offset_of : (b : Block) (offsets : List Offset) (position i k : ℕ) → HasBandOffsets 32 b offsets → position ≤ 28 → i < 4 →
    k ≡ position + i → IsOffset b (Band position) i (offset_at_index offsets k).value (offset_at_index offsets k).growth
band_offset_of b offsets position i k h last below is =
    subst (λ n. IsOffset b (Band position) i (offset_at_index offsets n).value (offset_at_index offsets n).growth) (sym is)
    (h.each position i last below (omega arith))

pub small_more : (n next : ℕ) (offsets : List Offset) (o : Offset) → n < length offsets → next ≡ n + 1 → AreSmallTo n offsets →
    unsigned_abs o.growth ≤ 2 ^ 27 → AreSmallTo next (slice_set offsets n o)
small_more n next offsets o room is h small = record {
  small = λ k below.
      ⊎_elim
      (λ same.
      subst (λ (e : Offset). unsigned_abs e.growth ≤ 2 ^ 27)
      (sym (ap (λ j. offset_at_index (slice_set offsets n o) j) same ∙ get_or-set_same offsets n o Offset-none room)) small)
      (λ other.
      subst (λ (e : Offset). unsigned_abs e.growth ≤ 2 ^ 27)
      (sym (get_or-set_other offsets n k o Offset-none other)) (h.small k (omega arith)))
      (cases_eq k n);
}

pub low_edge_at : (class : ℕ) (b : Block) (i at squares : ℕ) (tallies : List Tally) (value growth : ℤ) → i < 2 → at ≡ 8 * i →
    IsCountedByEdge class b tallies squares →
    value ≡ clip3 (pos 0) (pos 7) (mean (group_sum tallies at) (unsigned_abs (group_count tallies at))) →
    growth ≡ group_growth tallies at 248 value → IsOffset b (Edge class) i value growth
low_edge_at class b zero at squares tallies value growth below e h is grows =
    edge_offset_is b class 0 tallies value growth (omega arith) h.measured.bytes h.counts
    (is ∙ ap (λ k. clip3 (pos 0) (pos 7) (mean (group_sum tallies k) (unsigned_abs (group_count tallies k)))) e)
    (grows ∙ ap (λ k. group_growth tallies k 248 value) e)
low_edge_at class b (suc zero) at squares tallies value growth below e h is grows =
    edge_offset_is b class 1 tallies value growth (omega arith) h.measured.bytes h.counts
    (is ∙ ap (λ k. clip3 (pos 0) (pos 7) (mean (group_sum tallies k) (unsigned_abs (group_count tallies k)))) e)
    (grows ∙ ap (λ k. group_growth tallies k 248 value) e)
low_edge_at class b (suc (suc i)) at squares tallies value growth below e h is grows = absurd (omega arith)

pub high_edge_at : (class : ℕ) (b : Block) (i at squares : ℕ) (tallies : List Tally) (value growth : ℤ) → 2 ≤ i → i < 4 → at ≡ 8 * i →
    IsCountedByEdge class b tallies squares →
    value ≡ clip3 (negsuc 6) (pos 0) (mean (group_sum tallies at) (unsigned_abs (group_count tallies at))) →
    growth ≡ group_growth tallies at 0 value → IsOffset b (Edge class) i value growth
high_edge_at class b zero at squares tallies value growth least below e h is grows = absurd (omega arith)
high_edge_at class b (suc zero) at squares tallies value growth least below e h is grows = absurd (omega arith)
high_edge_at class b (suc (suc zero)) at squares tallies value growth least below e h is grows =
    edge_offset_is b class 2 tallies value growth (omega arith) h.measured.bytes h.counts
    (is ∙ ap (λ k. clip3 (negsuc 6) (pos 0) (mean (group_sum tallies k) (unsigned_abs (group_count tallies k)))) e)
    (grows ∙ ap (λ k. group_growth tallies k 0 value) e)
high_edge_at class b (suc (suc (suc zero))) at squares tallies value growth least below e h is grows =
    edge_offset_is b class 3 tallies value growth (omega arith) h.measured.bytes h.counts
    (is ∙ ap (λ k. clip3 (negsuc 6) (pos 0) (mean (group_sum tallies k) (unsigned_abs (group_count tallies k)))) e)
    (grows ∙ ap (λ k. group_growth tallies k 0 value) e)
high_edge_at class b (suc (suc (suc (suc i)))) at squares tallies value growth least below e h is grows = absurd (omega arith)
