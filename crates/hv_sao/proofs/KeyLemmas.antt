-- The groups of keys of bands and of edges, and the offsets that follow from their counts and sums.
use Rattle.std.proofs.Common.{◌≡◌, ◌≢◌, ℕ, zero, suc, ◌+◌, ◌-◌, ◌*◌, ◌/◌, ◌%◌, ◌<◌, ◌≤◌, Bool, true, false, cond, nat_eq, nat_lt, ◌⊎◌, ⊎_elim, inl, inr, List, ◌∷◌, length, map, get_or, min, max, ℤ, pos, negsuc, ◌+ℤ◌, ◌-ℤ◌, ◌≤ℤ◌, refl, sym, ◌∙◌, ap, ap₂, arith, add-one}
use Rattle.std.specs.Int.RustNames.{unsigned_abs}
use Rattle.std.proofs.lemmas.Int.{ints, clamps}
use Rattle.std.proofs.lemmas.Bool.{cases_lt, eqb-true, eq-eqb}
use Rattle.std.proofs.lemmas.Bool.Decides.{nat_tests}
use Rattle.hv_lemmas.specs.Clipping.{clip1, clip3}
use Rattle.hv_lemmas.specs.Lists.{tabulate}
use Rattle.hv_lemmas.proofs.ListLemmas.{get_or-tabulate}
use Rattle.hv_types.specs.Samples.{HasByteSamples, sample_at}
use Rattle.hv_types.proofs.SampleLemmas.{byte_at}
use Rattle.hv_plan.specs.declared.offsets.SaoKind.{SaoKind}
use Rattle.hv_plan.specs.declared.offsets.SaoKind.TheVariants.{Off, Band, Edge}
use Rattle.hv_filter_model.specs.Blocks.{Location}
use Rattle.hv_filter_model.specs.SampleAdaptiveOffset.{IsBetween, least_offset, most_offset, bandTable, edgeIdx, category, SaoOffsetVal}
use Rattle.hv_filter_model.specs.OffsetDecision.{Block, difference, samples_of, sum_of, mean, offset, candidate}
use Rattle.hv_sao.specs.declared.tally.Tally.{Tally}
use Rattle.hv_sao.specs.Decisions.{Counts, IsOffset, value_key, edge_key, edge_key_at, group_count, group_sum, group_growth, growths_to, moved}
use Rattle.hv_sao.proofs.GrowthLemmas.{IsGroup, count_by_group, sum_by_group, growth_by_group, category_most}

offset_known : (f : ℕ → ℤ) (i : ℕ) → i < 4 → get_or (pos 0 ∷ tabulate 4 f) (i + 1) (pos 0) ≡ f i
offset_known f i below = rw add-one (get_or-tabulate 4 i f (pos 0) below)

clip3_between : (low high z : ℤ) → low ≤ℤ high → IsBetween low high (clip3 low high z)
clip3_between low high z order = record { least = omega (arith, ints, clamps); most = omega (arith, ints, clamps) }

range_order : (kind : SaoKind) (i : ℕ) → i < 4 → least_offset kind i ≤ℤ most_offset kind i
range_order Off i below = omega (arith, ints)
range_order (Band position) i below = omega (arith, ints)
range_order (Edge class) zero below = omega (arith, ints)
range_order (Edge class) (suc zero) below = omega (arith, ints)
range_order (Edge class) (suc (suc zero)) below = omega (arith, ints)
range_order (Edge class) (suc (suc (suc zero))) below = omega (arith, ints)
range_order (Edge class) (suc (suc (suc (suc i)))) below = absurd (omega arith)

pub offset_between : (b : Block) (kind : SaoKind) (i : ℕ) → i < 4 → IsBetween (least_offset kind i) (most_offset kind i) (offset b kind i)
offset_between b kind i below =
    clip3_between (least_offset kind i) (most_offset kind i)
    (mean (sum_of (map (difference b) (samples_of b kind i))) (length (samples_of b kind i))) (range_order kind i below)

-- the offset that counts and sums of its group give
pub offset_is : (b : Block) (kind : SaoKind) (i n : ℕ) (key : Location → ℕ) (at base : ℕ) (tallies : List Tally) (value growth : ℤ) → i < 4 →
    IsGroup (λ a. nat_eq (category kind b.deblocked a.x a.y) (i + 1)) key at → at + 8 ≤ n → Counts n key b tallies →
    ((a : Location) (o : ℤ) → category kind b.deblocked a.x a.y ≡ i + 1 → IsBetween (least_offset kind i) (most_offset kind i) o →
    moved (sample_at b.deblocked a.x a.y) o ≡ moved (base + (key a - at)) o) →
    value ≡ clip3 (least_offset kind i) (most_offset kind i) (mean (group_sum tallies at) (unsigned_abs (group_count tallies at))) →
    growth ≡ group_growth tallies at base value → IsOffset b kind i value growth
unfolding growths_to
offset_is b kind i n key at base tallies value growth below group room h moves is grows =
    let p : Location → Bool = λ a. nat_eq (category kind b.deblocked a.x a.y) (i + 1) in
    let same : value ≡ offset b kind i =
    is
    ∙ ap₂ (λ s c. clip3 (least_offset kind i) (most_offset kind i) (mean s (unsigned_abs c)))
    (sym (sum_by_group p n key at b tallies group room h)) (sym (count_by_group p n key at b tallies group room h)) in
    record {
      value = same;
      growth = grows ∙ sym (growth_by_group p n key at b (candidate b kind) (λ j. moved (base + j) value) tallies group room h
          (λ a yes.
          let cat : category kind b.deblocked a.x a.y ≡ i + 1 = eqb-true (category kind b.deblocked a.x a.y) (i + 1) yes in
          ap (λ k. pos (clip1 (pos (sample_at b.deblocked a.x a.y) +ℤ SaoOffsetVal (candidate b kind) k)) -ℤ pos (sample_at b.deblocked a.x a.y)) cat
          ∙ ap (λ o. moved (sample_at b.deblocked a.x a.y) o) (offset_known (offset b kind) i below)
          ∙ moves a (offset b kind i) cat (offset_between b kind i below)
          ∙ ap (λ o. moved (base + (key a - at)) o) (sym same)));
    }

-- ---- bands

table_known : (k i : ℕ) → cond (nat_lt k 4) (k + 1) 0 ≡ i + 1 → k ≡ i
table_known k i e = grind (arith, nat_tests)

table_at : (k i : ℕ) → i < 4 → k ≡ i → cond (nat_lt k 4) (k + 1) 0 ≡ i + 1
table_at k i below e = grind (arith, nat_tests)

not_equal : (a b : ℕ) → nat_eq a b ≡ false → a ≢ b
not_equal a b e = λ same. grind (arith, nat_tests)

band_yes : (position i v : ℕ) → i < 4 → position + i ≤ 31 → v < 256 → nat_eq (bandTable position (v / 8)) (i + 1) ≡ true →
    (8 * (position + i) ≤ v) × (v < 8 * (position + i) + 8)
band_yes position i v below last byte e =
    let k : ℕ = (v / 8 + 32 - position) % 32 in
    let at : k ≡ i = table_known k i (eqb-true (bandTable position (v / 8)) (i + 1) e) in
    (omega (arith, at), omega (arith, at))

band_no : (position i v : ℕ) → i < 4 → position + i ≤ 31 → v < 256 → nat_eq (bandTable position (v / 8)) (i + 1) ≡ false →
    (v < 8 * (position + i)) ⊎ (8 * (position + i) + 8 ≤ v)
band_no position i v below last byte e =
    let k : ℕ = (v / 8 + 32 - position) % 32 in
    ⊎_elim (λ less. inl less)
    (λ least.
    ⊎_elim
    (λ most.
    let at : k ≡ i = omega (arith, least, most) in
    absurd (not_equal (bandTable position (v / 8)) (i + 1) e (table_at k i below at)))
    (λ more. inr more)
    (cases_lt v (8 * (position + i) + 8)))
    (cases_lt v (8 * (position + i)))

pub band_offset_is : (b : Block) (position i : ℕ) (tallies : List Tally) (value growth : ℤ) → i < 4 → position + i ≤ 31 → HasByteSamples b.deblocked →
    Counts 256 (value_key b) b tallies →
    value ≡ clip3 (negsuc 6) (pos 7) (mean (group_sum tallies (8 * (position + i))) (unsigned_abs (group_count tallies (8 * (position + i))))) →
    growth ≡ group_growth tallies (8 * (position + i)) (8 * (position + i)) value → IsOffset b (Band position) i value growth
band_offset_is b position i tallies value growth below last bytes h is grows =
    let at : ℕ = 8 * (position + i) in
    let byte : (a : Location) → sample_at b.deblocked a.x a.y < 256 = λ a. byte_at b.deblocked.samples (a.y * b.deblocked.width + a.x) bytes in
    offset_is b (Band position) i 256 (value_key b) at at tallies value growth below
    (record {
      yes = λ a e. band_yes position i (sample_at b.deblocked a.x a.y) below last (byte a) e;
      no = λ a e. band_no position i (sample_at b.deblocked a.x a.y) below last (byte a) e;
    })
    (omega arith) h
    (λ a o cat between.
    let inside = band_yes position i (sample_at b.deblocked a.x a.y) below last (byte a) (eq-eqb (bandTable position (sample_at b.deblocked a.x a.y / 8)) (i + 1) cat) in
    ap (λ k. moved k o) (omega (arith, inside.0)))
    is grows

-- ---- edges

-- what stands for the values of a category's keys
abbrev pub edge_base : ℕ → ℕ
edge_base i = cond (nat_lt i 2) 248 0

edge_yes : (i c v : ℕ) → i < 4 → c ≤ 4 → v < 256 → nat_eq c (i + 1) ≡ true → (8 * i ≤ edge_key c v) × (edge_key c v < 8 * i + 8)
edge_yes zero c v below most byte e = rw (eqb-true c 1 e) (omega arith, omega arith)
edge_yes (suc zero) c v below most byte e = rw (eqb-true c 2 e) (omega arith, omega arith)
edge_yes (suc (suc zero)) c v below most byte e = rw (eqb-true c 3 e) (omega arith, omega arith)
edge_yes (suc (suc (suc zero))) c v below most byte e = rw (eqb-true c 4 e) (omega arith, omega arith)
edge_yes (suc (suc (suc (suc i)))) c v below most byte e = absurd (omega arith)

apart : (i k c r : ℕ) → k ≡ 8 * c + r → r < 8 → c ≢ i → (k < 8 * i) ⊎ (8 * i + 8 ≤ k)
apart i k c r is small other =
    ⊎_elim (λ less. inl (omega (arith, is, less))) (λ more. inr (omega (arith, is, more))) (cases_lt c i)

edge_no : (i c v : ℕ) → i < 4 → c ≤ 4 → v < 256 → nat_eq c (i + 1) ≡ false → (edge_key c v < 8 * i) ⊎ (8 * i + 8 ≤ edge_key c v)
edge_no i zero v below most byte e = inr (omega arith)
edge_no i (suc zero) v below most byte e =
    apart i (edge_key 1 v) 0 (max v 248 - 248) refl (omega arith) (λ same. not_equal 1 (i + 1) e (omega arith))
edge_no i (suc (suc zero)) v below most byte e =
    apart i (edge_key 2 v) 1 (max v 248 - 248) refl (omega arith) (λ same. not_equal 2 (i + 1) e (omega arith))
edge_no i (suc (suc (suc zero))) v below most byte e =
    apart i (edge_key 3 v) 2 (min v 7) refl (omega arith) (λ same. not_equal 3 (i + 1) e (omega arith))
edge_no i (suc (suc (suc (suc zero)))) v below most byte e =
    apart i (edge_key 4 v) 3 (min v 7) refl (omega arith) (λ same. not_equal 4 (i + 1) e (omega arith))
edge_no i (suc (suc (suc (suc (suc c))))) v below most byte e = absurd (omega arith)

moves_high : (v k : ℕ) (o : ℤ) → v < 256 → k ≡ max v 248 → pos 0 ≤ℤ o → o ≤ℤ pos 7 → moved v o ≡ moved k o
moves_high v k o byte is least most = omega (arith, ints, clamps)

moves_low : (v k : ℕ) (o : ℤ) → v < 256 → k ≡ min v 7 → negsuc 6 ≤ℤ o → o ≤ℤ pos 0 → moved v o ≡ moved k o
moves_low v k o byte is least most = omega (arith, ints, clamps)

edge_moves : (i c v class : ℕ) (o : ℤ) → i < 4 → c ≡ i + 1 → v < 256 → IsBetween (least_offset (Edge class) i) (most_offset (Edge class) i) o →
    moved v o ≡ moved (edge_base i + (edge_key c v - 8 * i)) o
edge_moves zero c v class o below same byte between =
    moves_high v (248 + (edge_key c v - 0)) o byte (rw same (omega arith)) between.least between.most
edge_moves (suc zero) c v class o below same byte between =
    moves_high v (248 + (edge_key c v - 8)) o byte (rw same (omega arith)) between.least between.most
edge_moves (suc (suc zero)) c v class o below same byte between =
    moves_low v (0 + (edge_key c v - 16)) o byte (rw same (omega arith)) between.least between.most
edge_moves (suc (suc (suc zero))) c v class o below same byte between =
    moves_low v (0 + (edge_key c v - 24)) o byte (rw same (omega arith)) between.least between.most
edge_moves (suc (suc (suc (suc i)))) c v class o below same byte between = absurd (omega arith)

pub edge_offset_is : (b : Block) (class i : ℕ) (tallies : List Tally) (value growth : ℤ) → i < 4 → HasByteSamples b.deblocked →
    Counts 32 (edge_key_at class b) b tallies →
    value ≡ clip3 (least_offset (Edge class) i) (most_offset (Edge class) i) (mean (group_sum tallies (8 * i)) (unsigned_abs (group_count tallies (8 * i)))) →
    growth ≡ group_growth tallies (8 * i) (edge_base i) value → IsOffset b (Edge class) i value growth
edge_offset_is b class i tallies value growth below bytes h is grows =
    let byte : (a : Location) → sample_at b.deblocked a.x a.y < 256 = λ a. byte_at b.deblocked.samples (a.y * b.deblocked.width + a.x) bytes in
    offset_is b (Edge class) i 32 (edge_key_at class b) (8 * i) (edge_base i) tallies value growth below
    (record {
      yes = λ a e. edge_yes i (edgeIdx class b.deblocked a.x a.y) (sample_at b.deblocked a.x a.y) below (category_most (Edge class) b.deblocked a.x a.y) (byte a) e;
      no = λ a e. edge_no i (edgeIdx class b.deblocked a.x a.y) (sample_at b.deblocked a.x a.y) below (category_most (Edge class) b.deblocked a.x a.y) (byte a) e;
    })
    (omega arith) h
    (λ a o cat between. edge_moves i (edgeIdx class b.deblocked a.x a.y) (sample_at b.deblocked a.x a.y) class o below cat (byte a) between)
    is grows
