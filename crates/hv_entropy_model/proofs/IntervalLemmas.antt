-- What a bin does with the interval, and that the number of the code word lies in each interval of
-- its coding.
use Rattle.std.proofs.Common.{◌≡◌, ℕ, zero, suc, ◌+◌, ◌-◌, ◌*◌, ◌/◌, ◌%◌, ◌^◌, ◌<◌, ◌≤◌, Bool, true, false, cond, ltb, List, [], ◌∷◌, refl, arith, ltb-true, ltb-false, pow-suc, pow-add, mul-le-mul_right}
use Rattle.std.proofs.lemmas.Bool.{cond_both}
use Rattle.hv_tables.specs.Bins.{Question, Context, Bypass, Terminate, Bin}
use Rattle.hv_tables.proofs.ArithmeticTableLemmas.{width_bounds}
use Rattle.hv_entropy_model.specs.Contexts.{ContextVariable, variable_at, lps_width}
use Rattle.hv_lemmas.specs.Booleans.{same}
use Rattle.hv_entropy_model.specs.IntervalLaws.{IsWithin}
use Rattle.hv_entropy_model.specs.CodeWord.{doublings, shift_of, Cut, part, cut, is_last, Interval, advance, reach, odd_from}

-- ---- renormalization
twice : (w k : ℕ) → w * 2 ^ suc k ≡ 2 * w * 2 ^ k
twice w k = rw (pow-suc 2 k) (omega arith)

doubled : (fuel w : ℕ) → 0 < w → w ≤ 510 → 256 ≤ w * 2 ^ fuel →
    (256 ≤ w * 2 ^ doublings fuel w) × (w * 2 ^ doublings fuel w ≤ 510)
doubled zero w p q r = (omega arith, omega arith)
doubled (suc fuel) w p q r =
    cond_both (ltb w 256) (suc (doublings fuel (2 * w))) 0
    (λ d. (256 ≤ w * 2 ^ d) × (w * 2 ^ d ≤ 510))
    (λ e.
    let lt : w < 256 = ltb-true w 256 e in
    let ih = doubled fuel (2 * w) (omega arith) (omega arith) (omega (arith, twice w fuel)) in
    let t = twice w (doublings fuel (2 * w)) in
    (omega (arith, ih.0, t), omega (arith, ih.1, t)))
    (λ e. let le : 256 ≤ w = ltb-false w 256 e in (omega arith, omega arith))

-- a width of 1 to 510 is doubled into 256 to 510
pub shift_fits : (w : ℕ) → 0 < w → w ≤ 510 →
    (256 ≤ w * 2 ^ shift_of w) × (w * 2 ^ shift_of w ≤ 510)
unfolding shift_of
shift_fits w p q = doubled 8 w p q (omega arith)

-- the less probable part has 2 to 240 of any range
pub lps_bounds : (v : ContextVariable) (range : ℕ) →
    (1 < lps_width v range) × (lps_width v range < 241)
unfolding lps_width
lps_bounds v range = width_bounds (v.pStateIdx % 64) (range / 64 % 4) (omega arith) (omega arith)

-- ---- one bin
part_within : (range skip w : ℕ) → 0 < w → w ≤ 510 → skip + w ≤ range →
    IsWithin range (part skip w)
part_within range skip w p q r =
    let s = shift_fits w p q in
    let m = mul-le-mul_right (2 ^ shift_of w) r in
    record { inside = omega (arith, m); wide = s.0; narrow = s.1 }

pub cut_within : (variables : List ContextVariable) (range : ℕ) (q : Question) (v : Bool) →
    256 ≤ range → range ≤ 510 → is_last q v ≡ false → IsWithin range (cut variables range q v)
cut_within variables range (Context c) v p q r =
    let b = lps_bounds (variable_at variables c) range in
    let l : ℕ = lps_width (variable_at variables c) range in
    cond_both (same v (variable_at variables c).valMps) (part 0 (range - l)) (part (range - l) l)
    (IsWithin range)
    (λ e.
    part_within range 0 (range - l) (omega (arith, b.1)) (omega (arith, b.0)) (omega (arith, b.1)))
    (λ e.
    part_within range (range - l) l (omega (arith, b.0)) (omega (arith, b.1)) (omega (arith, b.1)))
cut_within variables range Bypass true p q r =
    record { inside = omega arith; wide = p; narrow = q }
cut_within variables range Bypass false p q r =
    record { inside = omega arith; wide = p; narrow = q }
cut_within variables range Terminate v p q r =
    part_within range 0 (range - 2) (omega arith) (omega arith) (omega arith)

-- ---- the whole list
-- the number of the word, where the interval before the end is this one
abbrev pub number_at : Interval → ℕ
number_at i = odd_from (i.low + i.range - 2)

-- how often the interval is doubled from here to the end
abbrev pub places : Interval → List Bin → ℕ
places i [] = 0
places i (b ∷ bins) =
    cond (is_last b.question b.value) 0
    ((cut i.variables i.range b.question b.value).times + places (advance i b) bins)

places_case : (i : Interval) (b : Bin) (bins : List Bin) →
    (reach (advance i b) bins).n ≡ (advance i b).n + places (advance i b) bins →
    (t : Bool) → is_last b.question b.value ≡ t →
    (reach i (b ∷ bins)).n ≡ i.n + places i (b ∷ bins)
places_case i b bins ih true h = rw h (omega arith)
places_case i b bins ih false h = rw h (omega (arith, ih))

pub n-reach : (bins : List Bin) (i : Interval) → (reach i bins).n ≡ i.n + places i bins
n-reach [] i = omega arith
n-reach (b ∷ bins) i =
    places_case i b bins (n-reach bins (advance i b)) (is_last b.question b.value) refl

-- the number f of all digits lies in the interval (low, range), when k of its digits come after it
pub record IsNested (low range k f : ℕ) : Type 0 where
  pub from : low * 2 ^ k ≤ f
  pub below : f < (low + range) * 2 ^ k

pub odd_near : (v : ℕ) → (v ≤ odd_from v) × (odd_from v < v + 2)
odd_near v = (omega arith, omega arith)

last_nested : (i : Interval) → 256 ≤ i.range → IsNested i.low i.range 0 (number_at i)
last_nested i p =
    let o = odd_near (i.low + i.range - 2) in
    record { from = omega (arith, o.0); below = omega (arith, o.1, p) }

nested_step : (low range f k : ℕ) (c : Cut) → IsWithin range c →
    IsNested (low * 2 ^ c.times + c.skip) c.width k f → IsNested low range (c.times + k) f
nested_step low range f k c i n =
    let e = pow-add 2 c.times k in
    let m = mul-le-mul_right (2 ^ k) i.inside in
    record { from = rw e (omega (arith, n.from)); below = rw e (omega (arith, n.below, m)) }

IsNestedAt : Interval → List Bin → Type 0
IsNestedAt i bins = IsNested i.low i.range (places i bins) (number_at (reach i bins))

nested_case : (b : Bin) (bins : List Bin) (i : Interval) → 256 ≤ i.range → i.range ≤ 510 →
    (IsWithin i.range (cut i.variables i.range b.question b.value) →
    IsNestedAt (advance i b) bins) →
    (t : Bool) → is_last b.question b.value ≡ t → IsNestedAt i (b ∷ bins)
unfolding IsNestedAt
nested_case b bins i p q ih true h = rw h (last_nested i p)
nested_case b bins i p q ih false h =
    let c = cut i.variables i.range b.question b.value in
    let w = cut_within i.variables i.range b.question b.value p q h in
    rw h (nested_step i.low i.range _ _ c w (ih w))

nested_at : (bins : List Bin) (i : Interval) → 256 ≤ i.range → i.range ≤ 510 → IsNestedAt i bins
unfolding IsNestedAt
nested_at [] i p q = last_nested i p
nested_at (b ∷ bins) i p q =
    nested_case b bins i p q (λ w. nested_at bins (advance i b) w.wide w.narrow)
    (is_last b.question b.value) refl

-- the word's number lies in the interval before each of its bins
pub nested : (bins : List Bin) (i : Interval) → 256 ≤ i.range → i.range ≤ 510 →
    IsNested i.low i.range (places i bins) (number_at (reach i bins))
unfolding IsNestedAt
nested bins i p q = nested_at bins i p q
