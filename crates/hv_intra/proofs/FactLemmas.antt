-- What is computed over all sides, modes and rows.
use Rattle.std.proofs.Common.{◌≡◌, ℕ, ◌+◌, ◌-◌, ◌*◌, ◌/◌, ◌%◌, ◌^◌, ◌<◌, ◌≤◌, Bool, true, false, refl, arith, nat_lt, ◌||◌, ◌&&◌, inl, inr, cond}
use Rattle.std.specs.Prelude.{◌⊎◌}
use Rattle.std.proofs.Math.Dec.{ltb, eqb, leb}
use Rattle.std.specs.Prelude.{ℤ, pos, negsuc, ◌+ℤ◌, ◌*ℤ◌}
use Rattle.std.specs.Int.{int_shr}
use Rattle.std.specs.Int.RustNames.{unsigned_abs}
use Rattle.std.proofs.lemmas.Bool.{eqb-true, leb-true, and_parts}
use Rattle.std.proofs.lemmas.Bool.Decides.{nat_tests}
use borrow.Author.Tests.{ltb-true}
use Rattle.hv_lemmas.proofs.ComputedLemmas.{all_below, holds_below, holds_between}
use Rattle.hv_tables.specs.Angles.{invAngle}
use Rattle.hv_intra.specs.References.{shift, part, first, projected, projected_count}
use Rattle.hv_intra.proofs.SideLemmas.{by_side}

is_natural : ℤ → Bool
is_natural (pos n) = true
is_natural (negsuc n) = false

natural : (z : ℤ) → is_natural z ≡ true → pos (unsigned_abs z) ≡ z
unfolding is_natural
natural (pos n) h = refl
natural (negsuc n) h = absurd cc

-- ---- rows
row_test : ℕ → ℕ → ℕ → Bool
row_test log2 mode across =
    is_natural (pos (2 ^ log2 + 1) +ℤ shift mode across) &&
    leb (2 ^ log2) (first log2 mode across + projected_count log2 mode) &&
    leb (first log2 mode across + 2 ^ log2) (3 * 2 ^ log2 + 1) &&
    (eqb (part mode across) 0 || ltb (first log2 mode across + 2 ^ log2) (3 * 2 ^ log2 + 1)) &&
    ltb (part mode across) 32

rows_test : ℕ → Bool
rows_test log2 = all_below 35 (λ mode. nat_lt mode 2 || all_below (2 ^ log2) (row_test log2 mode))

rows_pass : (log2 : ℕ) → 2 ≤ log2 → log2 ≤ 5 → rows_test log2 ≡ true
unfolding rows_test row_test is_natural shift first part projected_count
rows_pass = by_side (λ log2. rows_test log2 ≡ true) refl refl refl refl

pub record RowFacts (log2 mode across : ℕ) : Type 0 where
  pub is : pos (first log2 mode across) ≡ pos (2 ^ log2 + 1) +ℤ shift mode across
  pub least : 2 ^ log2 ≤ first log2 mode across + projected_count log2 mode
  pub most : first log2 mode across + 2 ^ log2 ≤ 3 * 2 ^ log2 + 1
  pub next : (part mode across ≡ 0) ⊎ (first log2 mode across + 2 ^ log2 < 3 * 2 ^ log2 + 1)
  pub rest : part mode across < 32

either : (b c : Bool) → b || c ≡ true → (b ≡ true) ⊎ (c ≡ true)
either true c h = inl refl
either false c h = inr h

next_is : (p a b : ℕ) → (eqb p 0 ≡ true) ⊎ (ltb a b ≡ true) → (p ≡ 0) ⊎ (a < b)
next_is p a b (inl h) = inl (eqb-true _ _ h)
next_is p a b (inr h) = inr (ltb-true _ _ h)

pub row_facts : (log2 mode across : ℕ) → 2 ≤ log2 → log2 ≤ 5 → 2 ≤ mode → mode ≤ 34 →
    across < 2 ^ log2 → RowFacts log2 mode across
unfolding rows_test row_test first
row_facts log2 mode across least most first_mode last_mode below =
    let r = holds_between 2 35 (λ mode. all_below (2 ^ log2) (row_test log2 mode)) (rows_pass log2 least most) mode first_mode (omega arith) in
    let t = and_parts _ _ (holds_below (2 ^ log2) (row_test log2 mode) r across below) in
    let u = and_parts _ _ t.0 in
    let v = and_parts _ _ u.0 in
    let w = and_parts _ _ v.0 in
    record {
      is = natural (pos (2 ^ log2 + 1) +ℤ shift mode across) w.0;
      least = leb-true _ _ w.1;
      most = leb-true _ _ v.1;
      next = next_is _ _ _ (either _ _ u.1);
      rest = ltb-true _ _ t.1;
    }

-- ---- projected samples
is_projecting : ℕ → Bool
is_projecting mode = leb 11 mode && leb mode 25

count_test : ℕ → ℕ → Bool
count_test log2 mode =
    leb 1 (unsigned_abs (shift mode (2 ^ log2 - 1))) && leb (projected_count log2 mode) (2 ^ log2) &&
    all_below (projected_count log2 mode) (λ i. leb (projected mode i) (2 ^ log2))

counts_test : ℕ → Bool
counts_test log2 = all_below 26 (λ mode. nat_lt mode 11 || count_test log2 mode)

counts_pass : (log2 : ℕ) → 2 ≤ log2 → log2 ≤ 5 → counts_test log2 ≡ true
unfolding counts_test count_test shift projected projected_count
counts_pass = by_side (λ log2. counts_test log2 ≡ true) refl refl refl refl

count_passes : (log2 mode : ℕ) → 2 ≤ log2 → log2 ≤ 5 → 11 ≤ mode → mode ≤ 25 → count_test log2 mode ≡ true
unfolding counts_test
count_passes log2 mode least most from to =
    holds_between 11 26 (count_test log2) (counts_pass log2 least most) mode from (omega arith)

counted : (b : Bool) (a i : ℕ) → i < cond b a 0 → b ≡ true
counted true a i h = refl
counted false a i h = absurd (omega arith)

is_counted : (log2 mode i : ℕ) → i < projected_count log2 mode → (11 ≤ mode) × (mode ≤ 25)
unfolding projected_count
is_counted log2 mode i h =
    let t = and_parts _ _ (counted (leb 11 mode && leb mode 25) _ i h) in
    (leb-true _ _ t.0, leb-true _ _ t.1)

pub counted_first : (log2 mode i : ℕ) → i < projected_count log2 mode → 11 ≤ mode
counted_first log2 mode i h = (is_counted log2 mode i h).0

pub counted_last : (log2 mode i : ℕ) → i < projected_count log2 mode → mode ≤ 25
counted_last log2 mode i h = (is_counted log2 mode i h).1

pub projected_count_is : (log2 mode : ℕ) → 11 ≤ mode → mode ≤ 25 →
    projected_count log2 mode ≡ unsigned_abs (shift mode (2 ^ log2 - 1)) - 1
unfolding projected_count
projected_count_is log2 mode from to = grind (arith, nat_tests)

pub projected_count_none : (log2 mode : ℕ) → ((11 ≤ mode) × (25 < mode)) ⊎ (mode < 11) →
    projected_count log2 mode ≡ 0
unfolding projected_count
projected_count_none log2 mode (inl h) = grind (arith, nat_tests)
projected_count_none log2 mode (inr h) = grind (arith, nat_tests)

pub shift_some : (log2 mode : ℕ) → 2 ≤ log2 → log2 ≤ 5 → 11 ≤ mode → mode ≤ 25 →
    1 ≤ unsigned_abs (shift mode (2 ^ log2 - 1))
unfolding count_test
shift_some log2 mode least most from to =
    let t = and_parts _ _ (count_passes log2 mode least most from to) in
    let u = and_parts _ _ t.0 in
    leb-true _ _ u.0

pub counted_side : (log2 mode i : ℕ) → 2 ≤ log2 → log2 ≤ 5 → i < projected_count log2 mode → i < 2 ^ log2
unfolding count_test
counted_side log2 mode i least most h =
    let s = is_counted log2 mode i h in
    let t = and_parts _ _ (count_passes log2 mode least most s.0 s.1) in
    let u = and_parts (leb 1 (unsigned_abs (shift mode (2 ^ log2 - 1)))) (leb (projected_count log2 mode) (2 ^ log2)) t.0 in
    less log2 mode i h (leb-true _ _ u.1)
  where
    less : (log2 mode i : ℕ) → i < projected_count log2 mode → projected_count log2 mode ≤ 2 ^ log2 → i < 2 ^ log2
    less log2 mode i h k = omega arith

pub projected_inside : (log2 mode i : ℕ) → 2 ≤ log2 → log2 ≤ 5 → i < projected_count log2 mode →
    projected mode i ≤ 2 ^ log2
unfolding count_test
projected_inside log2 mode i least most h =
    let s = is_counted log2 mode i h in
    let t = and_parts _ _ (count_passes log2 mode least most s.0 s.1) in
    leb-true _ _
    (holds_below (projected_count log2 mode) (λ i. leb (projected mode i) (2 ^ log2)) t.1 i h)

place_test : ℕ → ℕ → Bool
place_test mode i = is_natural (int_shr (negsuc i *ℤ invAngle mode +ℤ pos 128) 8)

places_pass : all_below 26 (λ mode. nat_lt mode 11 || all_below 32 (place_test mode)) ≡ true
unfolding place_test is_natural
places_pass = refl

pub projected_is : (mode i : ℕ) → 11 ≤ mode → mode ≤ 25 → i < 32 →
    pos (projected mode i) ≡ int_shr (negsuc i *ℤ invAngle mode +ℤ pos 128) 8
unfolding place_test projected
projected_is mode i from to below =
    let r = holds_between 11 26 (λ mode. all_below 32 (place_test mode)) places_pass mode from (omega arith) in
    natural (int_shr (negsuc i *ℤ invAngle mode +ℤ pos 128) 8) (holds_below 32 (place_test mode) r i below)

-- ---- weights
weight_test : ℕ → ℕ → Bool
weight_test mode across = eqb ((across + 1) * (2048 * part mode 0) % 65536 / 256) (8 * part mode across)

weights_pass : all_below 35 (λ mode. nat_lt mode 2 || all_below 32 (weight_test mode)) ≡ true
unfolding weight_test part
weights_pass = refl

-- the weight of a row, in 256ths, is what is left of so many times that of the first
pub weight_is : (mode across : ℕ) → 2 ≤ mode → mode ≤ 34 → across < 32 →
    (across + 1) * (2048 * part mode 0) % 65536 / 256 ≡ 8 * part mode across
unfolding weight_test
weight_is mode across from to below =
    let r = holds_between 2 35 (λ mode. all_below 32 (weight_test mode)) weights_pass mode from (omega arith) in
    eqb-true _ _ (holds_below 32 (weight_test mode) r across below)
