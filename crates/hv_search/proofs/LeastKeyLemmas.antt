-- The least of keys is the first least of scores.
use Rattle.std.proofs.Common.{◌≡◌, ℕ, ◌+◌, ◌*◌, ◌/◌, ◌%◌, ◌<◌, ◌≤◌, zero, suc, refl, arith, add-one, min, ap, ◌∙◌, sym}
use mathlib.Core.Logic.{◌⊎◌, inl, inr}
use Rattle.std.proofs.lemmas.Bool.{cases_lt}
use Rattle.hv_search.specs.Nodes.{IsFirstLeast, number_at, place_of, least_of, key_at, LeastKeyShows}

pub least_of_none : (start : ℕ) (f : ℕ → ℕ) → least_of start f 0 ≡ start
unfolding least_of
least_of_none start f = refl

pub least_of_more : (start : ℕ) (f : ℕ → ℕ) (n : ℕ) → least_of start f (n + 1) ≡ min (least_of start f n) (f n)
unfolding least_of
least_of_more start f n = rw add-one refl

pub least_below : (start : ℕ) (f : ℕ → ℕ) (n t : ℕ) → t < n → least_of start f n ≤ f t
unfolding least_of
least_below start f zero t h = absurd (omega arith)
least_below start f (suc n) t h = grind (arith, least_below start f n t)

-- what the least is one of
pub record Found (f : ℕ → ℕ) (n k : ℕ) : Type 0 where
  pub at : ℕ
  pub below : at < n
  pub is : k ≡ f at

pub found_least : (start : ℕ) (f : ℕ → ℕ) (n : ℕ) → f 0 < start → Found f (suc n) (least_of start f (suc n))
unfolding least_of
found_least start f zero h = record { at = 0; below = omega arith; is = omega (arith, h) }
found_least start f (suc n) h = last_or (cases_lt (f (suc n)) (least_of start f (suc n))) (found_least start f n h)
  where
    last_or : (f (suc n) < least_of start f (suc n)) ⊎ (least_of start f (suc n) ≤ f (suc n)) → Found f (suc n) (least_of start f (suc n)) → Found f (suc (suc n)) (min (least_of start f (suc n)) (f (suc n)))
    last_or (inl less) before = record { at = suc n; below = omega arith; is = omega (arith, less) }
    last_or (inr more) before = record { at = before.at; below = omega (arith, before.below); is = omega (arith, more, before.is) }

key_is_score : (s t : ℕ) → t < 289 → ((s * 512 + number_at t) / 512 ≡ s) × ((s * 512 + number_at t) % 512 ≡ number_at t)
key_is_score s t h = (grind arith, grind arith)

place_of_number : (t : ℕ) → t < 289 → place_of (number_at t) ≡ t
place_of_number t h = grind arith

number_below : (t : ℕ) → t < 289 → number_at t < 290
number_below t h = grind arith

-- the place of a candidate
pub place_below : (j : ℕ) → j < 290 → place_of j < 289
place_below j h = grind arith

number_below_j : (j : ℕ) → j < 290 → number_at (place_of j) ≤ j
number_below_j j h = grind arith

-- the least of all keys shows the first least of the candidates 0 to 289, and its score
pub least_key_shows : LeastKeyShows
least_key_shows score small k e = shown (found_least 4294967295 (key_at score) 288 (omega (arith, small)))
  where
    shown : Found (key_at score) 289 (least_of 4294967295 (key_at score) 289) → IsFirstLeast (λ i. score (place_of i)) 290 (k % 512) × (k / 512 ≡ score (place_of (k % 512)))
    shown f =
        let t : ℕ = f.at in
        let is : k ≡ score t * 512 + number_at t = e ∙ f.is in
        let parts = key_is_score (score t) t f.below in
        let number : k % 512 ≡ number_at t = rw is parts.1 in
        let value : k / 512 ≡ score t = rw is parts.0 in
        let back : place_of (k % 512) ≡ t = rw number (place_of_number t f.below) in
        let of : score (place_of (k % 512)) ≡ score t = ap score back in
        let small_number : number_at t < 290 = number_below t f.below in (
          (
            omega (arith, number, small_number),
            (λ j h. let b = key_below j h in omega (arith, of, b, is)),
            (λ j h. let b = key_below j (omega (arith, h, number, small_number)) in omega (arith, of, b, is, number, h)),
          ),
          value ∙ sym of,
        )
      where
        -- the least key is at most that of each candidate, as j counts it
        key_below : (j : ℕ) → j < 290 → k ≤ score (place_of j) * 512 + j
        key_below j h = omega (arith, e, number_below_j j h, least_below 4294967295 (key_at score) 289 (place_of j) (place_below j h))

-- one more key
pub key_step : (score : ℕ → ℕ) (t t' old new sum number : ℕ) → t' ≡ t + 1 → new ≡ min old (sum * 512 + number) → old ≡ least_of 4294967295 (key_at score) t → sum ≡ score t → number ≡ number_at t → new ≡ least_of 4294967295 (key_at score) t'
key_step score t t' old new sum number e is before same counted =
    rw (e, is, before, same, counted) (sym (least_of_more 4294967295 (key_at score) t))
