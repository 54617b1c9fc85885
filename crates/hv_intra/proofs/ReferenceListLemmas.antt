-- The list of reference samples.
use Rattle.std.proofs.Common.{◌≡◌, ℕ, ◌+◌, ◌-◌, ◌*◌, ◌^◌, ◌<◌, ◌≤◌, List, length, get_or, set, refl, sym, ap, ◌∙◌, arith, inl, inr, get_or-set_same, get_or-set_other}
use Rattle.std.specs.Prelude.{◌⊎◌, pos, negsuc, ◌-ℤ◌}
use Rattle.std.proofs.lemmas.Bool.{cases_lt}
use Rattle.std.proofs.lemmas.Int.{ints}
use Rattle.hv_sample_model.specs.IntraPrediction.{ref}
use Rattle.hv_intra.specs.References.{projected, projected_count, HoldsReference}

-- ---- one more sample before the corner
pub main_kept : (n m i v : ℕ) (reference : List ℕ) (f : ℕ → ℕ) → m ≡ n → i < n →
    ((k : ℕ) → n ≤ k → k ≤ 3 * n → get_or reference k 0 ≡ f k) →
    (k : ℕ) → n ≤ k → k ≤ 3 * n → get_or (set reference (m - 1 - i) v) k 0 ≡ f k
main_kept n m i v reference f e below main k least most =
    get_or-set_other reference (m - 1 - i) k v 0 (λ same. absurd (omega arith)) ∙ main k least most

pub before_more : (n m i v : ℕ) (reference : List ℕ) (f : ℕ → ℕ) → m ≡ n → i < n →
    n ≤ length reference → v ≡ f i →
    ((k : ℕ) → n ≤ k + i → k < n → get_or reference k 0 ≡ f (n - 1 - k)) →
    (k : ℕ) → n ≤ k + (i + 1) → k < n → get_or (set reference (m - 1 - i) v) k 0 ≡ f (n - 1 - k)
before_more n m i v reference f e below room value before = λ k least inside. go k least inside (cases_lt (k + i) n)
  where
    go : (k : ℕ) → n ≤ k + (i + 1) → k < n → (k + i < n) ⊎ (n ≤ k + i) →
        get_or (set reference (m - 1 - i) v) k 0 ≡ f (n - 1 - k)
    go k least inside (inl h) =
        let place : k ≡ m - 1 - i = omega arith in
        let mirrored : i ≡ n - 1 - k = omega arith in
        ap (λ (j : ℕ). get_or (set reference (m - 1 - i) v) j 0) place ∙
        get_or-set_same reference (m - 1 - i) v 0 (omega arith) ∙ value ∙ ap f mirrored
    go k least inside (inr h) =
        get_or-set_other reference (m - 1 - i) k v 0 (λ same. absurd (omega arith)) ∙ before k h inside

-- ---- all of them
pub ref_main : (main other : ℕ → ℕ) (mode k n : ℕ) → n ≤ k → ref main other mode (pos k -ℤ pos n) ≡ main (k - n)
ref_main main other mode k n h =
    let e : pos k -ℤ pos n ≡ pos (k - n) = omega (arith, ints) in rw e refl

pub ref_other : (main other : ℕ → ℕ) (mode k n : ℕ) → k < n →
    ref main other mode (pos k -ℤ pos n) ≡ other (projected mode (n - 1 - k))
unfolding projected
ref_other main other mode k n h =
    let e : pos k -ℤ pos n ≡ negsuc (n - 1 - k) = omega (arith, ints) in rw e refl

pub reference_held : (log2 mode count : ℕ) (main other : ℕ → ℕ) (reference : List ℕ) →
    projected_count log2 mode ≤ count →
    ((k : ℕ) → 2 ^ log2 ≤ k → k ≤ 3 * 2 ^ log2 → get_or reference k 0 ≡ main (k - 2 ^ log2)) →
    ((k : ℕ) → 2 ^ log2 ≤ k + count → k < 2 ^ log2 →
    get_or reference k 0 ≡ other (projected mode (2 ^ log2 - 1 - k))) →
    HoldsReference log2 mode main other reference
reference_held log2 mode count main other reference enough after before =
    λ k least most. go k least most (cases_lt k (2 ^ log2))
  where
    go : (k : ℕ) → 2 ^ log2 ≤ k + projected_count log2 mode → k ≤ 3 * 2 ^ log2 →
        (k < 2 ^ log2) ⊎ (2 ^ log2 ≤ k) →
        get_or reference k 0 ≡ ref main other mode (pos k -ℤ pos (2 ^ log2))
    go k least most (inl h) =
        before k (omega arith) h ∙ sym (ref_other main other mode k (2 ^ log2) h)
    go k least most (inr h) = after k h most ∙ sym (ref_main main other mode k (2 ^ log2) h)
