-- A loop that adds numbers to samples, one after the other.
use Rattle.std.proofs.Common.{◌≡◌, ℕ, zero, suc, ◌<◌, List, [], ◌∷◌, ◌++◌, length, set, take, drop, get_or, refl, ap, arith, ℤ, pos, ◌+ℤ◌}
use Rattle.hv_lemmas.specs.Clipping.{clip1}
use Rattle.hv_recon_model.specs.Reconstruction.{sum_of}

-- the samples where so many sums were made
abbrev pub summed : List ℕ → List ℤ → ℕ → List ℕ
summed samples numbers i = sum_of (take i samples) (take i numbers) ++ drop i samples

pub read_next : (samples : List ℕ) (numbers : List ℤ) (i : ℕ) → i < length samples →
    length numbers ≡ length samples → get_or (summed samples numbers i) i 0 ≡ get_or samples i 0
read_next [] numbers i below same = absurd (omega (arith, below))
read_next (s ∷ samples) [] i below same = absurd (omega (arith, same))
read_next (s ∷ samples) (n ∷ numbers) zero below same = refl
read_next (s ∷ samples) (n ∷ numbers) (suc i) below same =
    read_next samples numbers i (omega (arith, below)) (omega (arith, same))

pub write_next : (samples : List ℕ) (numbers : List ℤ) (i : ℕ) → i < length samples →
    length numbers ≡ length samples →
    set (summed samples numbers i) i
    (clip1 (pos (get_or samples i 0) +ℤ get_or numbers i (pos 0))) ≡
    summed samples numbers (suc i)
write_next [] numbers i below same = absurd (omega (arith, below))
write_next (s ∷ samples) [] i below same = absurd (omega (arith, same))
write_next (s ∷ samples) (n ∷ numbers) zero below same = refl
write_next (s ∷ samples) (n ∷ numbers) (suc i) below same =
    ap (λ l. clip1 (pos s +ℤ n) ∷ l)
    (write_next samples numbers i (omega (arith, below)) (omega (arith, same)))

pub all_summed : (samples : List ℕ) (numbers : List ℤ) (i : ℕ) → i ≡ length samples →
    length numbers ≡ length samples → summed samples numbers i ≡ sum_of samples numbers
all_summed [] [] zero all same = refl
all_summed [] [] (suc i) all same = absurd (omega (arith, all))
all_summed [] (n ∷ numbers) i all same = absurd (omega (arith, same))
all_summed (s ∷ samples) [] i all same = absurd (omega (arith, same))
all_summed (s ∷ samples) (n ∷ numbers) zero all same = absurd (omega (arith, all))
all_summed (s ∷ samples) (n ∷ numbers) (suc i) all same =
    ap (λ l. clip1 (pos s +ℤ n) ∷ l)
    (all_summed samples numbers i (omega (arith, all)) (omega (arith, same)))
