-- Zero bits and zero bytes: their number, and that they are bits.
use Rattle.std.proofs.Common.{◌≡◌, ℕ, zero, suc, ◌+◌, true, List, ◌∷◌, ◌++◌, length, refl, ap, arith}
use Rattle.std.specs.Prelude.{replicate}
use Rattle.std.specs.List.{list_all}
use Rattle.std.proofs.lemmas.List.{length-replicate}
use Rattle.hv_stream_model.specs.BitLaws.{AreBits}
use Rattle.hv_stream_model.specs.Units.{is_zero}
use Rattle.hv_stream_model.proofs.BitLemmas.{AreBits-replicate}

abbrev pub zeros : ℕ → List ℕ
zeros n = replicate n 0

pub length-zeros : (n : ℕ) → length (zeros n) ≡ n
length-zeros n = length-replicate n 0

pub zeros_zeros : (n m : ℕ) → zeros n ++ zeros m ≡ zeros (n + m)
zeros_zeros zero m = let none : zero + m ≡ m = omega arith in rw none refl
zeros_zeros (suc n) m =
    let one : suc n + m ≡ suc (n + m) = omega arith in rw one (ap (λ xs. 0 ∷ xs) (zeros_zeros n m))

pub AreBits-zeros : (n : ℕ) → AreBits (zeros n)
AreBits-zeros n = AreBits-replicate n 0 (omega arith)

pub all_zero : (n : ℕ) → list_all is_zero (zeros n) ≡ true
all_zero zero = refl
all_zero (suc n) = all_zero n
