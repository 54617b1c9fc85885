-- Square blocks of numbers by rows.
use Rattle.std.specs.Prelude.{ℕ, zero, suc, ◌+◌, ◌*◌, ◌^◌, List, flat_map, slice_index_or, ℤ, pos, ◌+ℤ◌}
use Rattle.hv_lemmas.specs.Lists.{tabulate}

-- the block of 2^log2 columns and rows whose number in column x of row y is f x y
abbrev pub square : {A : Type 0} → ℕ → (ℕ → ℕ → A) → List A
square log2 f = flat_map (λ row. row) (tabulate (2 ^ log2) (λ y. tabulate (2 ^ log2) (λ x. f x y)))

-- the number in column x of row y
abbrev pub at_place : ℕ → List ℤ → ℕ → ℕ → ℤ
at_place log2 block x y = slice_index_or block (y * 2 ^ log2 + x) (pos 0)

-- f 0 + f 1 + .. : n numbers
unfoldable pub sum_of : ℕ → (ℕ → ℤ) → ℤ
sum_of zero f = pos 0
sum_of (suc n) f = sum_of n f +ℤ f n

unfoldable pub total_of : ℕ → (ℕ → ℕ) → ℕ
total_of zero f = 0
total_of (suc n) f = total_of n f + f n
