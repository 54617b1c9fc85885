-- What is computed once over a whole table holds of each of its entries.
use Rattle.std.proofs.Common.{◌≡◌, ℕ, Bool, true, List, [], ℤ, pos, slice_index_or}
use Rattle.hv_lemmas.proofs.ComputedLemmas.{all_below, holds_below}
use Rattle.hv_tables.specs.Tables.{HasEntries}
use Rattle.std.specs.Ordering.{int_eq}
use Rattle.std.proofs.lemmas.Bool.Decides.{Decides-int_eq}

pub equal_numbers : (x y : ℤ) → int_eq x y ≡ true → x ≡ y
equal_numbers x y h = (Decides-int_eq x y).0 h

abbrev pub has_entry : List (List ℤ) → (ℕ → ℕ → ℤ) → ℕ → ℕ → Bool
has_entry rows f i j = int_eq (slice_index_or (slice_index_or rows i []) j (pos 0)) (f i j)

-- a table of n rows of n numbers has the numbers of a rule
pub entries_are : (n : ℕ) (rows : List (List ℤ)) (f : ℕ → ℕ → ℤ) → all_below n (λ i. all_below n (has_entry rows f i)) ≡ true → HasEntries n f rows
entries_are n rows f h = record {
  each = λ i j here there.
      let row : all_below n (has_entry rows f i) ≡ true = holds_below n (λ i. all_below n (has_entry rows f i)) h i here in
      equal_numbers _ (f i j) (holds_below n (has_entry rows f i) row j there);
}
