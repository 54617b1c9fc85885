-- Counts and sums of the samples of a block, by keys: what an offset changes is found from them.
use Rattle.std.specs.Prelude.{◌≡◌, ℕ, zero, suc, ◌+◌, ◌*◌, ◌<◌, ◌≤◌, Bool, cond, nat_eq, List, [], ◌∷◌, length, slice_index_or, ℤ, pos, ◌+ℤ◌, ◌-ℤ◌}
use Rattle.std.specs.Int.RustNames.{unsigned_abs}
use Rattle.hv_filter_model.specs.Blocks.{Location}
use Rattle.hv_sao.specs.declared.tally.Tally.{Tally}

-- f 0 + f 1 + .. : n numbers
unfoldable pub sum_upto : ℕ → (ℕ → ℤ) → ℤ
sum_upto zero f = pos 0
sum_upto (suc n) f = sum_upto n f +ℤ f n

-- the sum of f over the locations that pass a test
unfoldable pub chosen : (Location → Bool) → (Location → ℤ) → List Location → ℤ
chosen test f [] = pos 0
chosen test f (at ∷ rest) = cond (test at) (f at) (pos 0) +ℤ chosen test f rest

abbrev pub has_key : (Location → ℕ) → ℕ → Location → Bool
has_key key k at = nat_eq (key at) k

-- how many locations have key k, and the sum of their values
abbrev pub count_of : (Location → ℕ) → ℕ → List Location → ℤ
count_of key k = chosen (has_key key k) (λ at. pos 1)

abbrev pub sum_of_key : (Location → ℕ) → (Location → ℤ) → ℕ → List Location → ℤ
sum_of_key key value k = chosen (has_key key k) value

abbrev pub no_tally : Tally
no_tally = record { count = 0; sum = pos 0 }

abbrev pub tally_at : List Tally → ℕ → Tally
tally_at tallies k = slice_index_or tallies k no_tally

-- the locations are counted in the first n tallies
pub record Adds (n : ℕ) (key : Location → ℕ) (value : Location → ℤ) (added : List Location)
    (old new : List Tally) : Type 0 where
  pub size : length new ≡ length old
  pub counts : (k : ℕ) → k < n →
      pos (tally_at new k).count ≡ pos (tally_at old k).count +ℤ count_of key k added
  pub sums : (k : ℕ) → k < n →
      (tally_at new k).sum ≡ (tally_at old k).sum +ℤ sum_of_key key value k added

-- each of them counts so many locations at most, whose values are bytes or less
pub record AreAtMost (n most : ℕ) (tallies : List Tally) : Type 0 where
  pub counts : (k : ℕ) → k < n → (tally_at tallies k).count ≤ most
  pub sums : (k : ℕ) → k < n → unsigned_abs (tally_at tallies k).sum ≤ 255 * most

-- one sample more: as it is in the input, and as deblocked
abbrev pub counted : Tally → ℕ → ℕ → Tally
counted tally input sample = record {
  count = tally.count + 1;
  sum = tally.sum +ℤ (pos input -ℤ pos sample);
}
