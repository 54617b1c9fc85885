-- Counts, sums and growths of the tallies of a group, one tally at a time.
use Rattle.std.proofs.Common.{◌≡◌, ℕ, ◌+◌, List, ℤ, pos, ◌+ℤ◌, refl}
use Rattle.hv_sao.specs.declared.tally.Tally.{Tally}
use Rattle.hv_sao.specs.Tallies.{tally_at}
use Rattle.hv_sao.specs.Decisions.{counts_to, sums_to, growths_to, tally_growth, moved}
use Rattle.hv_sao.proofs.ChosenLemmas.{sum_upto_none, sum_upto_more}

pub counts_none : (tallies : List Tally) (at : ℕ) → counts_to 0 tallies at ≡ pos 0
unfolding counts_to
counts_none tallies at = sum_upto_none (λ j. pos (tally_at tallies (at + j)).count)

pub counts_more : (n : ℕ) (tallies : List Tally) (at : ℕ) →
    counts_to (n + 1) tallies at ≡ counts_to n tallies at +ℤ pos (tally_at tallies (at + n)).count
unfolding counts_to
counts_more n tallies at = sum_upto_more n (n + 1) (λ j. pos (tally_at tallies (at + j)).count) refl

pub sums_none : (tallies : List Tally) (at : ℕ) → sums_to 0 tallies at ≡ pos 0
unfolding sums_to
sums_none tallies at = sum_upto_none (λ j. (tally_at tallies (at + j)).sum)

pub sums_more : (n : ℕ) (tallies : List Tally) (at : ℕ) →
    sums_to (n + 1) tallies at ≡ sums_to n tallies at +ℤ (tally_at tallies (at + n)).sum
unfolding sums_to
sums_more n tallies at = sum_upto_more n (n + 1) (λ j. (tally_at tallies (at + j)).sum) refl

pub growths_none : (tallies : List Tally) (at base : ℕ) (offset : ℤ) → growths_to 0 tallies at base offset ≡ pos 0
unfolding growths_to
growths_none tallies at base offset = sum_upto_none (λ j. tally_growth (tally_at tallies (at + j)) (moved (base + j) offset))

pub growths_more : (n : ℕ) (tallies : List Tally) (at base : ℕ) (offset : ℤ) →
    growths_to (n + 1) tallies at base offset ≡
    growths_to n tallies at base offset +ℤ tally_growth (tally_at tallies (at + n)) (moved (base + n) offset)
unfolding growths_to
growths_more n tallies at base offset =
    sum_upto_more n (n + 1) (λ j. tally_growth (tally_at tallies (at + j)) (moved (base + j) offset)) refl
