-- How great the thresholds of an edge are (Table 8-12).
use Rattle.std.proofs.Common.{◌≡◌, ℕ, ◌<◌, ◌≤◌, Bool, true, refl, arith, nat_le, slice_index_or}
use Rattle.std.proofs.lemmas.Bool.Decides.{nat_tests}
use Rattle.hv_lemmas.proofs.ComputedLemmas.{holds_below}
use Rattle.hv_deblock_model.specs.EdgeFilters.{tc_row}

abbrev is_small : ℕ → Bool
is_small i = nat_le (slice_index_or tc_row i 0) 24

less : (a b : ℕ) → nat_le a b ≡ true → a ≤ b
less a b h = grind (arith, nat_tests, h)

pub tc_most : (i : ℕ) → i < 54 → slice_index_or tc_row i 0 ≤ 24
tc_most i below = less _ _ (holds_below 54 is_small refl i below)
