-- Each picture of a group has a frame, and stands there where others refer to it: found by
-- computing all groups.
use Rattle.std.proofs.Common.{◌≡◌, ℕ, zero, suc, ◌+◌, ◌^◌, ◌≤◌, Bool, true, false, nat_eq, nat_lt, ◌&&◌, List, [], slice_index_or, refl, ap, eqb-true, arith}
use Rattle.std.specs.Prelude.{Option, Some, None}
use Rattle.std.proofs.lemmas.Bool.{and_parts, cases_lt, ltb-true, false≢true}
use Rattle.std.specs.List.{list_all}
use Rattle.hv_types.specs.Configuration.{most_levels}
use Rattle.hv_group_model.specs.Structure.{Coded, coded, coding, coded_of, place_in, falling, rising}
use Rattle.hv_lemmas.proofs.ComputedLemmas.{holds_at}
use Rattle.hv_group_model.proofs.NumberListLemmas.{below_all}
use Rattle.hv_decision.proofs.EachStructureLemmas.{each_count, each_levels}
use Rattle.hv_serial.specs.Slots.{slot_in, frames_for, held_in, IsServed, FramesServe}

is_some_number : Option ℕ → ℕ → Bool
is_some_number None k = false
is_some_number (Some n) k = nat_eq n k

that_number : (o : Option ℕ) (k : ℕ) → is_some_number o k ≡ true → o ≡ Some k
unfolding is_some_number
that_number None k e = absurd (false≢true e)
that_number (Some n) k e = ap Some (eqb-true n k e)

has_slot : ℕ → ℕ → List Coded → ℕ → Bool
has_slot count levels order k = nat_lt (slot_in levels order k) (frames_for count levels)

finds_reference : ℕ → List Coded → ℕ → ℕ → Bool
finds_reference levels order place r =
    is_some_number (held_in levels order place (slot_in levels order r)) r

finds_all : ℕ → List Coded → ℕ → Bool
finds_all levels order k =
    let place = place_in order k in
    list_all (finds_reference levels order place)
    (slice_index_or order place (coded 0 0 [])).references

unfoldable is_served : ℕ → ℕ → List Coded → Bool
is_served count levels order =
    list_all (has_slot count levels order) (falling count)
    && list_all (finds_all levels order) (falling count)

unfoldable is_served_count : ℕ → Bool
is_served_count count =
    list_all (λ levels. is_served count levels (coding count levels)) (rising (most_levels + 1) 0)

low : list_all is_served_count (rising 40 1) ≡ true
unfolding is_served_count is_served held_in has_slot finds_all finds_reference is_some_number
low = refl

high : list_all is_served_count (rising 24 41) ≡ true
unfolding is_served_count is_served held_in has_slot finds_all finds_reference is_some_number
high = refl

levels_at : (count levels : ℕ) → is_served_count count ≡ true → levels ≤ most_levels →
    is_served count levels (coding count levels) ≡ true
unfolding is_served_count
levels_at count levels all few =
    each_levels (λ l. is_served count l (coding count l)) levels all few

from_test : (count levels : ℕ) → is_served count levels (coding count levels) ≡ true →
    IsServed count levels
unfolding is_served has_slot finds_all finds_reference
from_test count levels e =
    let order : List Coded = coding count levels in
    let parts = and_parts _ _ e in
    record {
      slots = λ picture below.
          ltb-true _ _ (below_all (has_slot count levels order) count picture parts.0 below);
      held = λ picture below k d inside.
          that_number _ _
          (holds_at (finds_reference levels order (place_in order picture))
          (coded_of count levels picture).references k d
          (below_all (finds_all levels order) count picture parts.1 below) inside);
    }

pub served : FramesServe
served count levels some most few =
    from_test count levels
    (levels_at count levels
    (each_count is_served_count count low high some most (cases_lt count 41)) few)

-- anchors lie eight pictures apart at most
pub few_spans : (levels : ℕ) → levels ≤ 3 → 2 ^ levels ≤ 8
few_spans zero few = omega arith
few_spans (suc zero) few = omega arith
few_spans (suc (suc zero)) few = omega arith
few_spans (suc (suc (suc zero))) few = omega arith
few_spans (suc (suc (suc (suc n)))) few = absurd (omega (arith, few))
