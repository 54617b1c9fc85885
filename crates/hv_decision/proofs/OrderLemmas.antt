-- Each picture has one place in coding order, behind those to which it refers: found by computing all structures.
use Rattle.std.proofs.Common.{[], ◌≡◌, ℕ, ◌+◌, ◌≤◌, ◌<◌, arith, length, Bool, true, nat_eq, nat_lt, ◌&&◌, List, slice_index_or, refl, eqb-true}
use Rattle.std.proofs.lemmas.Bool.{and_parts, cases_lt, ltb-true}
use Rattle.std.specs.List.{list_all}
use Rattle.hv_types.specs.Configuration.{most_levels}
use Rattle.hv_group_model.specs.Structure.{Coded, coded, coding, coded_of, place_in, falling, rising}
use Rattle.hv_decision.specs.Orders.{IsOrder, AreOrders}
use Rattle.hv_lemmas.proofs.ComputedLemmas.{holds_at}
use Rattle.hv_group_model.proofs.NumberListLemmas.{below_all}
use Rattle.hv_decision.proofs.EachStructureLemmas.{each_count, each_levels, length-coding, place_below, picture-lt}

abbrev coded_at : List Coded → ℕ → Coded
coded_at order place = slice_index_or order place (coded 0 0 [])

unfoldable is_order : ℕ → List Coded → Bool
is_order count order =
    list_all (λ place. nat_eq (place_in order (coded_at order place).picture) place) (falling count)
    && (list_all (λ picture. nat_eq (coded_at order (place_in order picture)).picture picture) (falling count)
    && (list_all (λ place. list_all (λ r. nat_lt (place_in order r) place) (coded_at order place).references)
    (falling count)
    && list_all (λ c. nat_lt (length c.references) 3) order))

unfoldable is_order_count : ℕ → Bool
is_order_count count = list_all (λ levels. is_order count (coding count levels)) (rising (most_levels + 1) 0)

low : list_all is_order_count (rising 40 1) ≡ true
unfolding is_order_count is_order
low = refl

high : list_all is_order_count (rising 24 41) ≡ true
unfolding is_order_count is_order
high = refl

order_at : (count levels : ℕ) → is_order_count count ≡ true → levels ≤ most_levels → is_order count (coding count levels) ≡ true
unfolding is_order_count
order_at count levels all few = each_levels (λ l. is_order count (coding count l)) levels all few

from_test : (count levels : ℕ) → 1 ≤ count → count ≤ 64 → levels ≤ most_levels → is_order count (coding count levels) ≡ true →
    IsOrder count levels
unfolding is_order
from_test count levels some most few e =
    let order : List Coded = coding count levels in
    let one = and_parts _ _ e in
    let two = and_parts _ _ one.1 in
    let three = and_parts _ _ two.1 in
    let long = length-coding count levels some most few in
    record {
      below = λ place below. picture-lt count levels place some most few below;
      there = λ picture below. place_below count levels picture some most few below;
      place_of = λ place below. eqb-true _ _
          (below_all (λ p. nat_eq (place_in order (coded_at order p).picture) p) count place one.0 below);
      picture_of = λ picture below. eqb-true _ _
          (below_all (λ p. nat_eq (coded_at order (place_in order p)).picture p) count picture two.0 below);
      earlier = λ picture below k d inside.
          ltb-true _ _ (holds_at (λ r. nat_lt (place_in order r) (place_in order picture))
          (coded_at order (place_in order picture)).references k d
          (below_all (λ p. list_all (λ r. nat_lt (place_in order r) p) (coded_at order p).references) count
          (place_in order picture) three.0 (place_below count levels picture some most few below)) inside);
      references_most = λ picture below.
          let there = place_below count levels picture some most few below in
          let small : length (coded_of count levels picture).references < 3 =
          ltb-true _ _ (holds_at (λ c. nat_lt (length c.references) 3) order (place_in order picture)
          (coded 0 0 []) three.1 (omega (arith, long, there))) in
          omega arith;
    }

pub orders : AreOrders
orders count levels some most few =
    from_test count levels some most few
    (order_at count levels (each_count is_order_count count low high some most (cases_lt count 41)) few)
