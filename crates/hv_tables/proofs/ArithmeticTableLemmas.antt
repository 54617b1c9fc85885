-- What is computed once over the tables of the arithmetic decoder (9.3.4.3.2): bounds, the rule behind
-- them, and the table of the states after a bin.
use Rattle.std.proofs.Common.{◌≡◌, ℕ, ◌+◌, ◌*◌, ◌<◌, Bool, true, false, cond, ◌&&◌, eqb, ltb, List, get_or, slice_index_or, refl, arith, eqb-true, ltb-true, sym}
use Rattle.std.proofs.lemmas.Bool.{and_parts}
use Rattle.std.proofs.lemmas.Grind.{get_or_default_zero}
use Rattle.hv_lemmas.proofs.ComputedLemmas.{all_below, holds_below}
use Rattle.hv_tables.specs.ArithmeticTables.{transIdxLps, state_after, HasNextStates}
use Rattle.hv_tables.specs.ArithmeticTableLaws.{FactorIsNearest, width_at, width_by_rule, WidthsFollowTheRule, LastWidthsAreTwo, successor_by_rule, SuccessorsFollowTheRule, LastStateStays}

-- ---- bounds
in_range : ℕ → ℕ → Bool
in_range state quarter = ltb 1 (width_at state quarter) && ltb (width_at state quarter) 241

all_in_range : all_below 64 (λ state. all_below 4 (in_range state)) ≡ true
unfolding in_range
all_in_range = refl

-- the less probable part has 2 to 240 of any range
pub width_bounds : (state quarter : ℕ) → state < 64 → quarter < 4 →
    (1 < width_at state quarter) × (width_at state quarter < 241)
unfolding in_range
width_bounds state quarter h k =
    let row = holds_below 64 (λ state. all_below 4 (in_range state)) all_in_range state h in
    let both : in_range state quarter ≡ true = holds_below 4 (in_range state) row quarter k in
    let parts = and_parts (ltb 1 (width_at state quarter)) (ltb (width_at state quarter) 241) both in
    (ltb-true _ _ parts.0, ltb-true _ _ parts.1)

-- it doesn't matter what would stand past the end of the successors
pub successor_default : (i : ℕ) → i < 64 → get_or transIdxLps i 0 ≡ get_or transIdxLps i 63
successor_default i h = sym (get_or_default_zero transIdxLps i 63 (omega arith))

-- ---- the rule
pub factor_is_nearest : FactorIsNearest
factor_is_nearest = (omega arith, omega arith)

follows : ℕ → ℕ → Bool
follows state quarter = eqb (width_at state quarter) (width_by_rule state quarter)

all_follow : all_below 63 (λ state. all_below 4 (follows state)) ≡ true
unfolding follows
all_follow = refl

pub widths_follow : WidthsFollowTheRule
unfolding follows
widths_follow state quarter h k =
    let row = holds_below 63 (λ state. all_below 4 (follows state)) all_follow state h in
    eqb-true _ _ (holds_below 4 (follows state) row quarter k)

has_two : ℕ → Bool
has_two quarter = eqb (width_at 63 quarter) 2

all_two : all_below 4 has_two ≡ true
unfolding has_two
all_two = refl

pub last_widths : LastWidthsAreTwo
unfolding has_two
last_widths quarter h = eqb-true _ _ (holds_below 4 has_two all_two quarter h)

succeeds : ℕ → Bool
succeeds state = eqb (slice_index_or transIdxLps state 63) (successor_by_rule state)

all_succeed : all_below 63 succeeds ≡ true
unfolding succeeds
all_succeed = refl

pub successors_follow : SuccessorsFollowTheRule
unfolding succeeds
successors_follow state h = eqb-true _ _ (holds_below 63 succeeds all_succeed state h)

pub last_state : LastStateStays
last_state = refl

-- ---- the states after a bin, for each state after the value 0 and after 1
abbrev pub agrees_after : List ℕ → ℕ → Bool → Bool
agrees_after table state value =
    eqb (get_or table (state * 2 + cond value 1 0) 0) (state_after state value)

abbrev pub agrees : List ℕ → ℕ → Bool
agrees table state = agrees_after table state false && agrees_after table state true

agrees_case : (table : List ℕ) (state : ℕ) (value : Bool) → agrees table state ≡ true →
    agrees_after table state value ≡ true
agrees_case table state false h =
    (and_parts (agrees_after table state false) (agrees_after table state true) h).0
agrees_case table state true h =
    (and_parts (agrees_after table state false) (agrees_after table state true) h).1

pub next_are : (table : List ℕ) → all_below 128 (agrees table) ≡ true → HasNextStates table
next_are table all = record {
  each = λ state value h.
      eqb-true _ _ (agrees_case table state value (holds_below 128 (agrees table) all state h));
}
