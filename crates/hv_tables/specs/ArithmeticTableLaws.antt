-- How the tables of the arithmetic decoder (9.3.4.3.2) come about. The standard prints their
-- numbers alone. The rule here is this project's own: it gives every number but those that are
-- named.
use Rattle.std.specs.Prelude.{◌≡◌, ℕ, zero, suc, ◌+◌, ◌-◌, ◌*◌, ◌/◌, ◌^◌, ◌<◌, ◌≤◌, Bool, cond, nat_eq, nat_lt, min, max, ◌&&◌, ◌||◌, [], slice_index_or}
use Rattle.hv_tables.specs.ArithmeticTables.{rangeTabLps, transIdxLps}

-- A pStateIdx stands for a probability of the less probable value. It is a half in state 0, and
-- falls from state to state by one factor, of which the 63rd power is 3/80. Both are in parts of
-- 2^48.
abbrev pub factor : ℕ
factor = 267180874843687

abbrev pub FactorIsNearest : Type 0
FactorIsNearest =
    (80 * factor ^ 63 ≤ 3 * 2 ^ 3024) × (3 * 2 ^ 3024 < 80 * (factor + 1) ^ 63)

abbrev pub probability : ℕ → ℕ
probability zero = 2 ^ 47
probability (suc state) = probability state * factor / 2 ^ 48

-- ---- the width of the less probable part: the probability of 287.2 (fitted to the table: no
-- standard gives it) in the first quarter, and of 64
-- more in each quarter after it, to the nearest; 6 at least, and 128 at most in the first quarter

abbrev pub nearest_width : ℕ → ℕ → ℕ
nearest_width state quarter =
    (2 * probability state * (1436 + 320 * quarter) + 5 * 2 ^ 48) / (10 * 2 ^ 48)

abbrev pub most_width : ℕ → ℕ
most_width quarter = cond (nat_eq quarter 0) 128 240

abbrev pub clipped_width : ℕ → ℕ → ℕ
clipped_width state quarter = min (most_width quarter) (max 6 (nearest_width state quarter))

-- two numbers of the table are one less, and one is one more
abbrev pub is_one_less : ℕ → ℕ → Bool
is_one_less state quarter = nat_eq state 4 && nat_lt quarter 2

abbrev pub is_one_more : ℕ → ℕ → Bool
is_one_more state quarter = nat_eq state 20 && nat_eq quarter 3

abbrev pub width_by_rule : ℕ → ℕ → ℕ
width_by_rule state quarter =
    let width = clipped_width state quarter in
    cond (is_one_less state quarter) (width - 1)
    (cond (is_one_more state quarter) (width + 1) width)

abbrev pub width_at : ℕ → ℕ → ℕ
width_at state quarter = slice_index_or (slice_index_or rangeTabLps state []) quarter 0

abbrev pub WidthsFollowTheRule : Type 0
WidthsFollowTheRule =
    (state quarter : ℕ) → state < 63 → quarter < 4 →
    width_at state quarter ≡ width_by_rule state quarter

-- state 63 has the width of the bin before terminate (9.3.4.3.5)
abbrev pub LastWidthsAreTwo : Type 0
LastWidthsAreTwo = (quarter : ℕ) → quarter < 4 → width_at 63 quarter ≡ 2

-- ---- the state after the less probable value: that of which the probability is nearest to p times
-- the factor, and 1 less the factor more, where p is the probability before

abbrev pub grown_probability : ℕ → ℕ
grown_probability state = probability state * factor / 2 ^ 48 + (2 ^ 48 - factor)

-- how many states on from one of probability q the probability is nearest to p
abbrev pub states_on : ℕ → ℕ → ℕ → ℕ
states_on zero q p = 0
states_on (suc fuel) q p =
    let r = q * factor / 2 ^ 48 in
    cond (nat_lt (2 * p) (q + r)) (suc (states_on fuel r p)) 0

abbrev pub nearest_state : ℕ → ℕ
nearest_state state = states_on 62 (2 ^ 47) (grown_probability state)

-- six numbers of the table are one less, and four are one more
abbrev pub goes_one_less : ℕ → Bool
goes_one_less state =
    nat_eq state 4 || nat_eq state 12 || nat_eq state 17 || nat_eq state 21 || nat_eq state 25 ||
    nat_eq state 43

abbrev pub goes_one_more : ℕ → Bool
goes_one_more state =
    nat_eq state 13 || nat_eq state 18 || nat_eq state 22 || nat_eq state 26

abbrev pub successor_by_rule : ℕ → ℕ
successor_by_rule state =
    let nearest = nearest_state state in
    cond (goes_one_less state) (nearest - 1) (cond (goes_one_more state) (nearest + 1) nearest)

abbrev pub SuccessorsFollowTheRule : Type 0
SuccessorsFollowTheRule =
    (state : ℕ) → state < 63 → slice_index_or transIdxLps state 63 ≡ successor_by_rule state

-- state 63 stays
abbrev pub LastStateStays : Type 0
LastStateStays = slice_index_or transIdxLps 63 0 ≡ 63
