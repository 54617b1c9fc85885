-- Context variables as states of one number each, and the state after a bin (9.3.4.3.2.2), for
-- state_after.
use Rattle.std.proofs.Common.{◌≡◌, ℕ, ◌+◌, ◌*◌, ◌/◌, ◌%◌, ◌<◌, Bool, true, false, cond, ◌&&◌, eqb, refl, ap, ◌∙◌, arith, eqb-true}
use Rattle.std.proofs.lemmas.Bool.{and_parts}
use Rattle.hv_lemmas.proofs.ComputedLemmas.{all_below, holds_below}
use Rattle.hv_tables.specs.ArithmeticTables.{state_after}
use Rattle.hv_entropy_model.specs.Contexts.{ContextVariable, next_variable}
use Rattle.hv_cabac.specs.Variables.{variable_of}

-- ---- a variable as a state
state_of : ContextVariable → ℕ
state_of v = v.pStateIdx * 2 + cond v.valMps 1 0

variable_of-state_of : (v : ContextVariable) → variable_of (state_of v) ≡ v
unfolding state_of
variable_of-state_of v = go v.pStateIdx v.valMps
  where
    go : (p : ℕ) (m : Bool) →
        variable_of (p * 2 + cond m 1 0) ≡ record { pStateIdx = p; valMps = m }
    go p true =
        let e : (p * 2 + 1) / 2 ≡ p = omega arith in
        let f : (p * 2 + 1) % 2 ≡ 1 = omega arith in
        rw (e, f) refl
    go p false =
        let e : (p * 2 + 0) / 2 ≡ p = omega arith in
        let f : (p * 2 + 0) % 2 ≡ 0 = omega arith in
        rw (e, f) refl

-- ---- the state after a bin is that of the variable after it
agrees_after : ℕ → Bool → Bool
agrees_after state value =
    eqb (state_after state value) (state_of (next_variable (variable_of state) value))

agrees : ℕ → Bool
agrees state = agrees_after state false && agrees_after state true

all_agree : all_below 128 agrees ≡ true
unfolding agrees agrees_after state_of next_variable
all_agree = refl

agrees_at : (state : ℕ) (value : Bool) → state < 128 → agrees_after state value ≡ true
unfolding agrees
agrees_at state false h =
    (and_parts (agrees_after state false) (agrees_after state true)
    (holds_below 128 agrees all_agree state h)).0
agrees_at state true h =
    (and_parts (agrees_after state false) (agrees_after state true)
    (holds_below 128 agrees all_agree state h)).1

-- a state's lowest seven digits decide
low_digits : (state : ℕ) (value : Bool) →
    next_variable (variable_of (state % 128)) value ≡ next_variable (variable_of state) value
unfolding next_variable
low_digits state value =
    let e : state % 128 / 2 % 64 ≡ state / 2 % 64 = omega arith in
    let f : state % 128 % 2 ≡ state % 2 = omega arith in
    rw (e, f) refl

pub next_at : (state : ℕ) (value : Bool) →
    variable_of (state_after (state % 128) value) ≡ next_variable (variable_of state) value
unfolding agrees_after
next_at state value =
    let e = eqb-true _ _ (agrees_at (state % 128) value (omega arith)) in
    ap variable_of e ∙ variable_of-state_of (next_variable (variable_of (state % 128)) value) ∙
    low_digits state value
