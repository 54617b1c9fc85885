-- Context variables: where each starts in a slice, and how it adapts (9.3.2.2, 9.3.4.3.2).
use Rattle.std.specs.Prelude.{ℕ, ◌+◌, ◌-◌, ◌*◌, ◌/◌, ◌%◌, Bool, true, false, cond, not, nat_eq, nat_lt, min, List, [], map, flat_map, slice_index_or, slice_set, pos, ◌+ℤ◌, ◌-ℤ◌, ◌*ℤ◌}
use Rattle.std.specs.Int.{int_shr}
use Rattle.std.specs.Int.RustNames.{unsigned_abs}
use Rattle.hv_tables.specs.declared.bins.SliceKind.{SliceKind}
use Rattle.hv_tables.specs.declared.bins.Ctx.{Ctx}
use Rattle.hv_lemmas.specs.Booleans.{same}
use Rattle.hv_lemmas.specs.Clipping.{clip3}
use Rattle.hv_tables.specs.ContextTables.{tables, values_of, place_of}
use Rattle.hv_tables.specs.ArithmeticTables.{rangeTabLps, transIdxLps}

pub record ContextVariable : Type 0 where
  pub pStateIdx : ℕ
  pub valMps : Bool

-- ---- initialization (9.3.2.2)

-- preCtxState, from initValue and the slice's quantiser
abbrev pub preCtxState : ℕ → ℕ → ℕ
preCtxState qp initValue =
    let m = pos (initValue / 16 * 5) -ℤ pos 45 in
    let n = pos (initValue % 16 * 8) -ℤ pos 16 in
    unsigned_abs (clip3 (pos 1) (pos 126) (int_shr (m *ℤ pos qp) 4 +ℤ n))

abbrev pub variable_from : ℕ → ContextVariable
variable_from state =
    cond (nat_lt 63 state)
    (record { pStateIdx = state - 64; valMps = true })
    (record { pStateIdx = 63 - state; valMps = false })

abbrev pub first_variable : ℕ → ℕ → ContextVariable
first_variable qp value = variable_from (preCtxState qp value)

-- all context variables at the start of a slice, in the order of their places
unfoldable pub first_variables : SliceKind → ℕ → List ContextVariable
first_variables kind qp = map (first_variable qp) (flat_map (values_of kind) tables)

-- ---- the variable of a context, and its adaptation (9.3.4.3.2.2)

abbrev pub no_variable : ContextVariable
no_variable = record { pStateIdx = 0; valMps = false }

abbrev pub variable_at : List ContextVariable → Ctx → ContextVariable
variable_at variables context = slice_index_or variables (place_of context) no_variable

abbrev pub with_variable : List ContextVariable → Ctx → ContextVariable → List ContextVariable
with_variable variables context variable = slice_set variables (place_of context) variable

-- the width of the less probable part of a range; pStateIdx has six bits
unfoldable pub lps_width : ContextVariable → ℕ → ℕ
lps_width v ivlCurrRange =
    slice_index_or (slice_index_or rangeTabLps (v.pStateIdx % 64) []) (ivlCurrRange / 64 % 4) 0

abbrev pub after_mps : ContextVariable → ContextVariable
after_mps v = record v { pStateIdx = min 62 (v.pStateIdx % 64 + 1) }

abbrev pub after_lps : ContextVariable → ContextVariable
after_lps v = record {
  pStateIdx = slice_index_or transIdxLps (v.pStateIdx % 64) 63;
  valMps = cond (nat_eq (v.pStateIdx % 64) 0) (not v.valMps) v.valMps;
}

-- the variable after a bin of this value
unfoldable pub next_variable : ContextVariable → Bool → ContextVariable
next_variable v value = cond (same value v.valMps) (after_mps v) (after_lps v)
