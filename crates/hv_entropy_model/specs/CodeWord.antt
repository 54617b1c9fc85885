-- The code word that stands for a list of bins: the inverse of the arithmetic decoder of 9.3.4.3.
-- Its low end is one whole number that is never cut.
use Rattle.std.specs.Prelude.{◌≡◌, ℕ, zero, suc, ◌+◌, ◌-◌, ◌*◌, ◌%◌, ◌^◌, Bool, true, false, cond, nat_lt, List, [], ◌∷◌}
use Rattle.hv_tables.specs.declared.bins.SliceKind.{SliceKind}
use Rattle.hv_tables.specs.Bins.{Question, Context, Bypass, Terminate, Bin}
use Rattle.hv_stream_model.specs.Bits.{digits}
use Rattle.hv_entropy_model.specs.Contexts.{ContextVariable, variable_at, with_variable, lps_width, next_variable, first_variables}
use Rattle.hv_tables.specs.ContextTables.{IsValid}
use Rattle.hv_lemmas.specs.Booleans.{same}

-- ---- what a bin does with the interval

-- how often a width doubles until it has 256, at most `fuel` times
abbrev pub doublings : ℕ → ℕ → ℕ
doublings zero width = 0
doublings (suc fuel) width = cond (nat_lt width 256) (suc (doublings fuel (2 * width))) 0

-- renormalization (9.3.4.3.3)
unfoldable pub shift_of : ℕ → ℕ
shift_of width = doublings 8 width

-- A bin leaves out `skip` of the interval at its low end and keeps `width`, all doubled `times`.
pub record Cut : Type 0 where
  pub times : ℕ
  pub skip : ℕ
  pub width : ℕ

-- a part of the interval, doubled until it has 256 at least
abbrev pub part : ℕ → ℕ → Cut
part skip width = record {
  times = shift_of width;
  skip = skip * 2 ^ shift_of width;
  width = width * 2 ^ shift_of width;
}

-- the more probable value keeps the low part
abbrev pub cut_at : ℕ → ℕ → Bool → Cut
cut_at range lps probable = cond probable (part 0 (range - lps)) (part (range - lps) lps)

abbrev pub cut : List ContextVariable → ℕ → Question → Bool → Cut
cut variables range (Context context) value =
    let v = variable_at variables context in cut_at range (lps_width v range) (same value v.valMps)
cut variables range Bypass value = record { times = 1; skip = cond value range 0; width = range }
cut variables range Terminate value = part 0 (range - 2)

abbrev pub next_variables : List ContextVariable → Question → Bool → List ContextVariable
next_variables variables (Context context) value =
    with_variable variables context (next_variable (variable_at variables context) value)
next_variables variables Bypass value = variables
next_variables variables Terminate value = variables

-- ---- the interval after a list of bins

pub record Interval : Type 0 where
  pub low : ℕ
  pub range : ℕ
  -- how often it was doubled
  pub n : ℕ
  pub variables : List ContextVariable

abbrev pub first_interval : List ContextVariable → Interval
first_interval variables = record { low = 0; range = 510; n = 0; variables = variables }

abbrev pub cut_to : Interval → Cut → List ContextVariable → Interval
cut_to i c variables = record {
  low = i.low * 2 ^ c.times + c.skip;
  range = c.width;
  n = i.n + c.times;
  variables = variables;
}

abbrev pub advance : Interval → Bin → Interval
advance i b =
    cut_to i (cut i.variables i.range b.question b.value)
    (next_variables i.variables b.question b.value)

-- true for the bin that ends a slice: a terminating bin that is true
abbrev pub is_last : Question → Bool → Bool
is_last (Context context) value = false
is_last Bypass value = false
is_last Terminate value = value

-- the interval before the bin that ends the slice, or after all bins where there is none
abbrev pub reach : Interval → List Bin → Interval
reach i [] = i
reach i (b ∷ bins) = cond (is_last b.question b.value) i (reach (advance i b) bins)

-- ---- the word

abbrev pub odd_from : ℕ → ℕ
odd_from v = v + (1 - v % 2)

-- the n + 9 digits of (low + range - 2) | 1: the last one is the stop bit of 9.3.2.5
abbrev pub word_at : Interval → List ℕ
word_at i = digits (i.n + 9) (odd_from (i.low + i.range - 2))

abbrev pub word_from : List ContextVariable → List Bin → List ℕ
word_from variables bins = word_at (reach (first_interval variables) bins)

-- the code word of the bins of a slice
abbrev pub word : SliceKind → ℕ → List Bin → List ℕ
word kind qp bins = word_from (first_variables kind qp) bins

-- ---- for which lists

-- the last bin, and no other, ends the slice
abbrev pub IsEnded : List Bin → Type 0
IsEnded [] = true ≡ false
IsEnded (b ∷ bins) = cond (is_last b.question b.value) (bins ≡ []) (IsEnded bins)

-- no bin but the last one ends the slice
abbrev pub IsSound : List Bin → Type 0
IsSound [] = Unit {0}
IsSound (b ∷ bins) = cond (is_last b.question b.value) (bins ≡ []) (IsSound bins)

abbrev pub IsAskable : SliceKind → Question → Type 0
IsAskable kind (Context context) = IsValid kind context
IsAskable kind Bypass = Unit {0}
IsAskable kind Terminate = Unit {0}

-- every context of the list has a variable in slices of this kind
abbrev pub AllAskable : SliceKind → List Bin → Type 0
AllAskable kind [] = Unit {0}
AllAskable kind (b ∷ bins) = IsAskable kind b.question × AllAskable kind bins
