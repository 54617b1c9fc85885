-- What a bin does with the interval of the arithmetic encoder (9.3.4.3).
use Rattle.std.specs.Prelude.{◌≡◌, ℕ, ◌+◌, ◌*◌, ◌^◌, ◌<◌, ◌≤◌, Bool, false, List}
use Rattle.hv_tables.specs.Bins.{Question}
use Rattle.hv_entropy_model.specs.Contexts.{ContextVariable, lps_width}
use Rattle.hv_entropy_model.specs.CodeWord.{shift_of, Cut, cut, is_last}

-- a width of 1 to 510 is doubled into 256 to 510
abbrev pub WidthsAreDoubled : Type 0
WidthsAreDoubled =
    (width : ℕ) → 0 < width → width ≤ 510 →
    (256 ≤ width * 2 ^ shift_of width) × (width * 2 ^ shift_of width ≤ 510)

-- what is kept lies in the interval, and is as wide as before
pub record IsWithin (range : ℕ) (c : Cut) : Type 0 where
  pub inside : c.skip + c.width ≤ range * 2 ^ c.times
  pub wide : 256 ≤ c.width
  pub narrow : c.width ≤ 510

-- of any bin but the one that ends a slice
abbrev pub CutsAreWithin : Type 0
CutsAreWithin =
    (variables : List ContextVariable) (range : ℕ) (question : Question) (value : Bool) →
    256 ≤ range → range ≤ 510 → is_last question value ≡ false →
    IsWithin range (cut variables range question value)

-- the less probable part of any range has 2 to 240
abbrev pub LpsWidthIsBounded : Type 0
LpsWidthIsBounded =
    (variable : ContextVariable) (ivlCurrRange : ℕ) →
    (1 < lps_width variable ivlCurrRange) × (lps_width variable ivlCurrRange < 241)
