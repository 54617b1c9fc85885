-- The interval that a register holds, and what a step makes of it.
use Rattle.std.specs.Prelude.{◌≡◌, ℕ, ◌+◌, ◌*◌, ◌^◌, ◌≤◌, false}
use Rattle.hv_entropy_model.specs.CodeWord.{Cut, Interval}
use Rattle.hv_cabac.specs.Bytes.{total, places_of, HasRoom}
use Rattle.hv_cabac.specs.declared.register.Register.{Register}

abbrev pub total_of : Register → ℕ
total_of r = total r.out.items r.bits r.low

abbrev pub digits_of : Register → ℕ
digits_of r = places_of r.out.items r.bits

-- it is this interval, but for the context variables, and the interval lies in the whole one: so a
-- carry never leaves the bytes
pub record Holds (r : Register) (i : Interval) : Type 0 where
  pub low : i.low ≡ total_of r
  pub width : i.range ≡ r.range
  pub places : i.n + 9 ≡ digits_of r
  pub inside : i.low + i.range ≤ 510 * 2 ^ i.n

-- what a bin's cut makes of a register
pub record Cuts (old new : Register) (c : Cut) : Type 0 where
  pub held : old.failed ≡ false
  pub range : new.range ≡ c.width
  pub places : digits_of new ≡ digits_of old + c.times
  pub low : (n : ℕ) → digits_of old ≡ n + 9 → total_of old + old.range ≤ 510 * 2 ^ n →
      total_of new ≡ total_of old * 2 ^ c.times + c.skip

-- a register of k digits in place of the old one, its highest digits moved out where there are many
pub record PutsBits (old new : Register) (l w k : ℕ) : Type 0 where
  pub held : old.failed ≡ false
  pub range : new.range ≡ w
  pub places : digits_of new ≡ places_of old.out.items k
  pub low : HasRoom old.out.items k l → total_of new ≡ total old.out.items k l
