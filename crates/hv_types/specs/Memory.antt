-- A source and a sink in memory, whose calls fail by a list of their numbers.
use Rattle.std.specs.Prelude.{◌≡◌, ℕ, ◌+◌, ◌-◌, ◌^◌, ◌<◌, ◌≤◌, min, Bool, true, false, nat_eq, List, ◌++◌, length, take, drop}
use Rattle.std.specs.List.{list_any}

-- one more, in a counter of 64 bits, which stays at its last value
abbrev pub next_count : ℕ → ℕ
next_count n = min (n + 1) (2 ^ 64 - 1)

-- what fails, how many calls there were, and how many of them failed
pub record Script : Type 0 where
  -- the numbers, from 0, of the calls that fail
  pub failing : List ℕ
  pub calls : ℕ
  pub faults : ℕ

-- before any call
abbrev pub uncalled_script : List ℕ → Script
uncalled_script failing = record { failing = failing; calls = 0; faults = 0 }

-- the next call is one of those that fail
abbrev pub is_failing : Script → Bool
is_failing s = list_any (λ number. nat_eq number s.calls) s.failing

-- after a call that didn't fail, and after one that did
abbrev pub after_ok : Script → Script
after_ok s = record s { calls = next_count s.calls }

abbrev pub after_fault : Script → Script
after_fault s = record s { calls = next_count s.calls; faults = next_count s.faults }

-- a source: the bytes still to come, and the most that one call gives
pub record Giver : Type 0 where
  pub left : List ℕ
  pub at_most : ℕ
  pub script : Script

-- A read gave n bytes to the front of `old`, which then is `new`.
pub record GivesExactly (before now : Giver) (old new : List ℕ) (n : ℕ) : Type 0 where
  pub due : is_failing before.script ≡ false
  pub count : n ≡ min (min (length before.left) (length old)) before.at_most
  pub bytes : new ≡ take n before.left ++ drop n old
  pub after : now ≡ record before { left = drop n before.left; script = after_ok before.script }

-- A read failed: its number is one of those that fail. It left the bytes to come.
pub record GivesNothing (before now : Giver) : Type 0 where
  pub due : is_failing before.script ≡ true
  pub after : now ≡ record before { script = after_fault before.script }

-- a sink: the bytes written, how many it has room for in all, and the most that one call takes
pub record Taker : Type 0 where
  pub written : List ℕ
  pub room : ℕ
  pub at_most : ℕ
  pub script : Script

-- A write took the first n bytes of `piece`.
pub record TakesExactly (before now : Taker) (piece : List ℕ) (n : ℕ) : Type 0 where
  pub due : is_failing before.script ≡ false
  pub fits : length before.written < before.room
  pub count : n ≡ min (min (before.room - length before.written) (length piece)) before.at_most
  pub after : now ≡ record before {
    written = before.written ++ take n piece;
    script = after_ok before.script;
  }

-- A write failed: its number is one of those that fail, or nothing fits any more. It left the
-- bytes written.
pub record TakesNothing (before now : Taker) : Type 0 where
  pub due : is_failing before.script ≡ false → before.room ≤ length before.written
  pub after : now ≡ record before { script = after_fault before.script }

-- The end was asked for, and came through or failed: then its number is one of those that fail. It
-- left the bytes written.
pub record EndsWell (before now : Taker) : Type 0 where
  pub due : is_failing before.script ≡ false
  pub after : now ≡ record before { script = after_ok before.script }

pub record EndsBadly (before now : Taker) : Type 0 where
  pub due : is_failing before.script ≡ true
  pub after : now ≡ record before { script = after_fault before.script }
