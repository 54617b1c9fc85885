-- Items that are given out in the order of their numbers, as contracts see them.
use Rattle.std.specs.Prelude.{◌≡◌, ℕ, ◌+◌, ◌<◌, ◌≤◌, ◌^◌, List, Option, None, Some, length, slice_index_or, slice_set, replicate}

-- the next number to be given out, and for each number the item that waits
pub record Arrivals (T : Type 0) : Type 0 where
  pub next : ℕ
  pub places : List (Option T)

-- the item with this number, where it waits
abbrev pub item_at : {T : Type 0} → Arrivals T → ℕ → Option T
item_at a number = slice_index_or a.places number None

-- no item has come
abbrev pub opening : {T : Type 0} → ℕ → Arrivals T
opening capacity = record { next = 0; places = replicate capacity None }

-- .. and then this one
abbrev pub with_item : {T : Type 0} → Arrivals T → ℕ → T → Arrivals T
with_item a number item = record a { places = slice_set a.places number (Some item) }

-- the next item has gone
abbrev pub given_out : {T : Type 0} → Arrivals T → Arrivals T
given_out a = record { next = a.next + 1; places = slice_set a.places a.next None }

-- the number of places fits, and what has been given out doesn't come again
pub record IsInOrder {T : Type 0} (a : Arrivals T) : Type 0 where
  pub fits : length a.places < 2 ^ 32
  pub within : a.next ≤ length a.places
  pub gone : (number : ℕ) → number < a.next → item_at a number ≡ None
