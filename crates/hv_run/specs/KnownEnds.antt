-- What was moved from sources and to sinks that are known, on both sides of a call.
use Rattle.std.specs.Prelude.{ℕ, List, Some}
use Rattle.hv_types.specs.Memory.{Giver, Taker}
use Rattle.hv_serial.specs.Transfers.{Drawn, Put, drawn, put}

-- of a source that never fails, by the bytes still to come
abbrev pub steady_drawn : List ℕ → List ℕ → Drawn
steady_drawn old new = drawn (λ left. Some left) (λ left. 0) old new

-- of a source in memory, and to a sink there
abbrev pub memory_drawn : Giver → Giver → Drawn
memory_drawn old new = drawn (λ s. Some s.left) (λ s. s.script.faults) old new

abbrev pub memory_put : Taker → Taker → Put
memory_put old new = put (λ s. Some s.written) (λ s. s.script.faults) old new
