-- Samples that are seen one behind another.
use Rattle.std.specs.Prelude.{ℕ, ◌+◌, ◌*◌, cond, nat_lt, slice_get, Option, None}
use Rattle.hv_recon.specs.declared.run.Run.{Run}

abbrev pub seen_in : Run → ℕ → Option ℕ
seen_in r i = cond (nat_lt i r.count) (slice_get r.samples.now (r.first + i * r.step)) None
