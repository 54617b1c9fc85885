-- What a counter stands for.
use Rattle.std.specs.Prelude.{◌≡◌, ℕ, List, length, min}
use Rattle.hv_tables.specs.declared.bins.SliceKind.{SliceKind}
use Rattle.hv_tables.specs.Bins.{Bin}
use Rattle.hv_cabac.specs.declared.counter.Counter.{Counter}

-- it has the number of these bins, or the greatest that it can hold, 2 ^ 64 - 1
pub record Counts (c : Counter) (kind : SliceKind) (qp : ℕ) (bins : List Bin) : Type 0 where
  pub number : c.count ≡ min (length bins) 18446744073709551615
