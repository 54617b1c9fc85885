-- Bins of a unit that are put one part after another.
use Rattle.std.specs.Prelude.{◌≡◌, ℕ, List, ◌++◌}
use Rattle.hv_tables.specs.declared.bins.SliceKind.{SliceKind}
use Rattle.hv_tables.specs.Bins.{Bin}
use Rattle.hv_residual_model.specs.UnitBins.{UnitBin, PutsUnit}

-- of all bins that are to be put, those before the rest are put
pub record Going {S : Type 0} (stands_for : S → SliceKind → ℕ → List Bin → Type 0) (old new : S)
    (rest all : List UnitBin) : Type 0 where
  pub done : List UnitBin
  pub puts : PutsUnit stands_for old new done
  pub left : done ++ rest ≡ all
