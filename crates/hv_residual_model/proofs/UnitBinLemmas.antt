-- What a script of a unit's bins reads, it reads of them among the bins of a slice.
use Rattle.std.proofs.Common.{◌≡◌, List, map, subst}
use Rattle.hv_stream_model.specs.Scripts.{Reads, nothing, one}
use Rattle.hv_residual_model.specs.UnitBins.{UnitBin, UnitScript, slice_bin, in_slice}

-- the value by another name
pub reads_value : {A : Type 0} {s : UnitScript A} {bins : List UnitBin} {a b : A} →
    Reads s bins a → a ≡ b → Reads s bins b
reads_value {s = s} {bins = bins} r e = subst (λ x. Reads s bins x) e r

pub reads_in_slice : {A : Type 0} {s : UnitScript A} {bins : List UnitBin} {a : A} →
    Reads s bins a → Reads (in_slice s) (map slice_bin bins) a
reads_in_slice nothing = nothing
reads_in_slice (one h) = one (reads_in_slice h)
