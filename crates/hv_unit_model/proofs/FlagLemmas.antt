-- What is read where nothing is asked: values that are known, and flags that are inferred.
use Rattle.std.proofs.Common.{◌≡◌, Bool, true, false, cond, [], ◌∷◌, refl}
use Rattle.hv_stream_model.specs.Scripts.{Done, ask, Reads, nothing, one}
use Rattle.hv_residual_model.specs.UnitBins.{UnitQuestion, UnitScript, unit_bin}
use Rattle.hv_residual_model.proofs.UnitBinLemmas.{reads_value}

pub reads_done : {A : Type 0} (a b : A) → a ≡ b →
    let this : UnitScript A = Done a in Reads this [] b
reads_done {A = A} a b e =
    let this : UnitScript A = Done a in
    let r : Reads this [] a = nothing in
    reads_value r e

-- a flag that may not be coded, and is inferred then
pub reads_where : (question : UnitQuestion) (inferred is_coded value : Bool) →
    (is_coded ≡ false → inferred ≡ value) →
    Reads (cond is_coded (ask question) (Done inferred))
    (cond is_coded (unit_bin question value ∷ []) []) value
reads_where question inferred true value off = one nothing
reads_where question inferred false value off = reads_done inferred value (off refl)
