-- What is known of a report, whichever way its line ended.
use Rattle.std.proofs.Common.{◌≡◌, ℕ, List, inl, inr, subst}
use Rattle.std.specs.Prelude.{Result, Ok, Err, OnOk, OnErr}
use Rattle.hv_serial.specs.Transfers.{Put}
use Rattle.hv_run.specs.Report.{Tells, TellsPart, Reports}

either : {T E : Type 0} (r : Result T E) (w : Put) (line : List ℕ) → OnOk r (Tells w line) → OnErr r (TellsPart w line) → Reports w line
either (Ok x) w line whole part = inl whole
either (Err e) w line whole part = inr part

-- of a line that was made as this one
pub reported : {T E : Type 0} (r : Result T E) (w : Put) (made line : List ℕ) → made ≡ line → OnOk r (Tells w made) → OnErr r (TellsPart w made) → Reports w line
reported r w made line e whole part = subst (λ (x : List ℕ). Reports w x) e (either r w made whole part)
