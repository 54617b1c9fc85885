-- Lists that are lent for writing.
use Rattle.std.specs.Prelude.{ℕ, ℤ, List, ◌++◌, length, take, drop}
use Rattle.std.specs.Borrow.{Lends, MutBor, Fml, Array, u8, i16}
use Rattle.hv_block.specs.Plans.{CtbPlan}
use Rattle.hv_block.specs.Samples.{Samples}
use Rattle.hv_block.specs.contracts.plan.CtbPlan as plan_type
use Rattle.hv_block.specs.contracts.samples.Samples as samples_type

-- A list that is lent keeps its length: what is written in its place is cut, or filled up from
-- what was there.
abbrev pub refilled : {A : Type 0} → List A → List A → List A
refilled old written = take (length old) (written ++ drop (length written) old)

-- what is left behind `levels` are the plan's levels of luma
abbrev pub LendsLuma : MutBor CtbPlan → MutBor (List ℤ) → Fml
LendsLuma plan levels =
    Lends plan_type.the_row (Array i16 0) plan levels
    (λ written. record plan.now { luma = refilled plan.now.luma written })

abbrev pub LendsCb : MutBor CtbPlan → MutBor (List ℤ) → Fml
LendsCb plan levels =
    Lends plan_type.the_row (Array i16 0) plan levels
    (λ written. record plan.now { cb = refilled plan.now.cb written })

abbrev pub LendsCr : MutBor CtbPlan → MutBor (List ℤ) → Fml
LendsCr plan levels =
    Lends plan_type.the_row (Array i16 0) plan levels
    (λ written. record plan.now { cr = refilled plan.now.cr written })

-- the same of samples
abbrev pub LendsLumaSamples : MutBor Samples → MutBor (List ℕ) → Fml
LendsLumaSamples all lent =
    Lends samples_type.the_row (Array u8 0) all lent
    (λ written. record all.now { luma = refilled all.now.luma written })

abbrev pub LendsCbSamples : MutBor Samples → MutBor (List ℕ) → Fml
LendsCbSamples all lent =
    Lends samples_type.the_row (Array u8 0) all lent
    (λ written. record all.now { cb = refilled all.now.cb written })

abbrev pub LendsCrSamples : MutBor Samples → MutBor (List ℕ) → Fml
LendsCrSamples all lent =
    Lends samples_type.the_row (Array u8 0) all lent
    (λ written. record all.now { cr = refilled all.now.cr written })
