-- The bins of coding tree units: all bins of a slice but those before terminate.
use Rattle.std.specs.Prelude.{Bool, ℕ, List, map}
use Rattle.hv_tables.specs.declared.bins.Ctx.{Ctx}
use Rattle.hv_tables.specs.declared.bins.CtxTable.{CtxTable}
use Rattle.hv_tables.specs.declared.bins.SliceKind.{SliceKind}
use Rattle.hv_tables.specs.Bins.{Question, Context, Bypass, Answered, Bin, Puts}
use Rattle.hv_stream_model.specs.Scripts.{Script, Done, Ask, Fail, only_if}
use Rattle.hv_lemmas.specs.Booleans.{same}

-- a bin is decoded with a context (9.3.4.3.2), or in bypass (9.3.4.3.4)
pub data UnitQuestion : Type 0 where
  ByContext : Ctx → UnitQuestion
  InBypass : UnitQuestion

abbrev pub UnitBin : Type 0
UnitBin = Answered UnitQuestion Bool

abbrev pub UnitScript : Type 0 → Type 0
UnitScript A = Script UnitQuestion Bool A

-- the context of this ctxInc
abbrev pub context : CtxTable → ℕ → UnitQuestion
context table ctxInc = ByContext (record { table = table; index = ctxInc })

abbrev pub unit_bin : UnitQuestion → Bool → UnitBin
unit_bin question value = record { question = question; value = value }

-- asks, and fails at another value
abbrev pub expect : UnitQuestion → Bool → UnitScript (Unit {0})
expect question value = Ask question (λ given. only_if (same given value) (Done tt))

-- ---- among the bins of a slice

abbrev pub slice_question : UnitQuestion → Question
slice_question (ByContext c) = Context c
slice_question InBypass = Bypass

abbrev pub slice_bin : UnitBin → Bin
slice_bin bin = record { question = slice_question bin.question; value = bin.value }

abbrev pub in_slice : {A : Type 0} → UnitScript A → Script Question Bool A
in_slice (Done a) = Done a
in_slice (Ask q c) = Ask (slice_question q) (λ v. in_slice (c v))
in_slice Fail = Fail

-- what stood for some bins of a slice stands for these after them
abbrev pub PutsUnit :
    {S : Type 0} → (S → SliceKind → ℕ → List Bin → Type 0) → S → S → List UnitBin → Type 0
PutsUnit stands_for old new bins = Puts stands_for old new (map slice_bin bins)
