-- What an encoder stands for.
use Rattle.std.specs.Prelude.{◌≡◌, ℕ, false, List}
use Rattle.hv_tables.specs.declared.bins.SliceKind.{SliceKind}
use Rattle.hv_tables.specs.Bins.{Bin}
use Rattle.hv_entropy_model.specs.Contexts.{ContextVariable, first_variables}
use Rattle.hv_entropy_model.specs.CodeWord.{Interval, first_interval, reach, IsSound}
use Rattle.hv_cabac.specs.Registers.{Holds}
use Rattle.hv_cabac.specs.VariableStates.{variables_of}
use Rattle.hv_cabac.specs.declared.register.Register.{Register}
use Rattle.hv_cabac.specs.declared.encoder.Encoder.{Encoder}

-- the register holds the interval to which the bins lead, and these are the context variables there
pub record Stands (r : Register) (variables : List ContextVariable) (i : Interval) : Type 0 where
  pub interval : Holds r i
  pub adapted : i.variables ≡ variables

-- where no memory was wanted, and no bin but the last ends the slice
abbrev pub StandsFor : Register → List ContextVariable → SliceKind → ℕ → List Bin → Type 0
StandsFor r variables kind qp bins =
    r.failed ≡ false → IsSound bins →
    Stands r variables (reach (first_interval (first_variables kind qp)) bins)

-- the encoder stands for these bins of a slice of this kind and quantiser
pub record Encodes (e : Encoder) (kind : SliceKind) (qp : ℕ) (bins : List Bin) : Type 0 where
  pub stands : StandsFor e.register (variables_of e.variables) kind qp bins
