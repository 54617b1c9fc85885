-- Bins (9.3): what is asked of the arithmetic decoder, and its answer.
use Rattle.std.specs.Prelude.{Bool, ℕ, List, ◌++◌}
use Rattle.hv_tables.specs.declared.bins.Ctx.{Ctx}
use Rattle.hv_tables.specs.declared.bins.SliceKind.{SliceKind}

-- a bin is decoded with a context (9.3.4.3.2), in bypass (9.3.4.3.4), or before terminate
-- (9.3.4.3.5)
pub data Question : Type 0 where
  Context : Ctx → Question
  Bypass : Question
  Terminate : Question

-- a question with its answer
pub record Answered (Q V : Type 0) : Type 0 where
  pub question : Q
  pub value : V

abbrev pub Bin : Type 0
Bin = Answered Question Bool

abbrev pub context_bin : Ctx → Bool → Bin
context_bin context value = record { question = Context context; value = value }

abbrev pub bypass_bin : Bool → Bin
bypass_bin value = record { question = Bypass; value = value }

abbrev pub terminate_bin : Bool → Bin
terminate_bin value = record { question = Terminate; value = value }

-- ---- what takes bins

-- what stood for some bins of a slice, of whatever kind and quantiser, stands for these after them
abbrev pub Puts :
    {S : Type 0} → (S → SliceKind → ℕ → List Bin → Type 0) → S → S → List Bin → Type 0
Puts stands_for old new bins =
    (kind : SliceKind) (qp : ℕ) (before : List Bin) →
    stands_for old kind qp before → stands_for new kind qp (before ++ bins)
