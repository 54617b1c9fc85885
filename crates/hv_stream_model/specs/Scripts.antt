-- Parsers as scripts: questions in order, each asked in the light of the answers before it. A
-- syntax structure of 7.3 is a script; what answers it are bits, a list of bins, or the arithmetic
-- decoder.
use Rattle.std.specs.Prelude.{Bool, true, false, List, [], ◌∷◌, Option, Some, None}
use Rattle.hv_tables.specs.Bins.{Answered}

infixl 10 ◌>>=◌
-- questions of type Q, answers of type V, and a value of type A in the end
pub data Script (Q V A : Type 0) : Type 0 where
  Done : A → Script Q V A
  Ask : Q → (V → Script Q V A) → Script Q V A
  Fail : Script Q V A

abbrev pub ◌>>=◌ : {Q V A B : Type 0} → Script Q V A → (A → Script Q V B) → Script Q V B
Done a >>= k = k a
Ask q c >>= k = Ask q (λ v. c v >>= k)
Fail >>= k = Fail

abbrev pub ask : {Q V : Type 0} → Q → Script Q V V
ask q = Ask q Done

-- the script where the test is true; else it fails
abbrev pub only_if : {Q V A : Type 0} → Bool → Script Q V A → Script Q V A
only_if true script = script
only_if false script = Fail

-- An oracle is any kind of state that answers a question, or doesn't.
module _ (Q V O : Type 0) (answer : O → Q → Option (V × O)) where
  abbrev pub run_on : {A : Type 0} → Option (V × O) → (V → O → Option (A × O)) → Option (A × O)
  run_on None k = None
  run_on (Some r) k = k r.0 r.1

  -- the script's value, and the oracle after it
  abbrev pub run : {A : Type 0} → Script Q V A → O → Option (A × O)
  run (Done a) o = Some (a, o)
  run (Ask q c) o = run_on (answer o q) (λ v p. run (c v) p)
  run Fail o = None

-- given these answers, the script asks just their questions, and gives this value
pub data Reads {Q V A : Type 0} : Script Q V A → List (Answered Q V) → A → Type 0 where
  nothing : {a : A} → Reads (Done a) [] a
  one : {q : Q} {v : V} {c : V → Script Q V A} {answers : List (Answered Q V)} {a : A} →
      Reads (c v) answers a → Reads (Ask q c) (record { question = q; value = v } ∷ answers) a
