-- Scripts one behind another, and what a script reads from an oracle that gives its answers.
use Rattle.std.proofs.Common.{◌≡◌, Bool, true, List, [], ◌∷◌, ◌++◌, refl}
use Rattle.std.specs.Prelude.{Option, Some}
use Rattle.hv_tables.specs.Bins.{Answered}
use Rattle.hv_stream_model.specs.Scripts.{Script, Done, Ask, Fail, ask, only_if, ◌>>=◌, run, Reads, nothing, one}

-- a script, and then the one that goes on with its value
pub reads_then : {Q V A B : Type 0} {s : Script Q V A}
    {xs ys : List (Answered Q V)} {a : A} {b : B}
    (k : A → Script Q V B) → Reads s xs a → Reads (k a) ys b → Reads (s >>= k) (xs ++ ys) b
reads_then k nothing r = r
reads_then k (one h) r = one (reads_then k h r)

-- what is made of the value that was read
pub reads_map : {Q V A B : Type 0} {s : Script Q V A} {xs : List (Answered Q V)} {a : A}
    (f : A → B) → Reads s xs a → Reads (s >>= λ x. Done (f x)) xs (f a)
reads_map f nothing = nothing
reads_map f (one h) = one (reads_map f h)

-- one question
pub reads_ask : {Q V : Type 0} (q : Q) (v : V) →
    Reads (ask q) (record { question = q; value = v } ∷ []) v
reads_ask q v = one nothing

-- where a test is true
pub where_true : {Q V A : Type 0} {s : Script Q V A} {xs : List (Answered Q V)} {a : A}
    (test : Bool) → test ≡ true → Reads s xs a → Reads (only_if test s) xs a
where_true test e r = rw e r

-- what goes on with a script that goes on
pub then_then : {Q V A B C : Type 0} (s : Script Q V A) (j : A → Script Q V B)
    (k : B → Script Q V C) → ((s >>= j) >>= k) ≡ (s >>= λ a. j a >>= k)
then_then (Done a) j k = refl
then_then (Ask q c) j k = λ i. Ask q (λ v. then_then (c v) j k i)
then_then Fail j k = refl

-- what oracles give: the section's arguments are those of `run`
module _ (Q V O : Type 0) (answer : O → Q → Option (V × O)) where
  -- the oracle gives these answers to these questions, and is then the other one
  pub data Gives : O → List (Answered Q V) → O → Type 0 where
    none : {o : O} → Gives o [] o
    more : {o p r : O} {q : Q} {v : V} {answers : List (Answered Q V)} →
        answer o q ≡ Some (v, p) → Gives p answers r →
        Gives o (record { question = q; value = v } ∷ answers) r

  -- first these answers, and then those
  pub gives_then : {o p r : O} {xs ys : List (Answered Q V)} →
      Gives o xs p → Gives p ys r → Gives o (xs ++ ys) r
  gives_then none g = g
  gives_then (more e h) g = more e (gives_then h g)

  -- what a script reads, it reads from any oracle that gives it
  pub reads_run : {A : Type 0} {s : Script Q V A} {answers : List (Answered Q V)} {a : A}
      {o r : O} →
      Reads s answers a → Gives o answers r → run Q V O answer s o ≡ Some (a, r)
  reads_run nothing none = refl
  reads_run (one h) (more e g) = rw e (reads_run h g)
