-- What an oracle answers, a script reads: from a list of bins, and from their code word.
use Rattle.std.proofs.Common.{◌≡◌, ℕ, Bool, true, List, [], ◌∷◌, ◌++◌, refl, sym, ap, subst, eq-eqb, IsSomeAnd}
use Rattle.std.specs.Prelude.{Option, Some}
use Rattle.hv_tables.specs.declared.bins.SliceKind.{SliceKind}
use Rattle.hv_tables.specs.Bins.{Question, Context, Bypass, Terminate, Bin}
use Rattle.hv_tables.specs.ContextTables.{offset_of}
use Rattle.hv_lemmas.specs.Booleans.{same}
use Rattle.hv_lemmas.proofs.BooleanLemmas.{same_self}
use Rattle.hv_entropy_model.specs.Contexts.{first_variables}
use Rattle.hv_entropy_model.specs.CodeWord.{IsEnded, word}
use Rattle.hv_entropy_model.specs.Oracle.{Oracle, Listed, same_question, answer, option_coded, read, after_bins, bits_left}
use Rattle.hv_entropy_model.specs.ReadingBack.{CodeWordIsReadBack, ScriptsReadListed, ScriptsReadCodeWords}
use Rattle.hv_stream_model.proofs.ScriptLemmas.{Gives, none, more, reads_run}
use Rattle.hv_entropy_model.proofs.ReadingLemmas.{IsBegun, word_from_read, ended_sound}

-- the oracle answers the questions of these bins with their values, and is then the other one
abbrev pub GivesBins : Oracle → List Bin → Oracle → Type 0
GivesBins = Gives Question Bool Oracle answer

same_question_self : (q : Question) → same_question q q ≡ true
same_question_self (Context c) =
    rw (eq-eqb (offset_of c.table) (offset_of c.table) refl, eq-eqb c.index c.index refl) refl
same_question_self Bypass = refl
same_question_self Terminate = refl

-- `after_bins` says the same as a definition by recursion
pub after_bins-gives : {o p : Oracle} {bins : List Bin} → GivesBins o bins p →
    after_bins o bins ≡ Some p
after_bins-gives none = refl
after_bins-gives (more {v} e g) = rw (e, same_self v) (after_bins-gives g)

-- a list of bins gives its bins
pub listed_gives : (bins rest : List Bin) → GivesBins (Listed (bins ++ rest)) bins (Listed rest)
listed_gives [] rest = none
listed_gives (b ∷ bins) rest =
    more (rw (same_question_self b.question) refl) (listed_gives bins rest)

pub script_reads_listed : (A : Type 0) → ScriptsReadListed A
script_reads_listed A s bins rest a r =
    reads_run Question Bool Oracle answer r (listed_gives bins rest)

-- the oracle begun on a code word
word_read : (kind : SliceKind) (qp : ℕ) (bins : List Bin) (rest : List ℕ) → IsEnded bins →
    IsBegun (first_variables kind qp) (word kind qp bins ++ rest) bins rest
word_read kind qp bins rest e =
    word_from_read (first_variables kind qp) bins rest (ended_sound bins e)

-- a fact of what an option holds, from the value that it holds
from_some : {A : Type 0} {o : Option A} {a : A} (P : A → Type 0) → o ≡ Some a → P a → IsSomeAnd o P
from_some P e h = subst (λ o. IsSomeAnd o P) (sym e) h

pub code_word_read_back : CodeWordIsReadBack
code_word_read_back kind qp bins rest e =
    let w = word_read kind qp bins rest e in
    let l = w.reads in
    from_some (λ first. IsSomeAnd (after_bins first bins) (λ last. bits_left last ≡ rest))
    (ap option_coded w.begins)
    (from_some (λ last. bits_left last ≡ rest) (after_bins-gives l.gives) l.bits)

pub script_reads_code_word : (A : Type 0) → ScriptsReadCodeWords A
script_reads_code_word A kind qp s bins a rest r e =
    let w = word_read kind qp bins rest e in
    let l = w.reads in
    from_some
    (λ first. IsSomeAnd (read s first) (λ x. (x.0 ≡ a) × (bits_left x.1 ≡ rest)))
    (ap option_coded w.begins)
    (from_some (λ (x : A × Oracle). (x.0 ≡ a) × (bits_left x.1 ≡ rest))
    (reads_run Question Bool Oracle answer r l.gives) (refl, l.bits))
