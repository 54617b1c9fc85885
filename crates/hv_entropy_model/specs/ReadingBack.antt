-- What the arithmetic coder writes is read back exactly.
use Rattle.std.specs.Prelude.{◌≡◌, ℕ, Bool, List, ◌++◌, Some, IsSomeAnd}
use Rattle.hv_tables.specs.declared.bins.SliceKind.{SliceKind}
use Rattle.hv_tables.specs.Bins.{Question, Bin}
use Rattle.hv_entropy_model.specs.CodeWord.{IsEnded, word}
use Rattle.hv_stream_model.specs.Scripts.{Script, Reads}
use Rattle.hv_entropy_model.specs.Oracle.{Listed, begin, read, after_bins, bits_left}

-- The decoder begins on the code word of the bins of a slice, whatever bits follow it. It answers
-- the question of each bin with the bin's value, and these bits are then what it hasn't read.
abbrev pub CodeWordIsReadBack : Type 0
CodeWordIsReadBack = (kind : SliceKind) (qp : ℕ) (bins : List Bin) (rest : List ℕ) → IsEnded bins →
    IsSomeAnd (begin (word kind qp bins ++ rest) kind qp) (λ first.
    IsSomeAnd (after_bins first bins) (λ last. bits_left last ≡ rest))

-- What a script reads where these bins answer it, it reads from the list of them, and the bins that
-- follow are left.
abbrev pub ScriptsReadListed : Type 0 → Type 0
ScriptsReadListed A =
    (script : Script Question Bool A) (bins rest : List Bin) (value : A) →
    Reads script bins value →
    read script (Listed (bins ++ rest)) ≡ Some (value, Listed rest)

-- What a script reads where the bins of a slice answer it, it reads from the decoder that begins on
-- their code word, whatever bits follow the word, and these are left.
abbrev pub ScriptsReadCodeWords : Type 0 → Type 0
ScriptsReadCodeWords A =
    (kind : SliceKind) (qp : ℕ) (script : Script Question Bool A) (bins : List Bin) (value : A)
    (rest : List ℕ) → Reads script bins value → IsEnded bins →
    IsSomeAnd (begin (word kind qp bins ++ rest) kind qp) (λ first.
    IsSomeAnd (read script first) (λ r. (r.0 ≡ value) × (bits_left r.1 ≡ rest)))
