-- What each error of words says.
use Rattle.std.specs.Prelude.{◌≡◌, ◌++◌, ⊤, ℕ, List, Option, Some, codes, string_bytes}
use Rattle.hv_words.specs.CommandLine.{Refusal, no_command_line, faulty}
use Rattle.hv_words.specs.declared.refusal.WordsError.{WordsError}
use Rattle.hv_words.specs.declared.refusal.WordsError.TheVariants.{Parse, Config, NoMemory}

-- the error is that refusal, or want of memory, which has no other cause
abbrev pub Answers : Option Refusal → WordsError → Type 0
Answers refusal (Parse text) = refusal ≡ Some no_command_line
Answers refusal (Config error) = refusal ≡ Some (faulty error)
Answers refusal NoMemory = ⊤

-- the error says that this holds of the words, or is want of memory
abbrev pub Rejects : Type 0 → WordsError → Type 0
Rejects holds (Parse text) = holds
Rejects holds (Config error) = ⊥
Rejects holds NoMemory = ⊤

-- the text is something, and a line feed
pub record IsLine (text : List ℕ) : Type 0 where
  pub start : List ℕ
  pub whole : text ≡ start ++ codes "\n"

-- the text of words that are no command line ends with a line feed
abbrev pub HasLine : WordsError → Type 0
HasLine (Parse text) = IsLine (string_bytes text)
HasLine (Config error) = ⊤
HasLine NoMemory = ⊤
