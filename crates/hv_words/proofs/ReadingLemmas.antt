-- What the matches or the error of `clap` say of the words, by its definition of a simple command.
use Rattle.std.proofs.Common.{◌≡◌, ◌≢◌, ℕ, ◌+◌, Bool, true, false, cond, List, [], ◌∷◌, ◌++◌, map, take, add-one, Option, Some, None, refl, sym, ap, ap₂, ◌∙◌, inl, inr}
use Rattle.std.specs.Prelude.{◌⊎◌, slice_get}
use Rattle.std.specs.Borrow.{Bor}
use Rattle.std.proofs.Math.Seq.{take-suc}
use Rattle.std.proofs.lemmas.List.{map-append}
use Rattle.std.proofs.lemmas.Option.{get_or_from_slice_get, slice_get_within}
use Rattle.clap.proofs.OnLiterals.{clap_on_literals}
use Rattle.clap.specs.Faults.{fault_of, is_simple_and_free}
use Rattle.clap.specs.Kinds.{IsAmong, Kinds}
use Rattle.clap.specs.Words.{App, Row, Text, is_simple, matches_of}
use Rattle.clap.specs.declared.error.kind.ErrorKind.{ErrorKind}
use Rattle.clap.specs.declared.error.kind.ErrorKind.TheVariants.{OutOfMemory}
use Rattle.hv_types.specs.declared.settings.Settings.{Settings}
use Rattle.hv_words.specs.declared.refusal.WordsError.{WordsError}
use Rattle.hv_words.specs.declared.refusal.WordsError.TheVariants.{Parse, Config, NoMemory}
use Rattle.hv_words.specs.Answers.{Rejects}
use Rattle.hv_words.specs.Command.{command}
use Rattle.hv_words.specs.CommandLine.{is_empty, named, rows_of_words, settings_in, settings_of}

-- one word more is taken of those behind a first one
pub one_word_more : (first : Text) (words : List Text) (i : ℕ) (texts new : List (Bor Text)) (word : Bor Text) → map (λ s. s.now) texts ≡ first ∷ take i words →
    new ≡ texts ++ word ∷ [] → slice_get words i ≡ Some word.now → map (λ s. s.now) new ≡ first ∷ take (i + 1) words
one_word_more first words i texts new word so_far push at =
    let whole : take (i + 1) words ≡ take i words ++ word.now ∷ [] =
    rw add-one (take-suc words i [] (slice_get_within words i word.now at)) ∙ ap (λ (t : Text). take i words ++ t ∷ []) (get_or_from_slice_get words i word.now [] at) in
    ap (map (λ s. s.now)) push ∙ map-append (λ s. s.now) texts (word ∷ [])
    ∙ (ap (λ (ts : List Text). ts ++ word.now ∷ []) so_far ∙ ap (λ (ts : List Text). first ∷ ts) (sym whole))

-- the command is one of which `clap` defines refusals and matches
simple_and_free : is_simple_and_free command ≡ true
unfolding clap_on_literals
simple_and_free = refl

simple : is_simple command ≡ true
unfolding clap_on_literals
simple = refl

pub texts_are : (items slice : List (Bor Text)) (words : List Text) → slice ≡ items → map (λ s. s.now) items ≡ named words → map (λ s. s.now) slice ≡ named words
texts_are items slice words same are = ap (map (λ s. s.now)) same ∙ are

-- words that were taken ask for the settings of the matches
pub taken : (app : App) (texts words : List Text) (rows : List Row) (read : Option Settings) → app ≡ command → texts ≡ named words →
    (is_simple_and_free app ≡ true → fault_of app texts ≡ []) → (is_simple app ≡ true → rows ≡ matches_of app texts) → settings_in rows ≡ read →
    settings_of words ≡ read
taken app texts words rows read is_command are_words faults matches is_read =
    let no_fault : fault_of command (named words) ≡ [] = ap₂ fault_of (sym is_command) (sym are_words) ∙ faults (ap is_simple_and_free is_command ∙ simple_and_free) in
    let same_rows : rows ≡ rows_of_words words = matches (ap is_simple is_command ∙ simple) ∙ ap₂ matches_of is_command are_words in
    ap (λ (b : Bool). cond b (settings_in (rows_of_words words)) None) (ap is_empty no_fault)
    ∙ (ap settings_in (sym same_rows) ∙ is_read)

among_some : (kind : ErrorKind) (kinds : Kinds) → IsAmong kind kinds → is_empty kinds ≡ false
among_some kind [] h = absurd h
among_some kind (k ∷ ks) h = refl

-- words at which `clap` failed for another cause than memory ask for none
pub not_taken : (app : App) (texts words : List Text) (kind : ErrorKind) → app ≡ command → texts ≡ named words →
    (is_simple_and_free app ≡ true → (kind ≡ OutOfMemory) ⊎ IsAmong kind (fault_of app texts)) → kind ≢ OutOfMemory →
    settings_of words ≡ None
not_taken app texts words kind is_command are_words fails other =
    by_kind (fails (ap is_simple_and_free is_command ∙ simple_and_free))
  where
    by_kind : (kind ≡ OutOfMemory) ⊎ IsAmong kind (fault_of app texts) → settings_of words ≡ None
    by_kind (inl e) = absurd (other e)
    by_kind (inr h) = ap (λ (b : Bool). cond b (settings_in (rows_of_words words)) None)
        (ap is_empty (ap₂ fault_of (sym is_command) (sym are_words)) ∙ among_some kind (fault_of app texts) h)

pub Rejects-weaker : {A B : Type 0} (error : WordsError) → (A → B) → Rejects A error → Rejects B error
Rejects-weaker (Parse text) f h = f h
Rejects-weaker (Config error) f h = absurd h
Rejects-weaker NoMemory f h = h
