-- The words of the command line: the settings that they ask for, and when they are refused.
use Rattle.std.specs.Prelude.{◌≡◌, ℕ, min, Bool, true, false, cond, List, [], ◌∷◌, Option, Some, None, IsSome, codes, option_map, option_and_then, unwrap_or}
use Rattle.std.specs.Str.{bytes_eq}
use Rattle.std.specs.Str.Parse.{digits_value, without_leading_plus}
use Rattle.clap.specs.Words.{Kinds, Row, Text, fault_of as clap_fault_of, first_of, matches_of, one_of}
use Rattle.clap.specs.ValueTests.{is_unsigned_in}
use Rattle.hv_types.specs.declared.settings.Settings.{Settings}
use Rattle.hv_types.specs.declared.settings.SynthSpec.{SynthSpec}
use Rattle.hv_types.specs.declared.settings.Emit.{Emit}
use Rattle.hv_types.specs.declared.settings.Emit.TheVariants.{Stream, Recon}
use Rattle.hv_types.specs.declared.settings.ConfigError.{ConfigError}
use Rattle.hv_types.specs.Configuration.{fault_of}
use Rattle.hv_words.specs.Command.{command, program_name}

-- ---- what the command makes of the words

-- `clap` reads the program's name before the words
abbrev pub named : List Text → List Text
named words = program_name ∷ words

abbrev pub is_empty : Kinds → Bool
is_empty [] = true
is_empty (kind ∷ kinds) = false

-- the words are those of the command, by the definition of `clap`
abbrev pub is_taken : List Text → Bool
is_taken words = is_empty (clap_fault_of command (named words))

-- what stands for each option then: its value, or its default
abbrev pub rows_of_words : List Text → List Row
rows_of_words words = matches_of command (named words)

-- ---- values

-- the number that decimal digits make, behind at most one `+`; leading zeros pass
abbrev pub number_of_text : Text → Option ℕ
number_of_text text = cond (is_unsigned_in 0 4294967295 text)
    (Some (digits_value 10 (without_leading_plus text))) None

-- the number of an option, where it has one; each option of taken words that is required or has a
-- default has
abbrev pub number_in : List Row → Text → Option ℕ
number_in rows name = option_and_then number_of_text (one_of name rows)

abbrev pub whole_in : List Row → Text → ℕ
whole_in rows name = unwrap_or (number_in rows name) 0

-- a value above 255 stands as 255, which is out of each of these ranges
abbrev pub byte_in : List Row → Text → ℕ
byte_in rows name = min (whole_in rows name) 255

abbrev pub emit_of_text : Text → Option Emit
emit_of_text text = cond (bytes_eq text (codes "stream")) (Some Stream)
    (cond (bytes_eq text (codes "recon")) (Some Recon) None)

abbrev pub emit_in : List Row → Option Emit
emit_in rows = option_and_then emit_of_text (first_of (codes "emit") rows)

-- the pictures of a generator count only where there is one
abbrev pub synth_in : List Row → Option SynthSpec
synth_in rows = option_map (λ seed. record {
  seed = seed;
  pictures = whole_in rows (codes "pictures");
}) (number_in rows (codes "synth"))

abbrev pub settings_with : List Row → Emit → Settings
settings_with rows emit = record {
  width = whole_in rows (codes "width");
  height = whole_in rows (codes "height");
  qp = byte_in rows (codes "qp");
  levels = byte_in rows (codes "levels");
  group = byte_in rows (codes "group");
  workers = byte_in rows (codes "workers");
  effort = byte_in rows (codes "effort");
  segment = byte_in rows (codes "segment");
  emit = emit;
  synth = synth_in rows;
}

-- the settings of these rows; none where `--emit` has another value than its two
abbrev pub settings_in : List Row → Option Settings
settings_in rows = option_map (settings_with rows) (emit_in rows)

-- the settings that the words ask for; none where they are no command line of this program
abbrev pub settings_of : List Text → Option Settings
settings_of words = cond (is_taken words) (settings_in (rows_of_words words)) None

-- ---- refusals

-- why words are refused: they are no command line of this program, or the settings that they ask
-- for have this fault
pub data Refusal : Type 0 where
  no_command_line : Refusal
  faulty : ConfigError → Refusal

abbrev pub refusal_of_settings : Option Settings → Option Refusal
refusal_of_settings None = Some no_command_line
refusal_of_settings (Some settings) = option_map faulty (fault_of settings)

abbrev pub refusal : List Text → Option Refusal
refusal words = refusal_of_settings (settings_of words)

abbrev pub IsRefused : List Text → Type 0
IsRefused words = IsSome (refusal words)

-- the words are accepted, and ask for these settings
pub record AsksFor (words : List Text) (cfg : Settings) : Type 0 where
  pub asked : settings_of words ≡ Some cfg
  pub accepted : refusal words ≡ None
