-- The command of the program, as `clap` reads it: what its options are, and their defaults.
use Rattle.std.specs.Prelude.{pos, true, List, [], ◌∷◌, Some, codes, fold}
use Rattle.clap.specs.Words.{App, Rule, Text, new_app, new_rule, with_rule}
use Rattle.clap.specs.declared.builder.ArgAction.TheVariants.{Set}
use Rattle.clap.specs.declared.builder.value_parser.ValueParser.TheVariants as vp

-- ---- kinds of options

-- `--name VALUE`, of any value
abbrev pub option : Text → Rule
option name = record (new_rule name) { long = Some name; action = Some Set; value_names = 1 }

-- of a whole number below 2^32
abbrev pub number : Text → Rule
number name = record (option name) { parser = Some (vp.Signed (pos 0) (pos 4294967295)) }

abbrev pub required : Rule → Rule
required rule = record rule { required = true }

abbrev pub or_else : Rule → Text → Rule
or_else rule default = record rule { defaults = default ∷ [] }

-- ---- the command

abbrev pub rules : List Rule
rules =
    required (number (codes "width"))
    ∷ required (number (codes "height"))
    ∷ or_else (number (codes "qp")) (codes "32")
    ∷ or_else (number (codes "levels")) (codes "3")
    ∷ or_else (number (codes "group")) (codes "16")
    ∷ or_else (number (codes "workers")) (codes "1")
    ∷ or_else (number (codes "effort")) (codes "2")
    ∷ or_else (number (codes "segment")) (codes "4")
    ∷ or_else (option (codes "emit")) (codes "stream")
    ∷ number (codes "synth")
    ∷ or_else (number (codes "pictures")) (codes "60")
    ∷ []

abbrev pub program_name : Text
program_name = codes "hv_encode"

abbrev pub command : App
command = fold with_rule (new_app program_name) rules
