-- The lines of the report.
use Rattle.std.specs.Prelude.{◌≡◌, ◌⊎◌, ℕ, Bool, true, false, List, ◌++◌, length, codes, decimal, string_bytes}
use Rattle.hv_types.specs.declared.settings.Settings.{Settings}
use Rattle.hv_types.specs.declared.settings.ConfigError.{ConfigError}
use Rattle.hv_types.specs.declared.picture.Picture.{Picture}
use Rattle.hv_types.specs.Outside.{Rises}
use Rattle.hv_model.specs.InterPictures.{output}
use Rattle.hv_words.specs.declared.refusal.WordsError.{WordsError}
use Rattle.hv_words.specs.declared.refusal.WordsError.TheVariants as words
use Rattle.hv_words.specs.Answers.{IsLine}
use Rattle.hv_words.specs.CommandLine.{Refusal, no_command_line, faulty}
use Rattle.hv_types.specs.Texts.{fault_text}
use Rattle.hv_serial.specs.declared.answers.Totals.{Totals}
use Rattle.hv_serial.specs.declared.answers.EncodeError.{EncodeError}
use Rattle.hv_serial.specs.declared.answers.EncodeError.TheVariants.{ReadFault, ShortPicture, WriteFault, NoMemory, TooLong}
use Rattle.hv_serial.specs.Transfers.{Put, Grows, PutsPart}
use Rattle.hv_serial.specs.Outcomes.{group_count}

-- a text and a number in decimal digits
abbrev pub counted : List ℕ → ℕ → List ℕ
counted text n = text ++ decimal n

-- all is encoded: so many pictures in so many groups, and so many bytes of output
abbrev pub encoded_line : ℕ → ℕ → ℕ → List ℕ
encoded_line n g b =
    counted (codes "encoded ") n
    ++ (counted (codes " pictures in ") g ++ (counted (codes " groups, ") b ++ codes " bytes\n"))

-- the input ended `have` bytes into a picture of `size`
abbrev pub short_line : ℕ → ℕ → List ℕ
short_line have size =
    counted (codes "short picture: ") have ++ (counted (codes " of ") size ++ codes " bytes\n")

abbrev pub config_line : ConfigError → List ℕ
config_line error = fault_text error ++ codes "\n"

abbrev pub read_fault_line : List ℕ
read_fault_line = codes "read fault\n"

abbrev pub write_fault_line : List ℕ
write_fault_line = codes "write fault\n"

abbrev pub no_memory_line : List ℕ
no_memory_line = codes "no memory\n"

abbrev pub too_long_line : List ℕ
too_long_line = codes "more than 400000 pictures\n"

-- an error of the words: the text of `clap` is a line, or more
abbrev pub words_line : WordsError → List ℕ
words_line (words.Parse text) = string_bytes text
words_line (words.Config error) = config_line error
words_line words.NoMemory = no_memory_line

abbrev pub is_want_of_memory : WordsError → Bool
is_want_of_memory (words.Parse text) = false
is_want_of_memory (words.Config error) = false
is_want_of_memory words.NoMemory = true

-- an encoding of pictures of this size doesn't come to its end
abbrev pub error_line : ℕ → EncodeError → List ℕ
error_line size ReadFault = read_fault_line
error_line size (ShortPicture have) = short_line have size
error_line size WriteFault = write_fault_line
error_line size NoMemory = no_memory_line
error_line size TooLong = too_long_line

-- the line of these totals
abbrev pub totals_line : Totals → List ℕ
totals_line t = encoded_line t.pictures t.groups t.bytes

-- the line of an encoding of these pictures
abbrev pub line_of : Settings → List Picture → List ℕ
line_of cfg v = encoded_line (length v) (group_count cfg (length v)) (length (output cfg v))

-- ---- a report, on both sides of a call

-- the line stands in the report, and nothing failed
pub record Tells (r : Put) (line : List ℕ) : Type 0 where
  pub whole : Grows r.old r.new line
  pub no_fault : r.faults_now ≡ r.faults_before

-- the report failed, and has a first part of the line
pub record TellsPart (r : Put) (line : List ℕ) : Type 0 where
  pub rises : Rises r.faults_before r.faults_now
  pub part : PutsPart r.old r.new line

-- as far as the report takes the line
abbrev pub Reports : Put → List ℕ → Type 0
Reports r line = Tells r line ⊎ TellsPart r line

-- of words that are no command line, whatever is told ends with a line feed
pub record ReportsText (r : Put) : Type 0 where
  pub text : List ℕ
  pub line : IsLine text
  pub reports : Reports r text

-- what is told of words that are refused so
abbrev pub ReportsRefusal : Put → Refusal → Type 0
ReportsRefusal r no_command_line = ReportsText r
ReportsRefusal r (faulty error) = Reports r (config_line error)
