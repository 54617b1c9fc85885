-- The statuses of the top call: what each says of input, output and report.
use Rattle.std.specs.Prelude.{◌≡◌, ◌⊎◌, ℕ, ◌*◌, ◌%◌, Bool, true, false, nat_lt, nat_eq, List, Option, Some, None}
use Rattle.hv_types.specs.declared.settings.Settings.{Settings}
use Rattle.hv_types.specs.Configuration.{most_pictures, picture_bytes}
use Rattle.hv_run.specs.declared.status.Status.{Status}
use Rattle.hv_run.specs.declared.status.Status.TheVariants.{Ok, Words, ReadFault, ShortPicture, WriteFault, NoMemory, TooLong, ReportFault}
use Rattle.hv_serial.specs.declared.answers.Totals.{Totals}
use Rattle.hv_serial.specs.declared.answers.EncodeError.{EncodeError}
use Rattle.hv_serial.specs.declared.answers.EncodeError.TheVariants as error
use Rattle.hv_run.specs.Report.{Tells, TellsPart, Reports, totals_line, short_line, read_fault_line, write_fault_line, no_memory_line, too_long_line}
use Rattle.hv_serial.specs.Transfers.{Drawn, Put}
use Rattle.hv_serial.specs.Endings.{EndsOk, EndsReadFault, EndsShort, EndsWriteFault, EndsNoMemory, EndsTooLong}

-- the exit code of a status
abbrev pub code_of : Status → ℕ
code_of Ok = 0
code_of Words = 2
code_of ReadFault = 3
code_of (ShortPicture have) = 4
code_of WriteFault = 5
code_of NoMemory = 6
code_of TooLong = 7
code_of ReportFault = 8

-- the statuses after which all input is read and all output is written
abbrev pub is_whole : Status → Bool
is_whole Ok = true
is_whole Words = false
is_whole ReadFault = false
is_whole (ShortPicture have) = false
is_whole WriteFault = false
is_whole NoMemory = false
is_whole TooLong = false
is_whole ReportFault = true

-- the statuses that speak of the input
abbrev pub is_of_input : Status → Bool
is_of_input Ok = false
is_of_input Words = false
is_of_input ReadFault = true
is_of_input (ShortPicture have) = true
is_of_input WriteFault = false
is_of_input NoMemory = false
is_of_input TooLong = true
is_of_input ReportFault = false

-- the line of a status that has the same one at each call
abbrev pub fixed_line : Status → Option (List ℕ)
fixed_line Ok = None
fixed_line Words = None
fixed_line ReadFault = Some read_fault_line
fixed_line (ShortPicture have) = None
fixed_line WriteFault = Some write_fault_line
fixed_line NoMemory = Some no_memory_line
fixed_line TooLong = Some too_long_line
fixed_line ReportFault = None

-- the status of an error
abbrev pub status_of : EncodeError → Status
status_of error.ReadFault = ReadFault
status_of (error.ShortPicture have) = ShortPicture have
status_of error.WriteFault = WriteFault
status_of error.NoMemory = NoMemory
status_of error.TooLong = TooLong

-- the encoding ended so, and the report has its line
pub record Concluded (ends : Type 0) (told : Type 0) : Type 0 where
  pub encoded : ends
  pub reported : told

pub record ConcludedOk (cfg : Settings) (d : Drawn) (w r : Put) : Type 0 where
  pub totals : Totals
  pub encoded : EndsOk cfg totals d w
  pub reported : Tells r (totals_line totals)

pub record ConcludedReportFault (cfg : Settings) (d : Drawn) (w r : Put) : Type 0 where
  pub totals : Totals
  pub encoded : EndsOk cfg totals d w
  pub reported : TellsPart r (totals_line totals)

-- accepted settings end so
abbrev pub Concludes : Settings → Drawn → Put → Put → Status → Type 0
Concludes cfg d w r Ok = ConcludedOk cfg d w r
Concludes cfg d w r Words = ⊥
Concludes cfg d w r ReadFault = Concluded (EndsReadFault cfg d w) (Reports r read_fault_line)
Concludes cfg d w r (ShortPicture have) =
    Concluded (EndsShort cfg have d w) (Reports r (short_line have (picture_bytes cfg)))
Concludes cfg d w r WriteFault = Concluded (EndsWriteFault cfg d w) (Reports r write_fault_line)
Concludes cfg d w r NoMemory = Concluded (EndsNoMemory cfg d w) (Reports r no_memory_line)
Concludes cfg d w r TooLong = Concluded (EndsTooLong cfg d w) (Reports r too_long_line)
Concludes cfg d w r ReportFault = ConcludedReportFault cfg d w r

-- the status of an input that is too long or not, and is whole pictures or has so many bytes of one
-- more
abbrev pub due : Bool → Bool → ℕ → Status
due true whole have = TooLong
due false true have = Ok
due false false have = ShortPicture have

-- the status of an input of z bytes, where nothing fails
abbrev pub status_due : Settings → ℕ → Status
status_due cfg z =
    let p : ℕ = picture_bytes cfg in
    due (nat_lt (most_pictures * p) z) (nat_eq (z % p) 0) (z % p)

-- the status that is due, or want of memory
abbrev pub IsDue : Settings → ℕ → Status → Type 0
IsDue cfg z s = (s ≡ NoMemory) ⊎ (s ≡ status_due cfg z)
