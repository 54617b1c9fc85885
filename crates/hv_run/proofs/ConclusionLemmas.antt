-- What each status says, from how the encoding ended and what was reported.
use Rattle.std.proofs.Common.{◌≡◌, ℕ, ◌+◌, ◌*◌, ◌/◌, ◌%◌, ◌<◌, ◌≤◌, Bool, true, false, List, length, refl, sym, ap, subst, ◌∙◌, inl, inr, arith, length-drop}
use Rattle.std.specs.Prelude.{Option, Some, IsSome, nat_eq, Err, string_bytes}
use Rattle.std.proofs.lemmas.Nat.{div-add-mod', mul-le}
use Rattle.std.proofs.Math.Nat.{lt-div-mul-add}
use Rattle.std.proofs.lemmas.Bool.Decides.{nat_tests}
use Rattle.hv_lemmas.proofs.ComparisonLemmas.{lt_below, lt_not_below, other_than_0}
use Rattle.hv_lemmas.proofs.OptionLemmas.{some_same}
use Rattle.hv_types.specs.declared.settings.Settings.{Settings}
use Rattle.hv_types.specs.declared.picture.Picture.{Picture}
use Rattle.hv_types.specs.Configuration.{IsValid, most_pictures, picture_bytes}
use Rattle.hv_types.specs.Outside.{Rises}
use Rattle.hv_types.proofs.ConfigurationLemmas.{picture_bytes-least}
use Rattle.hv_lemmas.proofs.ListLemmas.{length-tabulate}
use Rattle.hv_serial.specs.declared.answers.Totals.{Totals}
use Rattle.hv_serial.specs.declared.answers.EncodeError.{EncodeError}
use Rattle.hv_serial.specs.declared.answers.EncodeError.TheVariants as error
use Rattle.hv_run.specs.declared.status.Status.{Status}
use Rattle.hv_run.specs.declared.status.Status.TheVariants.{Ok, Words, ReadFault, ShortPicture, WriteFault, NoMemory, TooLong, ReportFault}
use Rattle.hv_words.specs.declared.refusal.WordsError.{WordsError}
use Rattle.hv_words.specs.declared.refusal.WordsError.TheVariants as words
use Rattle.hv_words.specs.Answers.{Answers, HasLine}
use Rattle.hv_words.specs.CommandLine.{AsksFor, Refusal, no_command_line, faulty, refusal}
use Rattle.hv_words.proofs.AcceptanceLemmas.{same_settings}
use Rattle.hv_serial.specs.Transfers.{Drawn, Put, Grows, PutsPart}
use Rattle.hv_serial.specs.Outcomes.{pictures_in, rest_in, group_count, WroteGroups, IsReadToEnd, EndsWithin, GoesOn}
use Rattle.hv_serial.specs.Endings.{BothTold, Ends, EndsOk, AreTotals}
use Rattle.hv_run.specs.Input.{input_drawn, is_generated}
use Rattle.hv_run.specs.Report.{Reports, ReportsRefusal, encoded_line, error_line, totals_line, line_of, no_memory_line, words_line, is_want_of_memory}
use Rattle.hv_run.specs.Statuses.{is_whole, is_of_input, fixed_line, status_of, Concludes, ConcludedOk, ConcludedReportFault, due, status_due, IsDue}
use Rattle.hv_serial.proofs.ReadingLemmas.{next_place}

-- ---- a call that concluded so, for the settings that were asked for

pub concluded : (words : List (List ℕ)) (cfg config : Settings) (d : Drawn) (w r : Put) (s t : Status) → AsksFor words cfg → AsksFor words config →
    Concludes config (input_drawn config d) w r s → s ≡ t → Concludes cfg (input_drawn cfg d) w r t
concluded words cfg config d w r s t a b e same =
    subst (λ (k : Settings). Concludes k (input_drawn k d) w r t) (same_settings words config cfg b a)
    (subst (λ (u : Status). Concludes config (input_drawn config d) w r u) same e)

-- the settings that were asked for name a generator, where those do that the call found
pub asked_generator : (words : List (List ℕ)) (cfg config : Settings) → AsksFor words cfg → AsksFor words config → is_generated cfg ≡ true → is_generated config ≡ true
asked_generator words cfg config a b named = ap is_generated (same_settings words config cfg b a) ∙ named

pub concluded_error : (cfg : Settings) (d : Drawn) (w r : Put) (size : ℕ) (e : EncodeError) (s : Status) → size ≡ picture_bytes cfg → s ≡ status_of e →
    Ends cfg d w (Err e) → Reports r (error_line size e) → Concludes cfg d w r s
concluded_error cfg d w r size e s of_picture is ends reports =
    subst (λ (t : Status). Concludes cfg d w r t) (sym is)
    (error_case cfg d w r e ends (subst (λ (n : ℕ). Reports r (error_line n e)) of_picture reports))
  where
    error_case : (cfg : Settings) (d : Drawn) (w r : Put) (e : EncodeError) → Ends cfg d w (Err e) → Reports r (error_line (picture_bytes cfg) e) → Concludes cfg d w r (status_of e)
    error_case cfg d w r error.ReadFault ends reports = record { encoded = ends; reported = reports }
    error_case cfg d w r (error.ShortPicture have) ends reports = record { encoded = ends; reported = reports }
    error_case cfg d w r error.WriteFault ends reports = record { encoded = ends; reported = reports }
    error_case cfg d w r error.NoMemory ends reports = record { encoded = ends; reported = reports }
    error_case cfg d w r error.TooLong ends reports = record { encoded = ends; reported = reports }

-- ---- words that give no settings

-- an error that isn't want of memory is a refusal
pub refused_so : (why : Option Refusal) (error : WordsError) → Answers why error → is_want_of_memory error ≡ false → IsSome why
refused_so why (words.Parse text) h e = subst (λ (o : Option Refusal). IsSome o) (sym h) refl
refused_so why (words.Config error) h e = subst (λ (o : Option Refusal). IsSome o) (sym h) refl
refused_so why words.NoMemory h e = cc

-- accepted words are refused by none but want of memory
pub not_refused : (words : List (List ℕ)) (cfg : Settings) (error : WordsError) → AsksFor words cfg → Answers (refusal words) error → is_want_of_memory error ≡ false → ⊥
not_refused words cfg error a h e = subst (λ (o : Option Refusal). IsSome o → ⊥) (sym a.accepted) (λ some. cc) (refused_so (refusal words) error h e)

-- the report tells of the refusal
pub refusal_told : (r : Put) (why : Refusal) (found : Option Refusal) (error : WordsError) → found ≡ Some why → Answers found error → HasLine error → is_want_of_memory error ≡ false →
    Reports r (words_line error) → ReportsRefusal r why
refusal_told r why found (words.Parse text) is h line e told =
    subst (λ (w : Refusal). ReportsRefusal r w) (some_same no_command_line why (sym h ∙ is)) (record {
      text = string_bytes text;
      line = line;
      reports = told;
    })
refusal_told r why found (words.Config error) is h line e told = subst (λ (w : Refusal). ReportsRefusal r w) (some_same (faulty error) why (sym h ∙ is)) told
refusal_told r why found words.NoMemory is h line e told = cc

-- the report tells of want of memory
pub no_memory_told : (r : Put) (error : WordsError) (line : List ℕ) → is_want_of_memory error ≡ true → Some no_memory_line ≡ Some line → Reports r (words_line error) → Reports r line
no_memory_told r (words.Parse text) line e is told = cc
no_memory_told r (words.Config error) line e is told = cc
no_memory_told r words.NoMemory line e is told = subst (λ (x : List ℕ). Reports r x) (some_same no_memory_line line is) told

-- ---- what the statuses share

pub words_never : (cfg : Settings) (d : Drawn) (w r : Put) (s : Status) → Concludes cfg d w r s → s ≡ Words → ⊥
words_never cfg d w r s h e = subst (λ (t : Status). Concludes cfg d w r t) e h

-- the encoding came to its end
pub record Whole (cfg : Settings) (d : Drawn) (w : Put) : Type 0 where
  pub totals : Totals
  pub encoded : EndsOk cfg totals d w

pub whole_case : (cfg : Settings) (d : Drawn) (w r : Put) (s : Status) → Concludes cfg d w r s → is_whole s ≡ true → Whole cfg d w
whole_case cfg d w r Ok h e = record { totals = h.totals; encoded = h.encoded }
whole_case cfg d w r Words h e = absurd h
whole_case cfg d w r ReadFault h e = absurd cc
whole_case cfg d w r (ShortPicture have) h e = absurd cc
whole_case cfg d w r WriteFault h e = absurd cc
whole_case cfg d w r NoMemory h e = absurd cc
whole_case cfg d w r TooLong h e = absurd cc
whole_case cfg d w r ReportFault h e = record { totals = h.totals; encoded = h.encoded }

-- no read failed but where the status says so
pub source_well : (cfg : Settings) (d : Drawn) (w r : Put) (s : Status) → Concludes cfg d w r s → (s ≡ ReadFault → ⊥) →
    d.faults_now ≡ d.faults_before
source_well cfg d w r Ok h other = h.encoded.no_faults.reading
source_well cfg d w r Words h other = absurd h
source_well cfg d w r ReadFault h other = absurd (other refl)
source_well cfg d w r (ShortPicture have) h other = h.encoded.no_faults.reading
source_well cfg d w r WriteFault h other = h.encoded.reading
source_well cfg d w r NoMemory h other = h.encoded.no_faults.reading
source_well cfg d w r TooLong h other = h.encoded.no_faults.reading
source_well cfg d w r ReportFault h other = h.encoded.no_faults.reading

-- .. and so with writing
pub sink_well : (cfg : Settings) (d : Drawn) (w r : Put) (s : Status) → Concludes cfg d w r s → (s ≡ WriteFault → ⊥) →
    w.faults_now ≡ w.faults_before
sink_well cfg d w r Ok h other = h.encoded.no_faults.writing
sink_well cfg d w r Words h other = absurd h
sink_well cfg d w r ReadFault h other = h.encoded.writing
sink_well cfg d w r (ShortPicture have) h other = h.encoded.no_faults.writing
sink_well cfg d w r WriteFault h other = absurd (other refl)
sink_well cfg d w r NoMemory h other = h.encoded.no_faults.writing
sink_well cfg d w r TooLong h other = h.encoded.no_faults.writing
sink_well cfg d w r ReportFault h other = h.encoded.no_faults.writing

pub groups_case : (cfg : Settings) (d : Drawn) (w r : Put) (s : Status) → Concludes cfg d w r s → is_of_input s ≡ true →
    BothTold d (λ bytes left. WroteGroups cfg bytes left w.old w.new)
groups_case cfg d w r Ok h e = cc
groups_case cfg d w r Words h e = absurd h
groups_case cfg d w r ReadFault h e = h.encoded.wrote
groups_case cfg d w r (ShortPicture have) h e = h.encoded.wrote
groups_case cfg d w r WriteFault h e = cc
groups_case cfg d w r NoMemory h e = cc
groups_case cfg d w r TooLong h e = h.encoded.wrote
groups_case cfg d w r ReportFault h e = cc

the_line : (r : Put) (a b : List ℕ) → Some a ≡ Some b → Reports r a → Reports r b
the_line r a b e h = subst (λ (x : List ℕ). Reports r x) (some_same a b e) h

pub line_case : (cfg : Settings) (d : Drawn) (w r : Put) (s : Status) (line : List ℕ) → Concludes cfg d w r s → fixed_line s ≡ Some line → Reports r line
line_case cfg d w r Ok line h e = absurd cc
line_case cfg d w r Words line h e = absurd h
line_case cfg d w r ReadFault line h e = the_line r _ line e h.reported
line_case cfg d w r (ShortPicture have) line h e = absurd cc
line_case cfg d w r WriteFault line h e = the_line r _ line e h.reported
line_case cfg d w r NoMemory line h e = the_line r _ line e h.reported
line_case cfg d w r TooLong line h e = the_line r _ line e h.reported
line_case cfg d w r ReportFault line h e = absurd cc

-- the line of the totals is that of the pictures
line_is : (cfg : Settings) (v : List Picture) (t : Totals) → AreTotals cfg v t → totals_line t ≡ line_of cfg v
line_is cfg v t a =
    ap (λ (n : ℕ). encoded_line n t.groups t.bytes) a.pictures
    ∙ ap (λ (n : ℕ). encoded_line (length v) n t.bytes) a.groups
    ∙ ap (λ (n : ℕ). encoded_line (length v) (group_count cfg (length v)) n) a.bytes

pub ok_line : (cfg : Settings) (d : Drawn) (w r : Put) → ConcludedOk cfg d w r → (bytes : List ℕ) → d.before ≡ Some bytes →
    Grows r.old r.new (line_of cfg (pictures_in cfg bytes))
ok_line cfg d w r h bytes told =
    subst (λ (x : List ℕ). Grows r.old r.new x) (line_is cfg (pictures_in cfg bytes) h.totals (h.encoded.totals bytes told)) h.reported.whole

pub part_of_line : (cfg : Settings) (d : Drawn) (w r : Put) → ConcludedReportFault cfg d w r → (bytes : List ℕ) → d.before ≡ Some bytes →
    PutsPart r.old r.new (line_of cfg (pictures_in cfg bytes))
part_of_line cfg d w r h bytes told =
    subst (λ (x : List ℕ). PutsPart r.old r.new x) (line_is cfg (pictures_in cfg bytes) h.totals (h.encoded.totals bytes told)) h.reported.part

-- ---- the status that is due

eq_true : (a : ℕ) → a ≡ 0 → nat_eq a 0 ≡ true
eq_true a h = grind (arith, nat_tests)

-- the bytes behind the whole pictures
rest_length : (cfg : Settings) (bytes : List ℕ) → length (rest_in cfg bytes) ≡ length bytes % picture_bytes cfg
rest_length cfg bytes =
    let p : ℕ = picture_bytes cfg in
    omega (arith, length-drop (length bytes / p * p) bytes, div-add-mod' (length bytes) p)

-- the whole pictures of an input, and what is behind them
at_most : (p z most : ℕ) → z / p ≤ most → z % p ≡ 0 → z ≤ most * p
at_most p z most few none = omega (arith, div-add-mod' z p, none, mul-le (z / p) p most p few (omega arith))

below : (p z most : ℕ) → 0 < p → z / p < most → z ≤ most * p
below p z most some few =
    omega (
      arith,
      lt-div-mul-add {a = z} {b = p} some,
      next_place (z / p) p,
      mul-le (z / p + 1) p most p (omega (arith, few)) (omega arith),
    )

due_ok : (cfg : Settings) (bytes : List ℕ) (now : Option (List ℕ)) → IsReadToEnd cfg bytes now → Ok ≡ status_due cfg (length bytes)
due_ok cfg bytes now h =
    let p : ℕ = picture_bytes cfg in
    let z : ℕ = length bytes in
    let none : z % p ≡ 0 = sym (rest_length cfg bytes) ∙ ap (λ (x : List ℕ). length x) h.no_rest in
    let few : z / p ≤ most_pictures = subst (λ (n : ℕ). n ≤ most_pictures) (length-tabulate _ _) h.few in
    sym (ap (λ (a : Bool). due a (nat_eq (z % p) 0) (z % p)) (lt_not_below (most_pictures * p) z (at_most p z most_pictures few none))
    ∙ ap (λ (a : Bool). due false a (z % p)) (eq_true (z % p) none))

due_short : (cfg : Settings) → IsValid cfg → (have : ℕ) (bytes : List ℕ) (now : Option (List ℕ)) → EndsWithin cfg have bytes now → ShortPicture have ≡ status_due cfg (length bytes)
due_short cfg b have bytes now h =
    let p : ℕ = picture_bytes cfg in
    let z : ℕ = length bytes in
    let part : have ≡ z % p = h.part ∙ rest_length cfg bytes in
    let few : z / p < most_pictures = subst (λ (n : ℕ). n < most_pictures) (length-tabulate _ _) h.few in
    let some : 0 < p = omega (arith, picture_bytes-least cfg b) in
    ap ShortPicture part
    ∙ sym (ap (λ (a : Bool). due a (nat_eq (z % p) 0) (z % p)) (lt_not_below (most_pictures * p) z (below p z most_pictures some few))
    ∙ ap (λ (a : Bool). due false a (z % p)) (other_than_0 (z % p) (omega (arith, part, h.some))))

due_too_long : (cfg : Settings) (bytes : List ℕ) (now : Option (List ℕ)) → GoesOn cfg bytes now → TooLong ≡ status_due cfg (length bytes)
due_too_long cfg bytes now h =
    let p : ℕ = picture_bytes cfg in
    let z : ℕ = length bytes in
    sym (ap (λ (a : Bool). due a (nat_eq (z % p) 0) (z % p)) (lt_below (most_pictures * p) z h.more))

pub complete_case : (cfg : Settings) → IsValid cfg → (d : Drawn) (w r : Put) (s : Status) → Concludes cfg d w r s → (bytes : List ℕ) → d.before ≡ Some bytes →
    (Rises d.faults_before d.faults_now → ⊥) → (Rises w.faults_before w.faults_now → ⊥) → (Rises r.faults_before r.faults_now → ⊥) →
    IsDue cfg (length bytes) s
complete_case cfg b d w r Ok h bytes told no_read no_write no_report = inr (due_ok cfg bytes d.now (h.encoded.read bytes told))
complete_case cfg b d w r Words h bytes told no_read no_write no_report = absurd h
complete_case cfg b d w r ReadFault h bytes told no_read no_write no_report = absurd (no_read h.encoded.rises)
complete_case cfg b d w r (ShortPicture have) h bytes told no_read no_write no_report = inr (due_short cfg b have bytes d.now (h.encoded.read bytes told))
complete_case cfg b d w r WriteFault h bytes told no_read no_write no_report = absurd (no_write h.encoded.rises)
complete_case cfg b d w r NoMemory h bytes told no_read no_write no_report = inl refl
complete_case cfg b d w r TooLong h bytes told no_read no_write no_report = inr (due_too_long cfg bytes d.now (h.encoded.read bytes told))
complete_case cfg b d w r ReportFault h bytes told no_read no_write no_report = absurd (no_report h.reported.rises)
