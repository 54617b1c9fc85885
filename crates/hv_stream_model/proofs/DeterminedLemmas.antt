-- The fields that a script reads are determined by their bits (7.2, 9.2): a script that also gives
-- the fields reads them from the bits.
use Rattle.std.proofs.Common.{List, [], ◌∷◌, sym, ap, ◌∙◌}
use Rattle.std.specs.Prelude.{Option, Some, None}
use Rattle.hv_stream_model.specs.Scripts.{Done, Ask, Fail, ◌>>=◌, Reads, nothing, one}
use Rattle.hv_stream_model.specs.Fields.{Field, HeaderScript, read_header}
use Rattle.hv_stream_model.specs.HeaderLaws.{BitsDetermineFields}
use Rattle.hv_stream_model.proofs.ScriptLemmas.{reads_map}
use Rattle.hv_stream_model.proofs.FieldLemmas.{fields_read_back}

-- the script, which gives the fields besides
abbrev kept_by : {A : Type 0} → HeaderScript A → HeaderScript (List Field × A)
kept_by (Done a) = Done ([], a)
kept_by (Ask q c) = Ask q (λ v. kept_by (c v) >>= λ r.
    Done (record { question = q; value = v } ∷ r.0, r.1))
kept_by Fail = Fail

reads_kept : {A : Type 0} {s : HeaderScript A} {fields : List Field} {a : A} →
    Reads s fields a → Reads (kept_by s) fields (fields, a)
reads_kept nothing = nothing
reads_kept (one {q} {v} {c} h) =
    one (reads_map (λ r. (record { question = q; value = v } ∷ r.0, r.1)) (reads_kept h))

abbrev value_or : {B : Type 0} → B → Option B → B
value_or other None = other
value_or other (Some value) = value

pub bits_determine : (A : Type 0) → BitsDetermineFields A
bits_determine A script fields others a b rest more p q r s same =
    let left = fields_read_back (List Field × A) (kept_by script) fields (fields, a) rest p
    (reads_kept r) in
    let right = fields_read_back (List Field × A) (kept_by script) others (others, b) more q
    (reads_kept s) in
    let all = ap (value_or ((fields, a), rest))
    (sym left ∙ ap (read_header (kept_by script)) same ∙ right) in
    (ap (λ r. r.0.0) all, ap (λ r. r.0.1) all, ap (λ r. r.1) all)
