-- The arithmetic decoder (9.3.4.3) as an oracle: a machine that answers questions, bin after bin.
use Rattle.std.specs.Prelude.{ℕ, zero, suc, ◌+◌, ◌-◌, ◌*◌, ◌^◌, Bool, true, false, cond, not, nat_eq, nat_lt, ◌&&◌, List, [], ◌∷◌, Option, Some, None}
use Rattle.hv_tables.specs.declared.bins.SliceKind.{SliceKind}
use Rattle.hv_tables.specs.declared.bins.Ctx.{Ctx}
use Rattle.hv_tables.specs.Bins.{Question, Context, Bypass, Terminate, Bin}
use Rattle.hv_entropy_model.specs.Contexts.{ContextVariable, variable_at, with_variable, lps_width, next_variable, first_variables}
use Rattle.hv_lemmas.specs.Booleans.{same}
use Rattle.hv_tables.specs.ContextTables.{offset_of}
use Rattle.hv_entropy_model.specs.CodeWord.{shift_of}
use Rattle.hv_stream_model.specs.Scripts.{Script, run}

-- ---- the decoder of H.265

pub record Decoder : Type 0 where
  -- what is still to be read
  pub bits : List ℕ
  pub ivlCurrRange : ℕ
  pub ivlOffset : ℕ
  pub variables : List ContextVariable

-- the offset doubles and takes a bit, k times; none where the bits end
abbrev pub read_bits : ℕ → List ContextVariable → ℕ → ℕ → List ℕ → Option Decoder
read_bits zero variables range offset bits =
    Some (record { bits = bits; ivlCurrRange = range; ivlOffset = offset; variables = variables })
read_bits (suc k) variables range offset [] = None
read_bits (suc k) variables range offset (bit ∷ bits) =
    read_bits k variables range (2 * offset + bit) bits

-- initialization (9.3.2.5): none where there are fewer than nine bits, or where they are 510 or 511
abbrev pub if_in_range : Option Decoder → Option Decoder
if_in_range None = None
if_in_range (Some d) = cond (nat_lt d.ivlOffset 510) (Some d) None

abbrev pub begin_decoder : List ContextVariable → List ℕ → Option Decoder
begin_decoder variables bits = if_in_range (read_bits 9 variables 510 0 bits)

-- renormalization (9.3.4.3.3): the range doubles until it has 256, and the offset takes as many
-- bits
abbrev pub renormalize : List ContextVariable → ℕ → ℕ → List ℕ → Option Decoder
renormalize variables range offset bits =
    read_bits (shift_of range) variables (range * 2 ^ shift_of range) offset bits

abbrev pub with_value : Bool → Option Decoder → Option (Bool × Decoder)
with_value value None = None
with_value value (Some d) = Some (value, d)

-- a binary decision (9.3.4.3.2), where the less probable part has this width
abbrev pub decode_decision : Decoder → Ctx → ℕ → Bool → Option (Bool × Decoder)
decode_decision d context lps valMps =
    let after : Bool → List ContextVariable =
    λ value. with_variable d.variables context (next_variable
    (variable_at d.variables context) value) in
    cond (nat_lt d.ivlOffset (d.ivlCurrRange - lps))
    (with_value valMps
    (renormalize (after valMps) (d.ivlCurrRange - lps) d.ivlOffset d.bits))
    (with_value (not valMps)
    (renormalize (after (not valMps)) lps (d.ivlOffset - (d.ivlCurrRange - lps)) d.bits))

-- bypass (9.3.4.3.4), once the offset has taken its bit
abbrev pub decode_bypass : Option Decoder → Option (Bool × Decoder)
decode_bypass None = None
decode_bypass (Some d) =
    Some (cond (nat_lt d.ivlOffset d.ivlCurrRange)
    (false, d)
    (true, record d { ivlOffset = d.ivlOffset - d.ivlCurrRange }))

-- before terminate (9.3.4.3.5)
abbrev pub decode_terminate : Decoder → Option (Bool × Decoder)
decode_terminate d =
    cond (nat_lt d.ivlOffset (d.ivlCurrRange - 2))
    (with_value false (renormalize d.variables (d.ivlCurrRange - 2) d.ivlOffset d.bits))
    (Some (true, record d { ivlCurrRange = d.ivlCurrRange - 2 }))

-- a bin, and the decoder after it
abbrev pub decode : Decoder → Question → Option (Bool × Decoder)
decode d (Context context) =
    let v = variable_at d.variables context in
    decode_decision d context (lps_width v d.ivlCurrRange) v.valMps
decode d Bypass = decode_bypass (read_bits 1 d.variables d.ivlCurrRange d.ivlOffset d.bits)
decode d Terminate = decode_terminate d

-- ---- the oracle: a list of bins that answers in order, or the decoder

pub data Oracle : Type 0 where
  Listed : List Bin → Oracle
  Coded : Decoder → Oracle

-- two tables are one where they have one offset
abbrev pub same_context : Ctx → Ctx → Bool
same_context a b = nat_eq (offset_of a.table) (offset_of b.table) && nat_eq a.index b.index

abbrev pub same_question : Question → Question → Bool
same_question (Context a) (Context b) = same_context a b
same_question (Context a) Bypass = false
same_question (Context a) Terminate = false
same_question Bypass (Context b) = false
same_question Bypass Bypass = true
same_question Bypass Terminate = false
same_question Terminate (Context b) = false
same_question Terminate Bypass = false
same_question Terminate Terminate = true

abbrev pub coded : Option (Bool × Decoder) → Option (Bool × Oracle)
coded None = None
coded (Some (value, d)) = Some (value, Coded d)

-- the value, and the oracle after it; none where there is no answer
abbrev pub answer : Oracle → Question → Option (Bool × Oracle)
answer (Listed []) question = None
answer (Listed (b ∷ bins)) question =
    cond (same_question b.question question) (Some (b.value, Listed bins)) None
answer (Coded d) question = coded (decode d question)

abbrev pub option_coded : Option Decoder → Option Oracle
option_coded None = None
option_coded (Some d) = Some (Coded d)

-- the oracle at the start of a slice's data
abbrev pub begin : List ℕ → SliceKind → ℕ → Option Oracle
begin bits kind qp = option_coded (begin_decoder (first_variables kind qp) bits)

-- what a syntax structure's script reads from an oracle, and the oracle after it
abbrev pub read : {A : Type 0} → Script Question Bool A → Oracle → Option (A × Oracle)
read script oracle = run Question Bool Oracle answer script oracle

-- ---- what an oracle answers to the questions of a list

abbrev pub if_same : Bool → Option (Bool × Oracle) → (Oracle → Option Oracle) → Option Oracle
if_same value None k = None
if_same value (Some (given, oracle)) k = cond (same given value) (k oracle) None

-- the oracle after it has answered each question of the list with its value; none where it doesn't
abbrev pub after_bins : Oracle → List Bin → Option Oracle
after_bins oracle [] = Some oracle
after_bins oracle (b ∷ bins) =
    if_same b.value (answer oracle b.question) (λ next. after_bins next bins)

-- the bits that the decoder hasn't read
abbrev pub bits_left : Oracle → List ℕ
bits_left (Listed bins) = []
bits_left (Coded d) = d.bits
