-- What the plain reader of bins is asked, and what it answers.
use Rattle.std.specs.Prelude.{Bool, cond, nat_lt, Option, None, MatchOption, Some, ◌≡◌}
use Rattle.hv_tables.specs.Bins.{Question, Context, Bypass, Terminate}
use Rattle.hv_entropy_model.specs.Oracle.{Decoder, decode}
use Rattle.hv_plain.specs.declared.reader.Question.{Question as PlainQuestion}
use Rattle.hv_plain.specs.declared.reader.Question.TheVariants.{Bin as PlainBin, Bypass as PlainBypass, End as PlainEnd}

abbrev pub question_of : PlainQuestion → Question
question_of (PlainBin context) = Context context
question_of PlainBypass = Bypass
question_of PlainEnd = Terminate

-- the decoder's answer; none once its offset is beyond its range, which is after the bin that ends
-- the slice alone
abbrev pub answered : Decoder → Question → Option (Bool × Decoder)
answered d question = cond (nat_lt d.ivlOffset d.ivlCurrRange) (decode d question) None

-- a reader that gives this answer was the old decoder, and is the new one; it is unchanged where it
-- gives none
abbrev pub Answers : Option (Bool × Decoder) → Decoder → Decoder → Option Bool → Type 0
Answers wanted old new result =
    MatchOption result ((new ≡ old) × (wanted ≡ None)) (λ value. wanted ≡ Some (value, new))
