-- The command of `clap` is the one of the definition, and what its matches say is read by it.
use Rattle.std.proofs.Common.{◌≡◌, ℕ, Bool, true, false, cond, List, Option, Some, None, refl, ap, ap₂, ◌∙◌, arith}
use Rattle.std.specs.Prelude.{Result, Ok, Err, codes, option_and_then}
use Rattle.std.specs.Str.Parse.{ParsesUnsigned, digits_value, without_leading_plus}
use Rattle.clap.specs.Words.{AddsArg, App, ReadsOne, Rule, Text, app_of, first_value, one_text, rule_of, rows_of, with_rule}
use Rattle.clap.specs.ValueTests.{is_unsigned_in}
use Rattle.clap.specs.declared.builder.arg.Arg.{Arg}
use Rattle.clap.specs.declared.builder.command.Command.{Command}
use Rattle.clap.specs.declared.builder.value_parser.ValueParser.TheVariants as vp
use Rattle.clap.specs.declared.parser.matches.Found.{Found}
use Rattle.clap.proofs.WalkLemmas.{first_value-rows, one_text-rows}
use Rattle.clap.proofs.ValueTestLemmas.{accepts-Accepts, Accepts-accepts}
use Rattle.hv_words.specs.CommandLine.{emit_in, emit_of_text, number_in, number_of_text}

-- ---- the command

pub added : (old new : Command) (a : Arg) (app : App) (rule : Rule) → app_of old ≡ app → rule_of a ≡ rule → a.global ≡ false → AddsArg old a new →
    app_of new ≡ with_rule app rule
added old new a app rule is_app is_rule local adds = adds.shape local ∙ ap₂ with_rule is_app is_rule

-- ---- values

-- what `parse` makes of a text is its number
number_read : {E : Type 0} (G : List ℕ → Result ℕ E → Type 0) (text : Text) (read : Option ℕ) → ((t : Text) (r : Result ℕ E) → G t r → ParsesUnsigned 32 10 t r) →
    ReadsOne G text read → read ≡ number_of_text text
number_read {E} G text read parses reads = by_test (is_unsigned_in 0 4294967295 text) refl read reads
  where
    n : ℕ
    n = digits_value 10 (without_leading_plus text)

    by_test : (b : Bool) → is_unsigned_in 0 4294967295 text ≡ b → (o : Option ℕ) → ReadsOne G text o → o ≡ cond b (Some n) None
    by_test true e (Some v) h = ap Some (parses text (Ok v) h).1
    by_test true e None h =
        let a = accepts-Accepts false (vp.Unsigned 0 4294967295) text e in
        absurd (parses text (Err h.0) h.1 (a.0, omega (arith, a.3)))
    by_test false e (Some v) h =
        let p = (parses text (Ok v) h).0 in
        let t : is_unsigned_in 0 4294967295 text ≡ true = Accepts-accepts false (vp.Unsigned 0 4294967295) text (p.0, omega (arith, p.1), omega arith, omega (arith, p.1)) in
        cc
    by_test false e None h = refl

-- what `get_one` reads of an option
pub number_in_rows : {E : Type 0} (G : List ℕ → Result ℕ E → Type 0) (f : Found) (name : Text) (read : Option ℕ) → ((t : Text) (r : Result ℕ E) → G t r → ParsesUnsigned 32 10 t r) →
    (one_text f name ≡ None → read ≡ None) → ((t : Text) → one_text f name ≡ Some t → ReadsOne G t read) → read ≡ number_in (rows_of f) name
number_in_rows G f name read parses none some =
    by_text (one_text f name) refl ∙ ap (option_and_then number_of_text) (one_text-rows f name)
  where
    by_text : (o : Option Text) → one_text f name ≡ o → read ≡ option_and_then number_of_text o
    by_text None e = none e
    by_text (Some t) e = number_read G t read parses (some t e)

-- what `get_str` reads of `--emit`
pub emit_in_rows : (f : Found) (read : Option Text) → read ≡ first_value f (codes "emit") → option_and_then emit_of_text read ≡ emit_in (rows_of f)
emit_in_rows f read is = ap (option_and_then emit_of_text) (is ∙ first_value-rows f (codes "emit"))
