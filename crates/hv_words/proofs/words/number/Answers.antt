-- The number is that of the text.
use Rattle.std.specs.Str.Parse.{ParsesUnsigned, ExplainsUnsignedError, HasUnsignedDigitsIfOk}
use Rattle.clap.specs.Words.{found_of}
use Rattle.hv_words.proofs.CommandLemmas.{number_in_rows}
use Rattle.hv_words.proofs.words.number.Goals as goal

pub returns : goal.returns
returns c =
    number_in_rows (λ bs r. ParsesUnsigned 32 10 bs r × ExplainsUnsignedError 10 bs r × HasUnsignedDigitsIfOk bs r)
    (found_of c.args.matches.now) c.args.name.now c.get_one.result (λ t r g. g.0)
    c.get_one.ensures.none c.get_one.ensures.value
