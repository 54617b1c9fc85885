-- The value is that of the text.
use Rattle.std.proofs.Common.{None, Some, ◌∙◌}
use Rattle.clap.specs.Words.{found_of}
use Rattle.hv_words.proofs.CommandLemmas.{emit_in_rows}
use Rattle.hv_words.proofs.words.emit.Goals as goal

pub returns-in_err-get_str : goal.returns-in_err-get_str
returns-in_err-get_str c =
    c.from_residual.ensures ∙ emit_in_rows (found_of c.args.matches.now) None (c.in_err-get_str.ensures)

pub returns : goal.returns
returns c =
    c.emit_of_text.ensures
    ∙ emit_in_rows (found_of c.args.matches.now) (Some c.in_ok-get_str.field-0.now) (c.in_ok-get_str.ensures)
