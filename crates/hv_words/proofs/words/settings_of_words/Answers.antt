-- The words by the definition of `clap`.
use Rattle.std.proofs.Common.{sym}
use Rattle.clap.specs.Words.{app_of, found_of, rows_of, kind_of}
use Rattle.hv_words.proofs.ReadingLemmas.{texts_are, taken, not_taken, Rejects-weaker}
use Rattle.hv_words.proofs.words.settings_of_words.Goals as goal

pub returns-in-Some-clause-ok : goal.returns-in-Some-clause-ok
returns-in-Some-clause-ok c =
    taken (app_of c.in_ok-command.command) _ c.args.words.now (rows_of (found_of c.in-Ok.matches)) _ c.in_ok-command.ensures (texts_are c.in_ok-texts.texts.items c.as_slice.result.now c.args.words.now c.as_slice.ensures.value c.in_ok-texts.ensures)
    c.in-Ok.ensures.kinds (λ simple. (c.in-Ok.ensures.ok.2 simple).0) (sym c.in-Some.ensures)

pub returns-in-Ok-clause-err : goal.returns-in-Ok-clause-err
returns-in-Ok-clause-err c =
    Rejects-weaker c.emit_refused.result
    (λ _. taken (app_of c.in_ok-command.command) _ c.args.words.now (rows_of (found_of c.in-Ok.matches)) _ c.in_ok-command.ensures (texts_are c.in_ok-texts.texts.items c.as_slice.result.now c.args.words.now c.as_slice.ensures.value c.in_ok-texts.ensures)
    c.in-Ok.ensures.kinds (λ simple. (c.in-Ok.ensures.ok.2 simple).0) (sym c.in-None.ensures))
    c.emit_refused.ensures.rejects

pub returns-clause-err : goal.returns-clause-err
returns-clause-err c =
    Rejects-weaker c.refused.result
    (not_taken (app_of c.in_ok-command.command) _ c.args.words.now (kind_of c.in-Err.error) c.in_ok-command.ensures (texts_are c.in_ok-texts.texts.items c.as_slice.result.now c.args.words.now c.as_slice.ensures.value c.in_ok-texts.ensures) c.in-Err.ensures.kinds)
    c.refused.ensures.rejects
