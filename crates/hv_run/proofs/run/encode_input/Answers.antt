-- A generator's video is encoded as that of a source which has its bytes.
use Rattle.std.proofs.Common.{◌≡◌, true, sym, ap, ◌∙◌}
use Rattle.hv_serial.specs.Transfers.{drawn}
use Rattle.hv_run.specs.Input.{is_generated}
use Rattle.hv_run.proofs.InputLemmas.{generator_concludes, generator_never}
use Rattle.hv_run.proofs.run.encode_input.Goals as goal

pub returns-then-is_some-clause-concludes : goal.returns-then-is_some-clause-concludes
returns-then-is_some-clause-concludes g c =
    let named : is_generated c.args.config.now ≡ true =
    ap is_generated (sym c.settings.ensures.value) ∙ sym c.is_some.ensures ∙ c.if-is_some.true in
    generator_concludes c.args.config.now c.requires.valid
    (c.generated_is_video.ensures c.args.config.now c.requires.valid) c.new.result
    c.encode_and_report.new.source
    (drawn g.S.Source.left g.S.Source.faults c.args.source.now c.args.source.now) _ _
    c.encode_and_report.result c.new.ensures named c.encode_and_report.ensures

pub returns-then-is_some-clause-never_of_input : goal.returns-then-is_some-clause-never_of_input
returns-then-is_some-clause-never_of_input g c named =
    generator_never c.args.config.now c.requires.valid
    (c.generated_is_video.ensures c.args.config.now c.requires.valid) c.new.result
    c.encode_and_report.new.source _ _ c.encode_and_report.result c.new.ensures
    c.encode_and_report.ensures
