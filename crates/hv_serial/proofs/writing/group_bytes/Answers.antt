-- The output of the group is what is written of its pictures.
use Rattle.std.proofs.Common.{ap, ◌∙◌}
use Rattle.std.specs.Prelude.{nat_eq}
use Rattle.std.proofs.lemmas.Result.{IfOk-weaker}
use Rattle.hv_types.specs.declared.settings.Settings.{Settings}
use Rattle.hv_model.specs.InterPictures.{encode_group}
use Rattle.hv_serial.specs.Steps.{joined_as}
use Rattle.hv_serial.proofs.OutputLemmas.{output_is_written}
use Rattle.hv_serial.proofs.writing.group_bytes.Goals as goal

pub returns-clause-bytes : goal.returns-clause-bytes
returns-clause-bytes c =
    let cfg = c.args.input.config in
    let first = nat_eq c.args.number 0 in
    let output = c.in_ok-output.output in
    IfOk-weaker c.joined_output.result _ _
    (λ bytes is pictures padded.
    is ∙ ap (λ (s : Settings). joined_as s.emit s first output) c.config-config.ensures ∙
    output_is_written cfg.emit cfg first output (encode_group cfg pictures)
    (c.in_ok-output.ensures.slices pictures padded)
    (c.in_ok-output.ensures.shown pictures padded))
    c.joined_output.ensures
