-- Each option is added with its rule.
use Rattle.std.proofs.Common.{ap, ◌∙◌}
use Rattle.std.proofs.lemmas.Result.{IfOk-weaker}
use Rattle.clap.specs.Simple.{app_of_fields}
use Rattle.hv_words.proofs.CommandLemmas.{added}
use Rattle.hv_words.proofs.command.encoder_command.Goals as goal

pub returns : goal.returns
returns c =
    let start = ap app_of_fields c.after_help.ensures ∙ ap app_of_fields c.about.ensures ∙ c.new.ensures.app in
    let width = added _ _ _ _ _ start c.required_number.ensures.rule c.required_number.ensures.local c.in_ok-arg.ensures in
    let height = added _ _ _ _ _ width c.required_number-2.ensures.rule c.required_number-2.ensures.local c.in_ok-arg-2.ensures in
    let qp = added _ _ _ _ _ height c.number_or.ensures.rule c.number_or.ensures.local c.in_ok-arg-3.ensures in
    let levels = added _ _ _ _ _ qp c.number_or-2.ensures.rule c.number_or-2.ensures.local c.in_ok-arg-4.ensures in
    let group = added _ _ _ _ _ levels c.number_or-3.ensures.rule c.number_or-3.ensures.local c.in_ok-arg-5.ensures in
    let workers = added _ _ _ _ _ group c.number_or-4.ensures.rule c.number_or-4.ensures.local c.in_ok-arg-6.ensures in
    let effort = added _ _ _ _ _ workers c.number_or-5.ensures.rule c.number_or-5.ensures.local c.in_ok-arg-7.ensures in
    let segment = added _ _ _ _ _ effort c.number_or-6.ensures.rule c.number_or-6.ensures.local c.in_ok-arg-8.ensures in
    let emit = added _ _ _ _ _ segment c.any_or.ensures.rule c.any_or.ensures.local c.in_ok-arg-9.ensures in
    let synth = added _ _ _ _ _ emit c.number_option.ensures.rule c.number_option.ensures.local c.in_ok-arg-10.ensures in
    IfOk-weaker c.arg-11.result _ _ (λ r adds. added _ r _ _ _ synth c.number_or-7.ensures.rule c.number_or-7.ensures.local adds) c.arg-11.ensures
