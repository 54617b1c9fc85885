use Rattle.std.proofs.Common.{◌≡◌, ℕ, refl, ap, ◌∙◌}
use Rattle.std.specs.Prelude.{slice_index_or}
use Rattle.hv_tables.specs.Bins.{Context}
use Rattle.hv_entropy_model.specs.Contexts.{ContextVariable, variable_at, lps_width, no_variable}
use Rattle.hv_cabac.specs.Variables.{variable_of}
use Rattle.hv_cabac.specs.VariableStates.{variables_of}
use Rattle.hv_cabac.proofs.StandingLemmas.{stands_more, context_cuts, variables_adapt, same_test}
use Rattle.hv_cabac.proofs.encoder.EncoderBinSink.bin.Goals as goal

pub returns : goal.returns
returns c = λ kind qp before stood.
    let old = c.args.self.now.register in
    let variables = variables_of c.args.self.now.variables in
    let context = c.args.context in
    let place = c.context_place-place.ensures in
    let x : ContextVariable = variable_of c.state-state.result in
    let at : x ≡ variable_at variables context =
    c.state-state.ensures ∙ ap (λ (i : ℕ). slice_index_or variables i no_variable) place in
    let lps : c.lps_width-lps.result ≡ lps_width x old.range =
    c.lps_width-lps.ensures.value ∙ ap (λ (r : ℕ). lps_width x r) c.range.ensures.value in
    let part = same_test c.args.value x.valMps in
    record {
      stands =
          stands_more old c.encode_decision.new.self variables _ kind qp before (Context context) c.args.value
          refl stood.stands
          (λ fine. context_cuts old _ variables context x _ _ _ (c.encode_decision.ensures fine) at lps part)
          (variables_adapt variables _ context x _ _ c.args.value place at c.set.ensures
          c.state_after.ensures);
    }
