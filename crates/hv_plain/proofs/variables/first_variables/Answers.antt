use Rattle.std.proofs.Common.{◌≡◌, ◌≤◌, map, take, ap, ◌∙◌, ℕ, List, length, arith}
use Rattle.std.proofs.lemmas.List.{take_all}
use Rattle.hv_tables.specs.ContextTables.{values_of_kind}
use Rattle.hv_entropy_model.specs.Contexts.{first_variable, first_variables}
use Rattle.hv_plain.proofs.variables.first_variables.Goals as goal

pub returns : goal.returns
unfolding first_variables values_of_kind
returns c =
    let xs : List ℕ = c.init_values-values.result.now in
    let end : length xs ≤ c.loop-value.value-index =
    omega (arith, c.loop-value-test.false, c.init_values-values.ensures.count) in
    let whole : take c.loop-value.value-index xs ≡ xs = take_all c.loop-value.value-index xs end in
    c.loop-value.invariant ∙ ap (map (first_variable c.args.qp))
    (whole ∙ c.init_values-values.ensures.value)
