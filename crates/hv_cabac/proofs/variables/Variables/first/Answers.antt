use Rattle.std.proofs.Common.{ℕ, refl, arith, length-set, ◌∙◌}
use Rattle.std.proofs.lemmas.List.{length-replicate}
use Rattle.hv_cabac.proofs.StartLemmas.{first_more, all_first}
use Rattle.hv_cabac.proofs.variables.Variables.first.Goals as goal

pub loop-i-init : goal.loop-i-init
loop-i-init c = record { all = length-replicate {A = ℕ} 140 0; started = refl }

pub loop-i-preserved : goal.loop-i-preserved
loop-i-preserved c =
    let l = c.loop-i.invariant in
    let n = c.init_values-values.ensures.count in
    record {
      all = length-set _ _ _ ∙ l.all;
      started =
          first_more _ _ _ _ _ (omega arith) (omega (arith, n)) l.started c.first_state.ensures;
    }

pub returns : goal.returns
returns c =
    let l = c.loop-i.invariant in
    let e = c.init_values-values.ensures.value in
    let n = c.init_values-values.ensures.count in
    all_first _ _ _ _ _ (omega arith) (omega (arith, n)) e l.started
