use Rattle.std.proofs.Common.{◌≡◌, ℕ, length, subst, arith}
use Rattle.hv_tree_model.specs.Plans.{prediction_of}
use Rattle.hv_unit_model.specs.Bins.{transform_unit_bins}
use Rattle.hv_syntax.specs.Levels.{unit_of}
use Rattle.hv_syntax.proofs.CountLemmas.{length_quarter}
use Rattle.hv_syntax.proofs.counting.count_quarter.Goals as goal

pub returns-clause-value : goal.returns-clause-value
returns-clause-value c =
    let t = c.args.unit.now in
    let p = prediction_of c.args.pred in
    let unit : c.count_transform_unit.result ≡ length (transform_unit_bins p 5 1 (unit_of t)) =
    subst (λ (n : ℕ). c.count_transform_unit.result ≡
    length (transform_unit_bins p n 1 (unit_of t))) c.requires
    c.count_transform_unit.ensures.value in
    omega (
      arith,
      unit,
      c.count_where.ensures.value,
      c.count_where-2.ensures.value,
      length_quarter p c.args.cbf_cb c.args.cbf_cr (unit_of t),
    )
