use Rattle.std.proofs.Common.{◌≡◌, ℕ, Bool, cond, ap, ◌∙◌, arith}
use Rattle.hv_plan.specs.Levels.{any_significant}
use Rattle.hv_tree_model.specs.Plans.{prediction_of}
use Rattle.hv_unit_model.specs.BlockSyntax.{has_luma_flag}
use Rattle.hv_syntax.specs.Levels.{unit_of}
use Rattle.hv_syntax.proofs.CountLemmas.{length_transform_unit}
use Rattle.hv_syntax.proofs.counting.count_transform_unit.Goals as goal

pub returns-clause-value : goal.returns-clause-value
returns-clause-value c =
    let t = c.args.unit.now in
    let p = prediction_of c.args.pred in
    let has : c.has_luma_flag.result ≡
    has_luma_flag p c.args.depth (any_significant t.cb.now) (any_significant t.cr.now) =
    c.has_luma_flag.ensures ∙
    ap (λ (b : Bool). has_luma_flag p c.args.depth b t.cbf_cr) t.cb_flag ∙
    ap (λ (b : Bool). has_luma_flag p c.args.depth (any_significant t.cb.now) b) t.cr_flag in
    let count : Bool → ℕ = λ b. cond b 1 0 in
    let flag = c.count_where-flag.ensures.value ∙ ap count has in
    omega (
      arith,
      flag,
      c.count_block-luma.ensures.value,
      c.count_block-cb.ensures.value,
      c.count_block-cr.ensures.value,
      length_transform_unit p t.log2 c.args.depth (unit_of t),
    )
