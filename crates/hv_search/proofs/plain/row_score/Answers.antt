use Rattle.std.proofs.Common.{◌∙◌, ap₂, sym, ◌+◌, arith}
use Rattle.hv_search.specs.Windows.{plane_of_grid}
use Rattle.hv_search.specs.Plain.{gap_of}
use Rattle.hv_search.proofs.CoarseLemmas.{total_of_none, total_more}
use Rattle.hv_search.proofs.plain.row_score.Goals as goal

pub loop-i-init : goal.loop-i-init
loop-i-init c = (sym (total_of_none _), omega arith)

pub loop-i-preserved : goal.loop-i-preserved
loop-i-preserved c = (
  ap₂ (λ a b. a + b) c.loop-i.invariant.0 c.gap-sum.ensures.value ∙
      sym (total_more c.loop-i.i (λ i. gap_of (plane_of_grid c.args.input) (plane_of_grid c.args.reference) c.args.mv (c.args.x + i) c.args.y)),
  omega (arith, c.loop-i.invariant.1, c.gap-sum.ensures.most),
)
