use Rattle.std.proofs.Common.{◌∙◌, ap₂, sym, ◌+◌, arith}
use Rattle.hv_sample_model.specs.Blocks.{total_of}
use Rattle.hv_search.specs.Windows.{plane_of_grid}
use Rattle.hv_search.specs.Plain.{gap_of}
use Rattle.hv_search.proofs.CoarseLemmas.{total_of_none, total_more}
use Rattle.hv_search.proofs.plain.score.Goals as goal

pub loop-j-init : goal.loop-j-init
loop-j-init c = (sym (total_of_none _), omega arith)

pub loop-j-preserved : goal.loop-j-preserved
loop-j-preserved c = (
  ap₂ (λ a b. a + b) c.loop-j.invariant.0 c.row_score-sum.ensures.value ∙
      sym (total_more c.loop-j.j (λ j. total_of c.args.columns (λ i. gap_of (plane_of_grid c.args.input) (plane_of_grid c.args.reference) c.args.mv (c.args.x + i) (c.args.y + j)))),
  omega (arith, c.loop-j.invariant.1, c.row_score-sum.ensures.most),
)
