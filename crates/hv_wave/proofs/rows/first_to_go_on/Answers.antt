use Rattle.std.proofs.Common.{◌∙◌, sym, ap, add-one}
use borrow.Author.Count.{below_more}
use Rattle.hv_wave.specs.Rows.{goes_on, done_above, row_at}
use Rattle.hv_wave.proofs.rows.first_to_go_on.Goals as goal

pub loop-index-preserved : goal.loop-index-preserved
loop-index-preserved c = record {
  before = below_more _ _ c.loop-index.invariant.before
      (ap (λ up. goes_on c.args.per_row up (row_at c.args.rows.now c.loop-index.index))
      (sym c.loop-index.invariant.above)
      ∙ sym c.goes_on.ensures
      ∙ c.if-goes_on.false);
  above = ap (done_above c.args.per_row c.args.rows.now) (sym (add-one c.loop-index.index));
}
