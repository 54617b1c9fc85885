use Rattle.std.proofs.Common.{◌+◌, ◌%◌, ◌/◌, ◌∙◌, cond, nat_lt, refl, arith}
use Rattle.hv_types.specs.Samples.{sample_at}
use Rattle.hv_search.specs.Windows.{plane_of_grid}
use Rattle.std.proofs.lemmas.List.{length-set}
use Rattle.hv_interp.proofs.PlaceLemmas.{HasFirst-set}
use Rattle.hv_search.proofs.coarse.put_source.Goals as goal

pub loop-k-preserved : goal.loop-k-preserved
loop-k-preserved c = (
  length-set c.loop-k.source c.loop-k.k c.source_sample.result ∙ c.loop-k.invariant.0,
  HasFirst-set 0 c.loop-k.k (c.loop-k.k + 1)
      (λ k. cond (nat_lt (k % 16) c.args.columns) (sample_at (plane_of_grid c.args.input) (c.args.left + k % 16) (c.args.top + k / 16)) 0)
      c.loop-k.source c.source_sample.result (omega (arith, c.loop-k.invariant.0, c.loop-k-test.true, c.requires.rows))
      c.loop-k.invariant.1 c.source_sample.ensures refl,
)

pub returns : goal.returns
returns c = λ k below. c.loop-k.invariant.1 k (omega (arith, below, c.loop-k-test.false))
