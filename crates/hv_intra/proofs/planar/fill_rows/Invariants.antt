use Rattle.std.proofs.Common.{◌≡◌, length}
use Rattle.hv_sample_model.specs.IntraPrediction.{planar}
use Rattle.hv_intra.specs.Blocks.{IsRow, HasRows}
use Rattle.hv_intra.proofs.PlanarLemmas.{row_sum}
use Rattle.hv_intra.proofs.planar.fill_rows.Given as goal

abbrev pub invariant-loop-y : goal.invariant-loop-y
invariant-loop-y g l = record {
  count : length l.all ≡ g.row.N;
  sums : IsRow g.row.N (λ x. row_sum g.row.N l.fn.side.log2 l.line x l.y) l.all;
  rows : HasRows g.row.N l.y (planar l.fn.side.log2 l.line) l.out;
}
