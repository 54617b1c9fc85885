use Rattle.std.proofs.Common.{◌+◌, ◌-◌, ◌*◌, ℕ, List, arith, ◌∙◌}
use Rattle.hv_sample_model.specs.IntraPrediction.{planar}
use Rattle.hv_intra.proofs.PlanarLemmas.{planar_begun, planar_next, planar_row}
use Rattle.hv_intra.proofs.RowLemmas.{rows_more, row_below}
use Rattle.hv_intra.proofs.planar.fill_rows.Goals as goal

pub loop-y-init : goal.loop-y-init
loop-y-init g c =
    let n : ℕ = g.row.N in
    let s = c.args.side in
    let begun = planar_begun s.log2 n (3 * n + 1 - (2 * n + 1)) c.from-2.result c.args.line.now c.rising.result c.first_sums-all.result
    s.least s.most c.requires.side (omega arith) c.requires.line (λ i. (c.type_inv.line i).fits) c.rising.ensures.count c.rising.ensures.each
    (c.from-2.ensures ∙ c.above.ensures) c.first_sums-all.ensures in
    record { count = begun.0; sums = begun.1; rows = λ x y inside none. absurd (omega (arith, none)) }

pub loop-y-preserved : goal.loop-y-preserved
loop-y-preserved g c =
    let n : ℕ = g.row.N in
    let s = c.args.side in
    let line : List ℕ = c.args.line.now in
    let next = planar_next s.log2 n (3 * n + 1 - (2 * n + 1)) c.from.result c.loop-y.y line c.row_steps-steps.result c.loop-y.all c.sums-all.result
    s.least s.most c.requires.side (omega arith) c.requires.line (λ i. (c.type_inv.line i).fits) c.loop-y-test.true
    (c.from.ensures ∙ c.left.ensures) c.row_steps-steps.ensures c.loop-y.invariant.count c.loop-y.invariant.sums c.sums-all.ensures in
    let row = planar_row s.log2 n c.from-in-loop-y.result c.loop-y.y line c.sums-all.result c.falling.result c.put_row.new.row
    s.least s.most c.requires.side (λ i. (c.type_inv.line i).fits) c.loop-y-test.true (c.from-in-loop-y.ensures ∙ c.left-in-loop-y.ensures) next.0 next.1
    c.falling.ensures.count c.falling.ensures.each c.put_row.ensures in
    record {
      count = next.0;
      sums = next.1;
      rows = rows_more n c.loop-y.y (c.loop-y.y * n + n - c.loop-y.y * n) c.loop-y.out c.put_row.new.row (planar s.log2 line) row.0 (omega (arith, row_below c.loop-y.y n n c.loop-y-test.true)) c.loop-y.invariant.rows row.1;
    }
