use Rattle.std.proofs.Common.{◌+◌, ◌*◌, ◌∙◌, arith}
use Rattle.hv_intra.specs.Lanes.{stepped_at}
use Rattle.hv_intra.proofs.LaneLemmas.{run_is}
use Rattle.hv_intra.proofs.RowLemmas.{row_part}
use Rattle.hv_intra.proofs.lanes.fill_row_in_lanes.Goals as goal

pub loop-g-preserved : goal.loop-g-preserved
loop-g-preserved c = λ w e x below.
    let bases = c.args.bases.now in
    let steps = c.args.steps.now in
    let first = c.args.first in
    let g = c.loop-g.g in
    row_part (16 * g) 16 _ (λ x. stepped_at bases steps w (first + x)) c.loop-g.row c.fill_run-in-loop-g.new.out (omega arith) (omega arith)
    (c.loop-g.invariant w e)
    (λ i inside.
    c.fill_run-in-loop-g.ensures w e i inside ∙
    run_is (first + 16 * g) _ _ i (first + (16 * g + i)) w bases steps (omega (arith, inside)) (omega (arith, inside)) (omega arith))
    x (omega (arith, below))

pub returns-then-n-eq8 : goal.returns-then-n-eq8
returns-then-n-eq8 c = λ w e x below.
    let inside = below in
    c.fill_run.ensures w (c.eight_of-eight.ensures w e) x (omega (arith, inside, c.if-n-eq8.true)) ∙
    run_is c.args.first _ _ x (c.args.first + x) w c.args.bases.now c.args.steps.now (omega (arith, inside, c.if-n-eq8.true)) (omega (arith, inside, c.if-n-eq8.true)) (omega arith)
