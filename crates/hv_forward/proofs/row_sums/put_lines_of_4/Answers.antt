use Rattle.std.proofs.Common.{arith, ℤ, List, ◌+◌, sym}
use Rattle.hv_lanes.specs.Lanes.{at}
use Rattle.hv_lanes.specs.Passes.{table_row}
use lib.Seq.{take_all}
use Rattle.hv_lanes.proofs.FourLaneLemmas.{eight_means, small_lanes}
use Rattle.hv_forward.proofs.RowSumLemmas.{part_numbers, whole_lanes, two_rows, first_row, second_row, two_rows_small}
use Rattle.hv_forward.proofs.row_sums.put_lines_of_4.Goals as goal

pub eight_of-x-requires-clause-numbers : goal.eight_of-x-requires-clause-numbers
eight_of-x-requires-clause-numbers c =
    part_numbers 8 0 c.args.lines.now c.args.lines.now c.requires.eight (omega arith) c.requires.range (sym (take_all 8 c.args.lines.now (omega (arith, c.requires.eight))))

pub put_means-requires-clause-low : goal.put_means-requires-clause-low
put_means-requires-clause-low c =
    let lines : List ℤ = c.args.lines.now in
    let weights : List ℤ = table_row c.args.table.now 0 in
    let x = whole_lanes lines c.eight_of-x.result c.requires.eight c.requires.range c.eight_of-x.ensures in
    let low = first_row weights lines c.low_quads-low.result c.requires.weights.four (c.low_quads-low.ensures 255 (at lines) (omega arith) x) in
    small_lanes (two_rows lines) c.low_quads-low.result (λ j below. two_rows_small lines j c.requires.range (omega (arith, below))) low

pub put_means-requires-clause-high : goal.put_means-requires-clause-high
put_means-requires-clause-high c =
    let lines : List ℤ = c.args.lines.now in
    let weights : List ℤ = table_row c.args.table.now 0 in
    let x = whole_lanes lines c.eight_of-x.result c.requires.eight c.requires.range c.eight_of-x.ensures in
    let high = second_row weights lines c.high_quads-high.result c.requires.weights.four (c.high_quads-high.ensures 255 (at lines) (omega arith) x) in
    small_lanes (λ j. two_rows lines (4 + j)) c.high_quads-high.result (λ j below. two_rows_small lines (4 + j) c.requires.range (omega (arith, below))) high

pub returns : goal.returns
returns c =
    let lines : List ℤ = c.args.lines.now in
    let weights : List ℤ = table_row c.args.table.now 0 in
    let x = whole_lanes lines c.eight_of-x.result c.requires.eight c.requires.range c.eight_of-x.ensures in
    let low = first_row weights lines c.low_quads-low.result c.requires.weights.four (c.low_quads-low.ensures 255 (at lines) (omega arith) x) in
    let high = second_row weights lines c.high_quads-high.result c.requires.weights.four (c.high_quads-high.ensures 255 (at lines) (omega arith) x) in
    (eight_means (two_rows lines) c.args.shift c.low_quads-low.result c.high_quads-high.result c.put_means.new.out (λ k below. two_rows_small lines k c.requires.range below) low high c.put_means.ensures).1
