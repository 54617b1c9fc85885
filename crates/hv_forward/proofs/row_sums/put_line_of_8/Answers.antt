use Rattle.std.proofs.Common.{arith, ◌∙◌, ap, sym, take, drop, ◌≡◌}
use Rattle.hv_lanes.specs.Lanes.{at}
use lib.Seq.{take_all}
use Rattle.hv_forward.proofs.RowLaneLemmas.{kept_eight}
use Rattle.hv_forward.proofs.RowSumLemmas.{own_lanes, more_lanes, part_lanes, part_numbers, row_mean_same}
use Rattle.hv_forward.proofs.row_sums.put_line_of_8.Goals as goal

pub eight_of-requires-clause-numbers : goal.eight_of-requires-clause-numbers
eight_of-requires-clause-numbers c =
    part_numbers 8 0 c.args.line.now c.args.line.now c.requires.eight (omega arith) c.requires.range (sym (take_all 8 c.args.line.now (omega (arith, c.requires.eight))))

pub put_row_of_8-requires : goal.put_row_of_8-requires
put_row_of_8-requires c =
    let e : c.eight_of.result ≡ take 8 (drop 0 c.args.line.now) = c.eight_of.ensures ∙ sym (take_all 8 c.args.line.now (omega (arith, c.requires.eight))) in
    let x = kept_eight 255 _ c.eight_of.result (omega arith) (part_lanes 8 0 255 c.args.line.now c.eight_of.result c.requires.eight (omega arith) c.requires.range e) in
    (omega arith, (omega arith, (omega arith, (own_lanes 4080 _ _ (more_lanes 255 4080 _ _ (omega arith) x), (c.requires.weights, (c.requires.some, (c.requires.shift_most, c.requires.room)))))))

pub returns : goal.returns
returns c =
    let e : c.eight_of.result ≡ take 8 (drop 0 c.args.line.now) = c.eight_of.ensures ∙ sym (take_all 8 c.args.line.now (omega (arith, c.requires.eight))) in
    let x = kept_eight 255 _ c.eight_of.result (omega arith) (part_lanes 8 0 255 c.args.line.now c.eight_of.result c.requires.eight (omega arith) c.requires.range e) in
    λ k below. c.put_row_of_8.ensures k below ∙ row_mean_same 3 c.args.shift k _ (at c.args.line.now) (λ i inside. x.each i inside ∙ ap (at c.args.line.now) (omega arith))
