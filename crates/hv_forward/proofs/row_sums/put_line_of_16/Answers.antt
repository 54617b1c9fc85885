use Rattle.std.proofs.Common.{arith, ◌+◌, ◌-◌, ◌∙◌, ap, ◌≡◌, ◌<◌, refl}
use Rattle.std.proofs.lemmas.Bool.{cases_lt}
use mathlib.Core.Logic.{⊎_elim}
use Rattle.hv_lanes.specs.Lanes.{at}
use mir.Syntax.{w16}
use Rattle.hv_lanes.proofs.LaneStepLemmas.{passed}
use Rattle.hv_forward.proofs.RowLaneLemmas.{kept_eight}
use Rattle.hv_forward.proofs.RowSumLemmas.{own_lanes, more_lanes, part_lanes, part_numbers, row_mean_same, first_eight, second_eight}
use Rattle.hv_forward.proofs.row_sums.put_line_of_16.Goals as goal

pub eight_of-first-requires-clause-numbers : goal.eight_of-first-requires-clause-numbers
eight_of-first-requires-clause-numbers c = part_numbers 16 0 c.args.line.now _ c.requires.sixteen (omega arith) c.requires.range refl

pub eight_of-second-requires-clause-numbers : goal.eight_of-second-requires-clause-numbers
eight_of-second-requires-clause-numbers c = part_numbers 16 8 c.args.line.now _ c.requires.sixteen (omega arith) c.requires.range refl

pub put_row_of_16-requires : goal.put_row_of_16-requires
put_row_of_16-requires c =
    let x = kept_eight 255 _ c.eight_of-first.result (omega arith) (part_lanes 16 0 255 c.args.line.now c.eight_of-first.result c.requires.sixteen (omega arith) c.requires.range c.eight_of-first.ensures) in
    let y = kept_eight 255 _ c.eight_of-second.result (omega arith) (part_lanes 16 8 255 c.args.line.now c.eight_of-second.result c.requires.sixteen (omega arith) c.requires.range c.eight_of-second.ensures) in
    (omega arith, (omega arith, (omega arith, (own_lanes 2040 _ _ (more_lanes 255 2040 _ _ (omega arith) x), (own_lanes 2040 _ _ (more_lanes 255 2040 _ _ (omega arith) y), (c.requires.weights, (c.requires.some, (c.requires.shift_most, c.requires.room))))))))

pub returns : goal.returns
returns c =
    let x = kept_eight 255 _ c.eight_of-first.result (omega arith) (part_lanes 16 0 255 c.args.line.now c.eight_of-first.result c.requires.sixteen (omega arith) c.requires.range c.eight_of-first.ensures) in
    let y = kept_eight 255 _ c.eight_of-second.result (omega arith) (part_lanes 16 8 255 c.args.line.now c.eight_of-second.result c.requires.sixteen (omega arith) c.requires.range c.eight_of-second.ensures) in
    λ k below.
    c.put_row_of_16.ensures k below ∙
    row_mean_same 4 c.args.shift k _ (at c.args.line.now)
    (λ i inside.
    ⊎_elim
    (λ (less : i < 8).
    let here : 0 + i ≡ i = omega arith in
    first_eight (at (passed w16 c.eight_of-first.result)) (at (passed w16 c.eight_of-second.result)) i less ∙ x.each i less ∙ ap (at c.args.line.now) here)
    (λ more.
    let here : 8 + (i - 8) ≡ i = omega (arith, more) in
    second_eight (at (passed w16 c.eight_of-first.result)) (at (passed w16 c.eight_of-second.result)) i more ∙ y.each (i - 8) (omega (arith, inside, more)) ∙ ap (at c.args.line.now) here)
    (cases_lt i 8))
