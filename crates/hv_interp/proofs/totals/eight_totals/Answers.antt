use Rattle.std.proofs.Common.{◌≡◌, ◌+◌, ◌*◌, ◌∙◌, arith, map, subst, to_z, of_z, w32}
use Rattle.hv_lanes.proofs.PartLemmas.{Numbers-part}
use Rattle.hv_interp.specs.Lanes.{AreTotals}
use Rattle.hv_interp.proofs.SumLemmas.{strided_total_of_all, taps_fit}
use Rattle.hv_interp.proofs.TotalLaneLemmas.{no_pair, totals_small, totals_fit, one_pair_fits, totals_more}
use Rattle.hv_interp.proofs.totals.eight_totals.Goals as goal

pub loop-p-init : goal.loop-p-init
loop-p-init g c =
    no_pair c.args.taps.now c.args.numbers.now c.no_totals-sums.result c.args.at c.args.step c.no_totals-sums.ensures.count c.no_totals-sums.ensures.each

pub add_pair-sums-requires-clause-eight : goal.add_pair-sums-requires-clause-eight
add_pair-sums-requires-clause-eight g c = c.loop-p.invariant.eight

pub add_pair-sums-requires-clause-before : goal.add_pair-sums-requires-clause-before
add_pair-sums-requires-clause-before g c =
    totals_fit (2 * c.loop-p.p) c.args.taps.now c.args.numbers.now (map (to_z w32) c.loop-p.sums) c.args.at c.args.step c.requires.light c.requires.numbers c.loop-p.invariant

pub add_pair-sums-requires-clause-taps : goal.add_pair-sums-requires-clause-taps
add_pair-sums-requires-clause-taps g c =
    Numbers-part (2 * c.loop-p.p) _ c.args.taps.now (taps_fit c.args.taps.now c.requires.light)

pub add_pair-sums-requires-clause-first_numbers : goal.add_pair-sums-requires-clause-first_numbers
add_pair-sums-requires-clause-first_numbers g c =
    Numbers-part _ _ c.args.numbers.now c.requires.numbers

pub add_pair-sums-requires-clause-second_numbers : goal.add_pair-sums-requires-clause-second_numbers
add_pair-sums-requires-clause-second_numbers g c =
    Numbers-part _ _ c.args.numbers.now c.requires.numbers

pub add_pair-sums-requires-clause-after : goal.add_pair-sums-requires-clause-after
add_pair-sums-requires-clause-after g c =
    one_pair_fits (2 * c.loop-p.p) c.args.taps.now c.args.numbers.now (map (to_z w32) c.loop-p.sums) c.args.at c.args.step c.requires.light c.requires.numbers
    (omega (arith, c.told-taps)) c.loop-p.invariant

pub loop-p-preserved : goal.loop-p-preserved
loop-p-preserved g c =
    let next : 2 * c.loop-p.p + 2 ≡ 2 * (c.loop-p.p + 1) = omega arith in
    subst (λ k. AreTotals k c.args.taps.now c.args.numbers.now c.args.at c.args.step (map (to_z w32) (map (of_z w32) c.add_pair-sums.result))) next
    (totals_more (2 * c.loop-p.p) c.args.taps.now c.args.numbers.now (map (to_z w32) c.loop-p.sums) c.add_pair-sums.result c.args.at c.args.step
    c.requires.light c.requires.numbers (omega (arith, c.told-taps)) c.loop-p.invariant c.add_pair-sums.ensures.count c.add_pair-sums.ensures.each)

pub returns-clause-count : goal.returns-clause-count
returns-clause-count g c = c.loop-p.invariant.eight

pub returns-clause-each : goal.returns-clause-each
returns-clause-each g c j below =
    c.loop-p.invariant.each j below ∙
    strided_total_of_all (2 * c.loop-p.p) c.args.taps.now c.args.numbers.now (c.args.at + j) c.args.step (omega (arith, c.told-taps))

pub returns-clause-range : goal.returns-clause-range
returns-clause-range g c =
    totals_small (2 * c.loop-p.p) c.args.taps.now c.args.numbers.now (map (to_z w32) c.loop-p.sums) c.args.at c.args.step c.requires.light c.requires.numbers c.loop-p.invariant
