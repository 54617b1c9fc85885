use Rattle.std.proofs.Common.{◌≡◌, ◌+◌, ◌*◌, ◌∙◌, arith, map, subst, to_z, of_z}
use mir.Syntax.{w16}
use Rattle.hv_interp.specs.Filters.{paired_place}
use Rattle.hv_interp.specs.Lanes.{AreSums}
use Rattle.hv_interp.proofs.SumLemmas.{placed_sum_of_all}
use Rattle.hv_interp.proofs.EightSumLemmas.{no_tap, sums_small, sums_fit}
use Rattle.hv_interp.proofs.PlaceLemmas.{row_part}
use Rattle.hv_interp.proofs.PairLemmas.{next_pair, two_light, two_more_fit, two_sums_more}
use Rattle.hv_interp.proofs.pairs.paired_sums.Goals as goal

pub loop-p-init : goal.loop-p-init
loop-p-init g c =
    no_tap c.args.taps.now c.args.samples.now (λ j. paired_place (c.args.at + 2 * j) c.args.step) c.no_sums-sums.result c.no_sums-sums.ensures.count c.no_sums-sums.ensures.each

pub add_neighbours-sums-requires-clause-eight : goal.add_neighbours-sums-requires-clause-eight
add_neighbours-sums-requires-clause-eight g c = c.loop-p.invariant.eight

pub add_neighbours-sums-requires-clause-light : goal.add_neighbours-sums-requires-clause-light
add_neighbours-sums-requires-clause-light g c =
    two_light (2 * c.loop-p.p) c.args.taps.now c.args.samples.now (λ j. paired_place (c.args.at + 2 * j) c.args.step)
    (row_part c.args.spread.now (16 * c.loop-p.p) 16) (row_part c.args.samples.now (c.args.at + c.loop-p.p * c.args.step) 16) c.requires.light
    (next_pair c.loop-p.p g.row.T c.args.at c.args.step c.args.taps.now c.args.spread.now c.args.samples.now (omega (arith, c.told-taps)) c.requires.spread)

pub add_neighbours-sums-requires-clause-before : goal.add_neighbours-sums-requires-clause-before
add_neighbours-sums-requires-clause-before g c =
    sums_fit (2 * c.loop-p.p) c.args.taps.now c.args.samples.now (λ j. paired_place (c.args.at + 2 * j) c.args.step) (map (to_z w16) c.loop-p.sums)
    c.requires.light c.type_inv.samples c.loop-p.invariant

pub add_neighbours-sums-requires-clause-after : goal.add_neighbours-sums-requires-clause-after
add_neighbours-sums-requires-clause-after g c j below =
    two_more_fit (2 * c.loop-p.p) c.args.taps.now c.args.samples.now (λ j. paired_place (c.args.at + 2 * j) c.args.step)
    (row_part c.args.spread.now (16 * c.loop-p.p) 16) (row_part c.args.samples.now (c.args.at + c.loop-p.p * c.args.step) 16) (map (to_z w16) c.loop-p.sums)
    c.requires.light c.type_inv.samples (omega (arith, c.told-taps)) c.loop-p.invariant j below
    (next_pair c.loop-p.p g.row.T c.args.at c.args.step c.args.taps.now c.args.spread.now c.args.samples.now (omega (arith, c.told-taps)) c.requires.spread j below)

pub loop-p-preserved : goal.loop-p-preserved
loop-p-preserved g c =
    let next : 2 * c.loop-p.p + 2 ≡ 2 * (c.loop-p.p + 1) = omega arith in
    subst (λ k. AreSums k c.args.taps.now c.args.samples.now (λ j. paired_place (c.args.at + 2 * j) c.args.step) (map (to_z w16) (map (of_z w16) c.add_neighbours-sums.result))) next
    (two_sums_more (2 * c.loop-p.p) c.args.taps.now c.args.samples.now (λ j. paired_place (c.args.at + 2 * j) c.args.step)
    (row_part c.args.spread.now (16 * c.loop-p.p) 16) (row_part c.args.samples.now (c.args.at + c.loop-p.p * c.args.step) 16)
    (map (to_z w16) c.loop-p.sums) c.add_neighbours-sums.result
    c.requires.light c.type_inv.samples (omega (arith, c.told-taps)) c.loop-p.invariant
    (next_pair c.loop-p.p g.row.T c.args.at c.args.step c.args.taps.now c.args.spread.now c.args.samples.now (omega (arith, c.told-taps)) c.requires.spread)
    c.add_neighbours-sums.ensures.count c.add_neighbours-sums.ensures.each)

pub returns-clause-count : goal.returns-clause-count
returns-clause-count g c = c.loop-p.invariant.eight

pub returns-clause-each : goal.returns-clause-each
returns-clause-each g c j below =
    c.loop-p.invariant.each j below ∙
    placed_sum_of_all (2 * c.loop-p.p) c.args.taps.now c.args.samples.now (paired_place (c.args.at + 2 * j) c.args.step) (omega (arith, c.told-taps))

pub returns-clause-range : goal.returns-clause-range
returns-clause-range g c =
    sums_small (2 * c.loop-p.p) c.args.taps.now c.args.samples.now (λ j. paired_place (c.args.at + 2 * j) c.args.step) (map (to_z w16) c.loop-p.sums)
    c.requires.light c.type_inv.samples c.loop-p.invariant
