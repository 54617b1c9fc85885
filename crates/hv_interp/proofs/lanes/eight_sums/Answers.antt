use Rattle.std.proofs.Common.{rules, ◌≤◌, ◌-◌, ◌+◌, ◌*◌, ◌∙◌, arith, map, pos, slice_index_or, w8, to_z, of_z}
use Rattle.std.proofs.lemmas.Int.{to_z-of_z}
use Rattle.std.proofs.Math.Nat.{mul-le-mul_right}
use Rattle.std.specs.Int.RustNames.{FitsSigned}
use mir.Syntax.{w16}
use Rattle.hv_interp.proofs.SumLemmas.{strided_sum_of_all}
use Rattle.hv_interp.proofs.EightSumLemmas.{no_tap, sums_small, sums_fit, one_tap_fits, sums_more}
use Rattle.hv_interp.proofs.lanes.eight_sums.Goals as goal

pub loop-k-init : goal.loop-k-init
loop-k-init g c = no_tap c.args.taps.now c.args.samples.now (λ j k. c.args.at + j + k * c.args.step) c.no_sums-sums.result c.no_sums-sums.ensures.count c.no_sums-sums.ensures.each

pub add_tap-sums-requires-clause-eight : goal.add_tap-sums-requires-clause-eight
add_tap-sums-requires-clause-eight g c = c.loop-k.invariant.eight

pub add_tap-sums-requires-clause-before : goal.add_tap-sums-requires-clause-before
add_tap-sums-requires-clause-before g c =
    sums_fit c.loop-k.k c.args.taps.now c.args.samples.now (λ j k. c.args.at + j + k * c.args.step) (map (to_z w16) c.loop-k.sums) c.requires.light c.type_inv.samples c.loop-k.invariant

pub add_tap-sums-requires-clause-after : goal.add_tap-sums-requires-clause-after
add_tap-sums-requires-clause-after g c =
    let fits : FitsSigned w8 (slice_index_or c.args.taps.now c.loop-k.k (pos 0)) = search rules in
    let room : c.loop-k.k * c.args.step ≤ (g.row.T - 1) * c.args.step = mul-le-mul_right c.args.step (omega arith) in
    one_tap_fits c.loop-k.k c.args.taps.now c.args.samples.now c.args.at c.args.step (map (to_z w16) c.loop-k.sums) (to_z w16 (of_z w16 c.from.result))
    c.requires.light c.type_inv.samples (omega arith) (omega (arith, room))
    (to_z-of_z w16 c.from.result (record { sfits = c.from.type_inv }) ∙ c.from.ensures ∙ to_z-of_z w8 _ fits) c.loop-k.invariant

pub loop-k-preserved : goal.loop-k-preserved
loop-k-preserved g c =
    let fits : FitsSigned w8 (slice_index_or c.args.taps.now c.loop-k.k (pos 0)) = search rules in
    sums_more c.loop-k.k c.args.taps.now c.args.samples.now c.args.at c.args.step (map (to_z w16) c.loop-k.sums) c.add_tap-sums.result (to_z w16 (of_z w16 c.from.result))
    c.requires.light c.type_inv.samples (omega arith)
    (to_z-of_z w16 c.from.result (record { sfits = c.from.type_inv }) ∙ c.from.ensures ∙ to_z-of_z w8 _ fits) c.loop-k.invariant c.add_tap-sums.ensures.count c.add_tap-sums.ensures.each

pub returns-clause-count : goal.returns-clause-count
returns-clause-count g c = c.loop-k.invariant.eight

pub returns-clause-each : goal.returns-clause-each
returns-clause-each g c j below =
    c.loop-k.invariant.each j below ∙ strided_sum_of_all c.loop-k.k c.args.taps.now c.args.samples.now (c.args.at + j) c.args.step (omega arith)

pub returns-clause-range : goal.returns-clause-range
returns-clause-range g c =
    sums_small c.loop-k.k c.args.taps.now c.args.samples.now (λ j k. c.args.at + j + k * c.args.step) (map (to_z w16) c.loop-k.sums) c.requires.light c.type_inv.samples c.loop-k.invariant
