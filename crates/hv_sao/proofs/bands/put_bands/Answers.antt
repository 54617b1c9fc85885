use Rattle.std.proofs.Common.{ℕ, ◌+◌, ◌*◌, ◌-◌, refl, arith}
use Rattle.hv_filter_model.specs.SampleAdaptiveOffset.{sao_sample}
use Rattle.hv_sao.specs.Rows.{band_sample}
use Rattle.hv_sao.proofs.PlaneLemmas.{nothing_written, run_more, written_as}
use Rattle.hv_sao.proofs.SampleLemmas.{by_band}
use Rattle.hv_sao.proofs.bands.put_bands.Goals as goal

pub loop-g-init : goal.loop-g-init
loop-g-init c = nothing_written c.args.from c.args.y _ c.args.shown.now

pub set_run-requires-clause-y : goal.set_run-requires-clause-y
set_run-requires-clause-y c = omega (arith, c.requires.down, c.requires.shown.high, c.loop-g.invariant.high)

pub set_run-requires-clause-across : goal.set_run-requires-clause-across
set_run-requires-clause-across c = omega (arith, c.requires.across, c.requires.shown.wide, c.loop-g.invariant.wide)

pub loop-g-preserved : goal.loop-g-preserved
loop-g-preserved c =
    rw c.set_run.ensures
    (run_more c.args.from c.args.y (16 * c.loop-g.g) (16 * c.loop-g.g) 16 (16 * (c.loop-g.g + 1)) (c.args.from + 16 * c.loop-g.g)
    (band_sample c.args.component c.args.position c.part_of_row-samples.result.now) c.sixteen_shown-sixteen.result
    c.args.shown.now c.loop-g.shown c.requires.shown.whole (omega (arith, c.requires.down, c.requires.shown.high)) c.sixteen_shown-sixteen.ensures.count
    (omega (arith, c.requires.across, c.requires.shown.wide))
    (λ i below. c.sixteen_shown-sixteen.ensures.samples c.args.component c.raises-up.ensures c.lowers-down.ensures i (omega (arith, below)))
    c.loop-g.invariant refl (omega arith) (omega arith) (omega arith))

pub set_run-requires-2-clause-y : goal.set_run-requires-2-clause-y
set_run-requires-2-clause-y c = omega (arith, c.requires.down, c.requires.shown.high, c.loop-g.invariant.high)

pub set_run-requires-2-clause-across : goal.set_run-requires-2-clause-across
set_run-requires-2-clause-across c = omega (arith, c.requires.across, c.requires.least, c.requires.shown.wide, c.loop-g.invariant.wide)

pub returns : goal.returns
returns c =
    let n : ℕ = c.args.to - c.args.from in
    let f : ℕ → ℕ = band_sample c.args.component c.args.position c.part_of_row-samples.result.now in
    written_as c.args.from c.args.y n f (λ i. sao_sample c.args.component c.args.plane.now (c.args.from + i) c.args.y)
    c.args.shown.now c.set_run-2.new.self
    (λ i below.
    by_band c.args.component c.args.position c.args.plane.now (c.args.from + i) c.args.y _ c.requires.kind
    (c.part_of_row-samples.ensures.samples i (omega (arith, below, c.part_of_row-samples.ensures.count))))
    (rw c.set_run-2.ensures
    (run_more c.args.from c.args.y (16 * c.loop-g.g) (n - 16) 16 n (c.args.to - 16) f c.sixteen_shown-last.result
    c.args.shown.now c.loop-g.shown c.requires.shown.whole (omega (arith, c.requires.down, c.requires.shown.high)) c.sixteen_shown-last.ensures.count
    (omega (arith, c.requires.across, c.requires.least, c.requires.shown.wide))
    (λ i below. c.sixteen_shown-last.ensures.samples c.args.component c.raises-up.ensures c.lowers-down.ensures i (omega (arith, below)))
    c.loop-g.invariant (omega (arith, c.requires.least)) (omega (arith, c.loop-g-test.false)) (omega (arith, c.requires.least))
    (omega (arith, c.requires.least))))
