use Rattle.std.proofs.Common.{◌∙◌, arith, ap, take_all, length}
use Rattle.hv_interp.specs.Lanes.{lane}
use Rattle.hv_interp.proofs.LaneLemmas.{added, tap_added, length-added}
use Rattle.hv_interp.proofs.lanes.add_tap.Goals as goal

pub returns-clause-count : goal.returns-clause-count
returns-clause-count c =
    ap (λ s. length (added c.args.sums c.args.tap 8 s)) (take_all 8 c.args.samples.now (omega arith)) ∙
    length-added 8 c.args.sums c.args.tap c.args.samples.now c.requires.eight c.requires.samples

pub returns-clause-each : goal.returns-clause-each
returns-clause-each c j below =
    ap (λ s. lane (added c.args.sums c.args.tap 8 s) j) (take_all 8 c.args.samples.now (omega arith)) ∙
    tap_added 8 j c.args.sums c.args.tap c.args.samples.now c.requires.eight c.requires.samples c.ranges.tap c.requires.before
    (λ i. (c.type_inv.samples i).fits) c.requires.after below
