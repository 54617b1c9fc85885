use Rattle.std.proofs.Common.{refl}
use Rattle.hv_lanes.proofs.LaneSumLemmas.{always}
use Rattle.hv_interp.proofs.TotalLaneLemmas.{pairs, length-added, pair_added}
use Rattle.hv_interp.proofs.totals.add_pair.Goals as goal

pub overflow_cast-low : goal.overflow_cast-low
overflow_cast-low c = (always _, (always _, (always _, (always _, (always _, (always _, (always _, (always _, tt))))))))

pub overflow_cast-high : goal.overflow_cast-high
overflow_cast-high c = (always _, (always _, (always _, (always _, (always _, (always _, (always _, (always _, tt))))))))

pub returns-clause-count : goal.returns-clause-count
returns-clause-count c =
    length-added 8 c.args.sums (pairs c.args.taps.now c.args.first.now c.args.second.now) c.requires.eight refl

pub returns-clause-each : goal.returns-clause-each
returns-clause-each c j below =
    pair_added j c.args.sums c.args.taps.now c.args.first.now c.args.second.now c.requires.eight c.requires.two c.requires.first c.requires.second
    c.requires.before c.requires.taps c.requires.first_numbers c.requires.second_numbers below (c.requires.after j below)
