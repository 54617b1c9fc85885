use Rattle.hv_lanes.proofs.PartLemmas.{woven_is}
use Rattle.hv_lanes.proofs.pairs.weave_eight.Goals as goal

pub returns-clause-each : goal.returns-clause-each
returns-clause-each c =
    λ k below. woven_is c.args.out.now c.args.first.now c.args.second.now c.requires.first c.requires.second c.requires.room c.requires.first_numbers c.requires.second_numbers k below
