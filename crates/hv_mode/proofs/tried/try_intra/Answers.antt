use Rattle.hv_mode.specs.Nodes.{leaf_choice}
use Rattle.hv_mode.proofs.FrameLemmas.{decides_since}
use Rattle.hv_mode.proofs.tried.try_intra.Goals as goal

pub returns-clause-kept : goal.returns-clause-kept
returns-clause-kept c = c.decide_leaf.ensures.kept

pub returns-clause-waits : goal.returns-clause-waits
returns-clause-waits c = λ trees old same waits.
    let choice = leaf_choice c.args.task.now c.args.size c.args.address in
    c.keep_less.ensures trees choice old
    (decides_since c.args.task.now c.args.size c.args.address choice old c.args.out.now
    c.decide_leaf.new.out same c.decide_leaf.ensures) waits
