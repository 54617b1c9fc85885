use Rattle.std.proofs.Common.{arith}
use Rattle.hv_mode.proofs.CopyLemmas.{node_fits, squares_of_size, node_copied}
use Rattle.hv_mode.proofs.copy.copy_node.Goals as goal

pub copy_node-requires-clause-fits : goal.copy_node-requires-clause-fits
copy_node-requires-clause-fits c =
    let fits = node_fits c.args.size c.args.address c.requires in
    omega (arith, fits.2, squares_of_size c.args.size)

pub copy_samples-requires-clause-across : goal.copy_samples-requires-clause-across
copy_samples-requires-clause-across c = (node_fits c.args.size c.args.address c.requires).0

pub copy_samples-requires-clause-down : goal.copy_samples-requires-clause-down
copy_samples-requires-clause-down c = (node_fits c.args.size c.args.address c.requires).1

pub returns : goal.returns
returns c =
    node_copied c.args.size c.args.address c.args.from.now c.args.to.now
    (record { plan = c.copy_node.new.self; samples = c.copy_samples.new.to }) c.requires
    c.copy_node.ensures.others c.copy_node.ensures.whole c.copy_node.ensures.value
    c.copy_samples.ensures
