use Rattle.std.proofs.Common.{ap, sym, ◌∙◌, ◌-◌}
use Rattle.std.specs.Option.{option_copied}
use Rattle.hv_mode.specs.declared.task.Task.{Task}
use Rattle.hv_mode.proofs.FoundLemmas.{is_searched, block_below, found_here}
use Rattle.hv_mode.proofs.found.found.Goals as goal

pub vector-requires-clause-index : goal.vector-requires-clause-index
vector-requires-clause-index c =
    let task : Task = c.args.task.now in
    block_below task.place c.args.size c.args.address c.in-Some.motion.now
    c.requires.node.size_at_most task.some c.requires.bottom
    (task.searched c.in-Some.motion.now (ap option_copied c.in-Some.is))

pub vector-requires-clause-node : goal.vector-requires-clause-node
vector-requires-clause-node c =
    is_searched c.args.size c.args.address c.column_of.result c.row_of.result c.requires.node
    c.column_of.ensures.value c.row_of.ensures.value

pub returns : goal.returns
returns c =
    let task : Task = c.args.task.now in
    let sides = task.searched c.in-Some.motion.now (ap option_copied c.in-Some.is) in
    let column = c.column_of.ensures.value in
    let row = c.row_of.ensures.value in
    found_here task c.args.size c.args.address c.args.entry c.in-Some.motion.now c.vector.result
    (record { depth = 3 - c.args.size; x = c.column_of.result; y = c.row_of.result })
    c.requires.node.size_at_most (sym c.may_name.ensures ∙ c.if-not-may_name.false)
    (ap option_copied c.in-Some.is) sides.wide
    (λ i. record { depth = 3 - c.args.size; x = column i; y = row i }) c.vector.ensures
