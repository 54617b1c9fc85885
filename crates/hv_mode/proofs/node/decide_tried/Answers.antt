use Rattle.std.proofs.Common.{ℕ, sym, ◌∙◌, arith}
use Rattle.hv_block.specs.declared.block.Block.{Block}
use Rattle.hv_mode.specs.declared.task.Task.{Task}
use Rattle.hv_mode.specs.SplitNodes.{tried_choice}
use Rattle.hv_mode.proofs.LimitLemmas.{some_decided}
use Rattle.hv_mode.proofs.WonLemmas.{split_decided, split_given_up, nothing_split, unit_decided}
use Rattle.hv_mode.proofs.node.decide_tried.Goals as goal
use Rattle.hv_mode.proofs.node.decide_tried.Goals.{else-size-gt0-via-then-size-gt0+else-is_some, else-size-gt0-via-else-size-gt0}

-- the split, which costs less
pub returns-then-is_some : goal.returns-then-is_some
returns-then-is_some c =
    let task : Task = c.args.task.now in
    let size : ℕ = c.args.size in
    let address : ℕ = c.args.address in
    let old : Block = c.args.out.now in
    let least : ℕ = c.try_units-least.result in
    let some = sym c.is_some.ensures ∙ c.if-is_some.true in
    some_decided task size address (tried_choice task size address) least old
    c.try_split.new.out c.try_split.result some
    (split_decided task size address old c.try_units-least.new.waiting least
    c.try_units-least.ensures.waits c.try_units-least.new.out c.try_split.new.out
    c.try_units-least.ensures.kept (omega arith) least c.try_split.result c.try_split.ensures some
    (omega arith) least (omega arith))

-- or one unit
pub returns : goal.returns
returns c =
    let task : Task = c.args.task.now in
    let size : ℕ = c.args.size in
    let address : ℕ = c.args.address in
    let old : Block = c.args.out.now in
    let least : ℕ = c.try_units-least.result in
    unit_decided task size address old c.try_units-least.new.waiting least
    c.try_units-least.ensures.waits c.else-size-gt0.out c.copy_node.new.to c.requires.node
    (elim c.else-size-gt0.branch [
      | else-size-gt0-via-then-size-gt0+else-is_some w ↦
          rw w.out-is (split_given_up task size address old c.try_units-least.new.waiting least
          c.try_units-least.ensures.waits c.try_units-least.new.out w.try_split.new.out
          c.try_units-least.ensures.kept (omega arith) least w.try_split.result
          w.try_split.ensures (sym w.is_some.ensures ∙ w.if-is_some.false) least (omega arith))
      | else-size-gt0-via-else-size-gt0 w ↦
          rw w.out-is (nothing_split task size address old c.try_units-least.new.waiting least
          c.try_units-least.ensures.waits least c.try_units-least.new.out (omega arith)
          c.try_units-least.ensures.kept)
    ])
    c.copy_node.ensures
