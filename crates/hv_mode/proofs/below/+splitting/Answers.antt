use Rattle.std.proofs.Common.{ℕ, ◌+◌, ◌*◌, ◌-◌, ◌≤◌, Some, None, SomeIff, refl, sym, ◌∙◌, subst, arith}
use Rattle.std.proofs.Math.Dec.{lit<}
use Rattle.hv_block.specs.declared.block.Block.{Block}
use Rattle.hv_mode_model.specs.ModeDecision.{best}
use Rattle.hv_mode.specs.declared.task.Task.{Task}
use Rattle.hv_mode.specs.Nodes.{given_of}
use Rattle.hv_mode.specs.SplitNodes.{split_choice}
use Rattle.hv_mode.proofs.LimitLemmas.{given_up, none_answered}
use Rattle.hv_mode.proofs.SplitBelowLemmas.{split_is, part_right, part_bottom, Part, part_of, below_best, flag_up, first_up, second_up, third_up, fourth_up, all_below}
use Rattle.hv_mode.proofs.SplitLemmas.{parts_of}
use Rattle.hv_mode.proofs.WonLemmas.{split_decided, split_given_up, nothing_split, unit_below, none_below}
use Rattle.hv_mode.proofs.below.+splitting.Goals as goal
use Rattle.hv_mode.proofs.below.+splitting.Goals.{decide_below-then-size-gt0+else-is_some, decide_below-else-size-gt0}

-- ---- all that is tried of a node

-- the split, which costs less
pub decide_below-returns-then-is_some : goal.decide_below-returns-then-is_some
decide_below-returns-then-is_some t c =
    let task : Task = c.args.task.now in
    let size : ℕ = c.args.size in
    let address : ℕ = c.args.address in
    let old : Block = c.args.out.now in
    below_best task size address c.args.limit old c.try_split-split.new.out
    c.try_split-split.result c.requires.tried c.requires.right c.requires.bottom
    (split_decided task size address old c.try_units-least.new.waiting c.try_units-least.result
    c.try_units-least.ensures.waits c.try_units-least.new.out c.try_split-split.new.out
    c.try_units-least.ensures.kept (omega arith) c.min.result c.try_split-split.result
    c.try_split-split.ensures (sym c.is_some.ensures ∙ c.if-is_some.true)
    (omega (arith, c.min.ensures)) c.args.limit (omega (arith, c.min.ensures)))

-- nothing that costs less than the limit
pub decide_below-returns-then-limit-least : goal.decide_below-returns-then-limit-least
decide_below-returns-then-limit-least t c =
    let task : Task = c.args.task.now in
    let size : ℕ = c.args.size in
    let address : ℕ = c.args.address in
    let old : Block = c.args.out.now in
    below_best task size address c.args.limit old c.if-size-gt0.out None c.requires.tried
    c.requires.right c.requires.bottom
    (none_below task size address old c.try_units-least.new.waiting c.try_units-least.result
    c.try_units-least.ensures.waits c.args.limit c.if-size-gt0.out (omega arith)
    (elim c.if-size-gt0.branch [
      | decide_below-then-size-gt0+else-is_some w ↦
          rw w.out-is (split_given_up task size address old c.try_units-least.new.waiting
          c.try_units-least.result c.try_units-least.ensures.waits c.try_units-least.new.out
          w.try_split-split.new.out c.try_units-least.ensures.kept (omega arith) w.min.result
          w.try_split-split.result w.try_split-split.ensures
          (sym w.is_some.ensures ∙ w.if-is_some.false) c.args.limit
          (omega (arith, w.min.ensures)))
      | decide_below-else-size-gt0 w ↦
          rw w.out-is (nothing_split task size address old c.try_units-least.new.waiting
          c.try_units-least.result c.try_units-least.ensures.waits c.args.limit
          c.try_units-least.new.out (omega arith) c.try_units-least.ensures.kept)
    ]))

-- one unit
pub decide_below-returns : goal.decide_below-returns
decide_below-returns t c =
    let task : Task = c.args.task.now in
    let size : ℕ = c.args.size in
    let address : ℕ = c.args.address in
    let old : Block = c.args.out.now in
    below_best task size address c.args.limit old c.copy_node.new.to
    (Some c.try_units-least.result) c.requires.tried c.requires.right c.requires.bottom
    (unit_below task size address old c.try_units-least.new.waiting c.try_units-least.result
    c.try_units-least.ensures.waits c.args.limit c.if-size-gt0.out c.copy_node.new.to
    c.requires.node (omega arith)
    (elim c.if-size-gt0.branch [
      | decide_below-then-size-gt0+else-is_some w ↦
          rw w.out-is (split_given_up task size address old c.try_units-least.new.waiting
          c.try_units-least.result c.try_units-least.ensures.waits c.try_units-least.new.out
          w.try_split-split.new.out c.try_units-least.ensures.kept (omega arith) w.min.result
          w.try_split-split.result w.try_split-split.ensures
          (sym w.is_some.ensures ∙ w.if-is_some.false) c.try_units-least.result
          (omega (arith, w.min.ensures, c.if-limit-least.false)))
      | decide_below-else-size-gt0 w ↦
          rw w.out-is (nothing_split task size address old c.try_units-least.new.waiting
          c.try_units-least.result c.try_units-least.ensures.waits c.try_units-least.result
          c.try_units-least.new.out (omega arith) c.try_units-least.ensures.kept)
    ])
    c.copy_node.ensures)

-- ---- a node that is split

-- what each part asks

pub try_split-decide_below-requires : goal.try_split-decide_below-requires
try_split-decide_below-requires t c =
    let task : Task = c.args.task.now in
    let size : ℕ = c.args.size in
    let address : ℕ = c.args.address in
    let step : ℕ = c.squares-step.result in
    let is_split = split_is task size address step c.requires.node c.requires.right
    c.requires.bottom c.requires.parts c.squares-step.ensures.value in
    let parts = parts_of size step address c.requires.parts c.squares-step.ensures.value
    c.requires.node in
    let right = part_right task size address step is_split 0 address
    (lit< tt) (omega arith) in
    let bottom = part_bottom task size address step is_split 0 address
    (lit< tt) (omega arith) in
    (omega arith, (c.requires.tried, (parts.first, (right, (bottom, omega arith)))))

pub try_split-decide_below-requires-2 : goal.try_split-decide_below-requires-2
try_split-decide_below-requires-2 t c =
    let task : Task = c.args.task.now in
    let size : ℕ = c.args.size in
    let address : ℕ = c.args.address in
    let step : ℕ = c.squares-step.result in
    let is_split = split_is task size address step c.requires.node c.requires.right
    c.requires.bottom c.requires.parts c.squares-step.ensures.value in
    let parts = parts_of size step address c.requires.parts c.squares-step.ensures.value
    c.requires.node in
    let right = part_right task size address step is_split 1 (address + step)
    (lit< tt) (omega arith) in
    let bottom = part_bottom task size address step is_split 1 (address + step)
    (lit< tt) (omega arith) in
    (omega arith, (c.requires.tried, (parts.second, (right, (bottom, omega arith)))))

pub try_split-decide_below-requires-3 : goal.try_split-decide_below-requires-3
try_split-decide_below-requires-3 t c =
    let task : Task = c.args.task.now in
    let size : ℕ = c.args.size in
    let address : ℕ = c.args.address in
    let step : ℕ = c.squares-step.result in
    let is_split = split_is task size address step c.requires.node c.requires.right
    c.requires.bottom c.requires.parts c.squares-step.ensures.value in
    let parts = parts_of size step address c.requires.parts c.squares-step.ensures.value
    c.requires.node in
    let right = part_right task size address step is_split 2 (address + 2 * step)
    (lit< tt) refl in
    let bottom = part_bottom task size address step is_split 2 (address + 2 * step)
    (lit< tt) refl in
    (omega arith, (c.requires.tried, (parts.third, (right, (bottom, omega arith)))))

pub try_split-decide_below-requires-4 : goal.try_split-decide_below-requires-4
try_split-decide_below-requires-4 t c =
    let task : Task = c.args.task.now in
    let size : ℕ = c.args.size in
    let address : ℕ = c.args.address in
    let step : ℕ = c.squares-step.result in
    let is_split = split_is task size address step c.requires.node c.requires.right
    c.requires.bottom c.requires.parts c.squares-step.ensures.value in
    let parts = parts_of size step address c.requires.parts c.squares-step.ensures.value
    c.requires.node in
    let right = part_right task size address step is_split 3 (address + 3 * step)
    (lit< tt) refl in
    let bottom = part_bottom task size address step is_split 3 (address + 3 * step)
    (lit< tt) refl in
    (omega arith, (c.requires.tried, (parts.fourth, (right, (bottom, omega arith)))))

-- it is given up

pub try_split-returns-in_err-left : goal.try_split-returns-in_err-left
try_split-returns-in_err-left t c =
    let task : Task = c.args.task.now in
    let size : ℕ = c.args.size in
    let address : ℕ = c.args.address in
    let step : ℕ = c.squares-step.result in
    let is_split = split_is task size address step c.requires.node c.requires.right
    c.requires.bottom c.requires.parts c.squares-step.ensures.value in
    let flag : ℕ = c.cost-flag.result in
    let limit : ℕ = c.args.limit in
    let s0 : Block = c.args.out.now in
    let over = subst (λ r. SomeIff r (flag ≤ limit) (limit - flag)) c.in_err-left.was
    c.checked_sub.ensures in
    none_answered task size address (split_choice task size address) limit s0 s0
    c.from_residual.result c.from_residual.ensures
    (flag_up task size address step is_split limit flag c.cost-flag.ensures s0
    (omega (arith, over)))

pub try_split-returns-in_err-first : goal.try_split-returns-in_err-first
try_split-returns-in_err-first t c =
    let task : Task = c.args.task.now in
    let size : ℕ = c.args.size in
    let address : ℕ = c.args.address in
    let step : ℕ = c.squares-step.result in
    let is_split = split_is task size address step c.requires.node c.requires.right
    c.requires.bottom c.requires.parts c.squares-step.ensures.value in
    let flag : ℕ = c.cost-flag.result in
    let limit : ℕ = c.args.limit in
    let s0 : Block = c.args.out.now in
    let left : ℕ = c.in_ok-left.left in
    let has = subst (λ r. SomeIff r (flag ≤ limit) (limit - flag)) c.in_ok-left.was
    c.checked_sub.ensures in
    let up = given_up task (size - 1) address
    (best (given_of task) (size - 1) address)
    left s0 c.decide_below.new.out
    c.decide_below.result c.in_err-first.was c.decide_below.ensures in
    none_answered task size address (split_choice task size address) limit s0
    c.decide_below.new.out c.from_residual-in_err-first.result
    c.from_residual-in_err-first.ensures
    (first_up task size address step is_split limit flag c.cost-flag.ensures s0
    c.decide_below.new.out left (omega (arith, has)) up)

pub try_split-returns-in_err-second : goal.try_split-returns-in_err-second
try_split-returns-in_err-second t c =
    let task : Task = c.args.task.now in
    let size : ℕ = c.args.size in
    let address : ℕ = c.args.address in
    let step : ℕ = c.squares-step.result in
    let is_split = split_is task size address step c.requires.node c.requires.right
    c.requires.bottom c.requires.parts c.squares-step.ensures.value in
    let flag : ℕ = c.cost-flag.result in
    let limit : ℕ = c.args.limit in
    let s0 : Block = c.args.out.now in
    let left : ℕ = c.in_ok-left.left in
    let has = subst (λ r. SomeIff r (flag ≤ limit) (limit - flag)) c.in_ok-left.was
    c.checked_sub.ensures in
    let first : Part task size address s0 =
    part_of task size address left s0
    c.decide_below.new.out c.decide_below.result c.in_ok-first.first
    c.in_ok-first.was c.decide_below.ensures in
    let low_1 = first.is.less in
    let up = given_up task (size - 1) (address + step)
    (best (given_of task) (size - 1) (address + step))
    (left - first.cost) c.decide_below.new.out c.decide_below-2.new.out
    c.decide_below-2.result c.in_err-second.was c.decide_below-2.ensures in
    none_answered task size address (split_choice task size address) limit s0
    c.decide_below-2.new.out c.from_residual-in_err-second.result
    c.from_residual-in_err-second.ensures
    (second_up task size address step is_split limit flag c.cost-flag.ensures s0 first
    c.decide_below-2.new.out (left - first.cost) (omega (arith, has, low_1)) up)

pub try_split-returns-in_err-third : goal.try_split-returns-in_err-third
try_split-returns-in_err-third t c =
    let task : Task = c.args.task.now in
    let size : ℕ = c.args.size in
    let address : ℕ = c.args.address in
    let step : ℕ = c.squares-step.result in
    let is_split = split_is task size address step c.requires.node c.requires.right
    c.requires.bottom c.requires.parts c.squares-step.ensures.value in
    let flag : ℕ = c.cost-flag.result in
    let limit : ℕ = c.args.limit in
    let s0 : Block = c.args.out.now in
    let left : ℕ = c.in_ok-left.left in
    let has = subst (λ r. SomeIff r (flag ≤ limit) (limit - flag)) c.in_ok-left.was
    c.checked_sub.ensures in
    let first : Part task size address s0 =
    part_of task size address left s0
    c.decide_below.new.out c.decide_below.result c.in_ok-first.first
    c.in_ok-first.was c.decide_below.ensures in
    let second : Part task size (address + step) c.decide_below.new.out =
    part_of task size (address + step) (left - first.cost) c.decide_below.new.out
    c.decide_below-2.new.out c.decide_below-2.result c.in_ok-second.second
    c.in_ok-second.was c.decide_below-2.ensures in
    let low_1 = first.is.less in
    let low_2 = second.is.less in
    let up = given_up task (size - 1) (address + 2 * step)
    (best (given_of task) (size - 1) (address + 2 * step))
    (left - first.cost - second.cost) c.decide_below-2.new.out c.decide_below-3.new.out
    c.decide_below-3.result c.in_err-third.was c.decide_below-3.ensures in
    none_answered task size address (split_choice task size address) limit s0
    c.decide_below-3.new.out c.from_residual-in_err-third.result
    c.from_residual-in_err-third.ensures
    (third_up task size address step is_split limit flag c.cost-flag.ensures s0 first second
    c.decide_below-3.new.out (left - first.cost - second.cost)
    (omega (arith, has, low_1, low_2)) up)

pub try_split-returns-in_err-fourth : goal.try_split-returns-in_err-fourth
try_split-returns-in_err-fourth t c =
    let task : Task = c.args.task.now in
    let size : ℕ = c.args.size in
    let address : ℕ = c.args.address in
    let step : ℕ = c.squares-step.result in
    let is_split = split_is task size address step c.requires.node c.requires.right
    c.requires.bottom c.requires.parts c.squares-step.ensures.value in
    let flag : ℕ = c.cost-flag.result in
    let limit : ℕ = c.args.limit in
    let s0 : Block = c.args.out.now in
    let left : ℕ = c.in_ok-left.left in
    let has = subst (λ r. SomeIff r (flag ≤ limit) (limit - flag)) c.in_ok-left.was
    c.checked_sub.ensures in
    let first : Part task size address s0 =
    part_of task size address left s0
    c.decide_below.new.out c.decide_below.result c.in_ok-first.first
    c.in_ok-first.was c.decide_below.ensures in
    let second : Part task size (address + step) c.decide_below.new.out =
    part_of task size (address + step) (left - first.cost) c.decide_below.new.out
    c.decide_below-2.new.out c.decide_below-2.result c.in_ok-second.second
    c.in_ok-second.was c.decide_below-2.ensures in
    let third : Part task size (address + 2 * step) c.decide_below-2.new.out =
    part_of task size (address + 2 * step) (left - first.cost - second.cost)
    c.decide_below-2.new.out c.decide_below-3.new.out c.decide_below-3.result
    c.in_ok-third.third c.in_ok-third.was c.decide_below-3.ensures in
    let low_1 = first.is.less in
    let low_2 = second.is.less in
    let low_3 = third.is.less in
    let up = given_up task (size - 1) (address + 3 * step)
    (best (given_of task) (size - 1) (address + 3 * step))
    (left - first.cost - second.cost - third.cost) c.decide_below-3.new.out c.decide_below-4.new.out
    c.decide_below-4.result c.in_err-fourth.was c.decide_below-4.ensures in
    none_answered task size address (split_choice task size address) limit s0
    c.decide_below-4.new.out c.from_residual-in_err-fourth.result
    c.from_residual-in_err-fourth.ensures
    (fourth_up task size address step is_split limit flag c.cost-flag.ensures s0 first second third
    c.decide_below-4.new.out (left - first.cost - second.cost - third.cost)
    (omega (arith, has, low_1, low_2, low_3)) up)

-- or all parts are decided
pub try_split-returns : goal.try_split-returns
try_split-returns t c =
    let task : Task = c.args.task.now in
    let size : ℕ = c.args.size in
    let address : ℕ = c.args.address in
    let step : ℕ = c.squares-step.result in
    let is_split = split_is task size address step c.requires.node c.requires.right
    c.requires.bottom c.requires.parts c.squares-step.ensures.value in
    let flag : ℕ = c.cost-flag.result in
    let limit : ℕ = c.args.limit in
    let s0 : Block = c.args.out.now in
    let left : ℕ = c.in_ok-left.left in
    let has = subst (λ r. SomeIff r (flag ≤ limit) (limit - flag)) c.in_ok-left.was
    c.checked_sub.ensures in
    let first : Part task size address s0 =
    part_of task size address left s0
    c.decide_below.new.out c.decide_below.result c.in_ok-first.first
    c.in_ok-first.was c.decide_below.ensures in
    let second : Part task size (address + step) c.decide_below.new.out =
    part_of task size (address + step) (left - first.cost) c.decide_below.new.out
    c.decide_below-2.new.out c.decide_below-2.result c.in_ok-second.second
    c.in_ok-second.was c.decide_below-2.ensures in
    let third : Part task size (address + 2 * step) c.decide_below-2.new.out =
    part_of task size (address + 2 * step) (left - first.cost - second.cost)
    c.decide_below-2.new.out c.decide_below-3.new.out c.decide_below-3.result
    c.in_ok-third.third c.in_ok-third.was c.decide_below-3.ensures in
    let fourth : Part task size (address + 3 * step) c.decide_below-3.new.out =
    part_of task size (address + 3 * step) (left - first.cost - second.cost - third.cost)
    c.decide_below-3.new.out c.decide_below-4.new.out c.decide_below-4.result
    c.in_ok-fourth.fourth c.in_ok-fourth.was c.decide_below-4.ensures in
    let low_1 = first.is.less in
    let low_2 = second.is.less in
    let low_3 = third.is.less in
    all_below task size address step is_split limit flag c.cost-flag.ensures s0 first second third
    fourth (omega (arith, has, low_1, low_2, low_3))
