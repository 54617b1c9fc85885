use Rattle.std.proofs.Common.{◌∙◌, arith}
use Rattle.std.proofs.Math.Dec.{lit≤}
use Rattle.hv_mode.proofs.LeafLemmas.{leaf_inside, some_side}
use Rattle.hv_mode.proofs.ModeLemmas.{first_ends, first_fits, mode_is}
use Rattle.hv_mode.proofs.leaf.choose_mode.Goals as goal

pub mode_of-requires-clause-inside : goal.mode_of-requires-clause-inside
mode_of-requires-clause-inside c =
    leaf_inside c.args.task.now.place c.args.size c.args.address
    (record { across = c.requires.right; down = c.requires.bottom })
    (some_side c.args.size c.requires.node.size_at_most)

pub mode_of-requires-clause-across : goal.mode_of-requires-clause-across
mode_of-requires-clause-across c =
    let ends =
    first_ends c.args.task.now.place c.args.size c.args.address 3
    (omega (arith, c.requires.node.size_at_most)) c.requires.node
    (record { across = c.requires.right; down = c.requires.bottom }) in
    ends.across

pub mode_of-requires-clause-down : goal.mode_of-requires-clause-down
mode_of-requires-clause-down c =
    let ends =
    first_ends c.args.task.now.place c.args.size c.args.address 3
    (omega (arith, c.requires.node.size_at_most)) c.requires.node
    (record { across = c.requires.right; down = c.requires.bottom }) in
    ends.down

pub returns-in-0-clause-mode : goal.returns-in-0-clause-mode
returns-in-0-clause-mode c = λ before stands.
    let ends =
    first_ends c.args.task.now.place c.args.size c.args.address 3
    (omega (arith, c.requires.node.size_at_most)) c.requires.node
    (record { across = c.requires.right; down = c.requires.bottom }) in
    c.mode_of.ensures.mode before.earlier stands.earlier ∙
    mode_is c.args.task.now c.args.out.now c.args.size c.args.address 3 before
    (omega (arith, c.requires.node.size_at_most))
    (first_fits c.args.task.now.place c.args.address 3 (lit≤ tt) ends) stands

pub mode_of-requires-in-1-clause-inside : goal.mode_of-requires-in-1-clause-inside
mode_of-requires-in-1-clause-inside c =
    leaf_inside c.args.task.now.place c.args.size c.args.address
    (record { across = c.requires.right; down = c.requires.bottom })
    (some_side c.args.size c.requires.node.size_at_most)

pub mode_of-requires-in-1-clause-across : goal.mode_of-requires-in-1-clause-across
mode_of-requires-in-1-clause-across c =
    let ends =
    first_ends c.args.task.now.place c.args.size c.args.address 4
    (omega (arith, c.requires.node.size_at_most)) c.requires.node
    (record { across = c.requires.right; down = c.requires.bottom }) in
    ends.across

pub mode_of-requires-in-1-clause-down : goal.mode_of-requires-in-1-clause-down
mode_of-requires-in-1-clause-down c =
    let ends =
    first_ends c.args.task.now.place c.args.size c.args.address 4
    (omega (arith, c.requires.node.size_at_most)) c.requires.node
    (record { across = c.requires.right; down = c.requires.bottom }) in
    ends.down

pub returns-in-1-clause-mode : goal.returns-in-1-clause-mode
returns-in-1-clause-mode c = λ before stands.
    let ends =
    first_ends c.args.task.now.place c.args.size c.args.address 4
    (omega (arith, c.requires.node.size_at_most)) c.requires.node
    (record { across = c.requires.right; down = c.requires.bottom }) in
    c.mode_of-in-1.ensures.mode before.earlier stands.earlier ∙
    mode_is c.args.task.now c.args.out.now c.args.size c.args.address 4 before
    (omega (arith, c.requires.node.size_at_most))
    (first_fits c.args.task.now.place c.args.address 4 (lit≤ tt) ends) stands

pub mode_of-requires-in_default-clause-inside : goal.mode_of-requires-in_default-clause-inside
mode_of-requires-in_default-clause-inside c =
    leaf_inside c.args.task.now.place c.args.size c.args.address
    (record { across = c.requires.right; down = c.requires.bottom })
    (some_side c.args.size c.requires.node.size_at_most)

pub mode_of-requires-in_default-clause-across : goal.mode_of-requires-in_default-clause-across
mode_of-requires-in_default-clause-across c =
    let ends =
    first_ends c.args.task.now.place c.args.size c.args.address 5
    (omega (arith, c.requires.node.size_at_most)) c.requires.node
    (record { across = c.requires.right; down = c.requires.bottom }) in
    ends.across

pub mode_of-requires-in_default-clause-down : goal.mode_of-requires-in_default-clause-down
mode_of-requires-in_default-clause-down c =
    let ends =
    first_ends c.args.task.now.place c.args.size c.args.address 5
    (omega (arith, c.requires.node.size_at_most)) c.requires.node
    (record { across = c.requires.right; down = c.requires.bottom }) in
    ends.down

pub mode_of-requires-in_default-clause-wide : goal.mode_of-requires-in_default-clause-wide
mode_of-requires-in_default-clause-wide c =
    let ends =
    first_ends c.args.task.now.place c.args.size c.args.address 5
    (omega (arith, c.requires.node.size_at_most)) c.requires.node
    (record { across = c.requires.right; down = c.requires.bottom }) in
    omega (arith, ends.right, c.args.task.now.whole.luma.wide)

pub mode_of-requires-in_default-clause-high : goal.mode_of-requires-in_default-clause-high
mode_of-requires-in_default-clause-high c =
    let ends =
    first_ends c.args.task.now.place c.args.size c.args.address 5
    (omega (arith, c.requires.node.size_at_most)) c.requires.node
    (record { across = c.requires.right; down = c.requires.bottom }) in
    omega (arith, ends.bottom, c.args.task.now.whole.luma.high)

pub returns-in_default-clause-mode : goal.returns-in_default-clause-mode
returns-in_default-clause-mode c = λ before stands.
    let ends =
    first_ends c.args.task.now.place c.args.size c.args.address 5
    (omega (arith, c.requires.node.size_at_most)) c.requires.node
    (record { across = c.requires.right; down = c.requires.bottom }) in
    c.mode_of-in_default.ensures.mode before.earlier stands.earlier ∙
    mode_is c.args.task.now c.args.out.now c.args.size c.args.address 5 before
    (omega (arith, c.requires.node.size_at_most))
    (first_fits c.args.task.now.place c.args.address 5 (lit≤ tt) ends) stands
