use Rattle.std.proofs.Common.{◌≡◌, ℕ, ◌+◌, ◌-◌, ◌*◌, ◌∙◌, sym, true, length, arith}
use Rattle.hv_unit_model.specs.Bins.{split_bins, bins_of_node}
use Rattle.hv_syntax.specs.Blocks.{node_of, place_of, plan_of}
use Rattle.hv_syntax.proofs.NodeLemmas.{size_of_split, children}
use Rattle.hv_syntax.proofs.QuadtreeLemmas.{puts_split}
use Rattle.hv_syntax.proofs.CountedLemmas.{counts, puts_count, count_put, count_outside, count_node_of_leaf}
use Rattle.hv_syntax.proofs.counting_tree.+count_node_of.Goals as goal
use Rattle.hv_tree_model.proofs.NodeLemmas.{squares_above_0}

pub returns-then-is_outside-clause-value : goal.returns-then-is_outside-clause-value
returns-then-is_outside-clause-value t c = λ s earlier sees shows.
    count_outside c.args.block.now s c.args.size c.args.address earlier
    (sym c.is_outside.ensures ∙ c.if-is_outside.true)

pub returns-then-is_outside-clause-most : goal.returns-then-is_outside-clause-most
returns-then-is_outside-clause-most t c = omega (arith, squares_above_0 c.args.size)

pub returns-then-is_leaf-clause-value : goal.returns-then-is_leaf-clause-value
returns-then-is_leaf-clause-value t c = λ s earlier sees shows.
    let inside = sym c.is_outside.ensures ∙ c.if-is_outside.false in
    count_node_of_leaf c.count_leaf.result c.args.block.now s c.args.size c.args.address earlier
    c.own_unit-unit.result inside c.own_unit-unit.ensures (sym c.is_leaf.ensures ∙ c.if-is_leaf.true)
    (c.count_leaf.ensures.value s earlier
    (record { sees = sees; shows = shows; inside = inside }))

pub returns-then-is_leaf-clause-most : goal.returns-then-is_leaf-clause-most
returns-then-is_leaf-clause-most t c =
    omega (arith, squares_above_0 c.args.size, c.count_leaf.ensures.most)

pub count_node_of-first-requires : goal.count_node_of-first-requires
count_node_of-first-requires t c =
    let b = c.args.block.now in
    let depth = c.own_unit-unit.result.depth in
    let split = sym c.is_leaf.ensures ∙ c.if-is_leaf.false in
    let e = size_of_split c.args.size depth split in
    let step = c.squares-step.ensures.value in
    let k = children (place_of b) (plan_of b) c.args.size c.squares-step.result c.args.address
    c.own_unit-unit.result step
    (sym c.is_outside.ensures ∙ c.if-is_outside.false) c.own_unit-unit.ensures split
    c.requires.inside c.requires.names in
    let room = k.room in
    let some = k.some in (
      omega (arith, e, c.decreases),
      (
        omega (arith, c.requires.size),
        (omega (arith, room, some, step), (omega (arith, room, some), k.first)),
      ),
    )

pub count_node_of-second-requires : goal.count_node_of-second-requires
count_node_of-second-requires t c =
    let b = c.args.block.now in
    let depth = c.own_unit-unit.result.depth in
    let split = sym c.is_leaf.ensures ∙ c.if-is_leaf.false in
    let e = size_of_split c.args.size depth split in
    let step = c.squares-step.ensures.value in
    let k = children (place_of b) (plan_of b) c.args.size c.squares-step.result c.args.address
    c.own_unit-unit.result step
    (sym c.is_outside.ensures ∙ c.if-is_outside.false) c.own_unit-unit.ensures split
    c.requires.inside c.requires.names in
    let room = k.room in
    let some = k.some in (
      omega (arith, e, c.decreases),
      (
        omega (arith, c.requires.size),
        (omega (arith, room, some, step), (omega (arith, room, some), k.second)),
      ),
    )

pub count_node_of-third-requires : goal.count_node_of-third-requires
count_node_of-third-requires t c =
    let b = c.args.block.now in
    let depth = c.own_unit-unit.result.depth in
    let split = sym c.is_leaf.ensures ∙ c.if-is_leaf.false in
    let e = size_of_split c.args.size depth split in
    let step = c.squares-step.ensures.value in
    let k = children (place_of b) (plan_of b) c.args.size c.squares-step.result c.args.address
    c.own_unit-unit.result step
    (sym c.is_outside.ensures ∙ c.if-is_outside.false) c.own_unit-unit.ensures split
    c.requires.inside c.requires.names in
    let room = k.room in
    let some = k.some in (
      omega (arith, e, c.decreases),
      (
        omega (arith, c.requires.size),
        (omega (arith, room, some, step), (omega (arith, room, some), k.third)),
      ),
    )

pub count_node_of-fourth-requires : goal.count_node_of-fourth-requires
count_node_of-fourth-requires t c =
    let b = c.args.block.now in
    let depth = c.own_unit-unit.result.depth in
    let split = sym c.is_leaf.ensures ∙ c.if-is_leaf.false in
    let e = size_of_split c.args.size depth split in
    let step = c.squares-step.ensures.value in
    let k = children (place_of b) (plan_of b) c.args.size c.squares-step.result c.args.address
    c.own_unit-unit.result step
    (sym c.is_outside.ensures ∙ c.if-is_outside.false) c.own_unit-unit.ensures split
    c.requires.inside c.requires.names in
    let room = k.room in
    let some = k.some in (
      omega (arith, e, c.decreases),
      (
        omega (arith, c.requires.size),
        (omega (arith, room, some, step), (omega (arith, room, some), k.fourth)),
      ),
    )

pub returns-clause-value : goal.returns-clause-value
returns-clause-value t c = λ s earlier sees shows.
    let b = c.args.block.now in
    let size = c.args.size in
    let below : ℕ = c.args.size - 1 in
    let a = c.args.address in
    let step = c.squares-step.result in
    let n0 = c.count_split-split.result in
    let n1 = c.count_node_of-first.result in
    let n2 = c.count_node_of-second.result in
    let n3 = c.count_node_of-third.result in
    let n4 = c.count_node_of-fourth.result in
    let total : 0 + n0 + n1 + n2 + n3 + n4 ≡ length (bins_of_node s size a earlier (node_of b size a)) =
    count_put (0 + n0 + n1 + n2 + n3 + n4) (bins_of_node s size a earlier (node_of b size a))
    (puts_split counts 0 (0 + n0) (0 + n0 + n1) (0 + n0 + n1 + n2) (0 + n0 + n1 + n2 + n3)
    (0 + n0 + n1 + n2 + n3 + n4) b s size step a earlier c.own_unit-unit.result
    c.squares-step.ensures.value (sym c.is_outside.ensures ∙ c.if-is_outside.false)
    c.own_unit-unit.ensures (sym c.is_leaf.ensures ∙ c.if-is_leaf.false) c.requires.names sees
    shows
    (λ r. puts_count 0 n0 (split_bins s size a earlier true)
    (c.count_split-split.ensures.value s earlier true sees))
    (λ e h. puts_count (0 + n0) n1 (bins_of_node s below a e (node_of b below a))
    (c.count_node_of-first.ensures.value s e sees h))
    (λ e h. puts_count (0 + n0 + n1) n2
    (bins_of_node s below (a + step) e (node_of b below (a + step)))
    (c.count_node_of-second.ensures.value s e sees h))
    (λ e h. puts_count (0 + n0 + n1 + n2) n3
    (bins_of_node s below (a + 2 * step) e (node_of b below (a + 2 * step)))
    (c.count_node_of-third.ensures.value s e sees h))
    (λ e h. puts_count (0 + n0 + n1 + n2 + n3) n4
    (bins_of_node s below (a + 3 * step) e (node_of b below (a + 3 * step)))
    (c.count_node_of-fourth.ensures.value s e sees h))) in
    omega (arith, total)
