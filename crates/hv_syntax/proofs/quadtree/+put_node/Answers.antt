use Rattle.std.proofs.Common.{◌∙◌, sym, arith}
use Rattle.hv_syntax.specs.Blocks.{place_of, plan_of}
use Rattle.hv_syntax.proofs.NodeLemmas.{size_of_split, children}
use Rattle.hv_syntax.proofs.QuadtreeLemmas.{puts_outside, puts_node_of_leaf, puts_split}
use Rattle.hv_syntax.proofs.quadtree.+put_node.Goals as goal

pub returns-then-is_outside : goal.returns-then-is_outside
returns-then-is_outside g t c = λ s earlier sees shows.
    puts_outside g.B.BinSink.stands_for _ c.args.block.now s c.args.size c.args.address earlier
    (sym c.is_outside.ensures ∙ c.if-is_outside.true)

pub returns-then-is_leaf : goal.returns-then-is_leaf
returns-then-is_leaf g t c = λ s earlier sees shows.
    let inside = sym c.is_outside.ensures ∙ c.if-is_outside.false in
    puts_node_of_leaf g.B.BinSink.stands_for c.args.sink.now c.put_leaf.new.sink c.args.block.now s
    c.args.size c.args.address earlier c.own_unit-unit.result inside c.own_unit-unit.ensures
    (sym c.is_leaf.ensures ∙ c.if-is_leaf.true)
    (c.put_leaf.ensures s earlier (record { sees = sees; shows = shows; inside = inside }))

pub put_node-requires : goal.put_node-requires
put_node-requires g t c κs within =
    let b = c.args.block.now in
    let depth = c.own_unit-unit.result.depth in
    let split = sym c.is_leaf.ensures ∙ c.if-is_leaf.false in
    let e = size_of_split c.args.size depth split in
    let step = c.squares-step.ensures.value in
    let k = children (place_of b) (plan_of b) c.args.size c.squares-step.result c.args.address
    c.own_unit-unit.result step
    (sym c.is_outside.ensures ∙ c.if-is_outside.false) c.own_unit-unit.ensures split
    c.requires.inside c.requires.names in
    let room = k.room in
    let some = k.some in
    (omega (arith, e, c.decreases), (within, (omega (arith, c.requires.size), (omega (arith, room, some, step), (omega (arith, room, some), k.first)))))

pub put_node-requires-2 : goal.put_node-requires-2
put_node-requires-2 g t c κs within =
    let b = c.args.block.now in
    let depth = c.own_unit-unit.result.depth in
    let split = sym c.is_leaf.ensures ∙ c.if-is_leaf.false in
    let e = size_of_split c.args.size depth split in
    let step = c.squares-step.ensures.value in
    let k = children (place_of b) (plan_of b) c.args.size c.squares-step.result c.args.address
    c.own_unit-unit.result step
    (sym c.is_outside.ensures ∙ c.if-is_outside.false) c.own_unit-unit.ensures split
    c.requires.inside c.requires.names in
    let room = k.room in
    let some = k.some in
    (omega (arith, e, c.decreases), (within, (omega (arith, c.requires.size), (omega (arith, room, some, step), (omega (arith, room, some), k.second)))))

pub put_node-requires-3 : goal.put_node-requires-3
put_node-requires-3 g t c κs within =
    let b = c.args.block.now in
    let depth = c.own_unit-unit.result.depth in
    let split = sym c.is_leaf.ensures ∙ c.if-is_leaf.false in
    let e = size_of_split c.args.size depth split in
    let step = c.squares-step.ensures.value in
    let k = children (place_of b) (plan_of b) c.args.size c.squares-step.result c.args.address
    c.own_unit-unit.result step
    (sym c.is_outside.ensures ∙ c.if-is_outside.false) c.own_unit-unit.ensures split
    c.requires.inside c.requires.names in
    let room = k.room in
    let some = k.some in
    (omega (arith, e, c.decreases), (within, (omega (arith, c.requires.size), (omega (arith, room, some, step), (omega (arith, room, some), k.third)))))

pub put_node-requires-4 : goal.put_node-requires-4
put_node-requires-4 g t c κs within =
    let b = c.args.block.now in
    let depth = c.own_unit-unit.result.depth in
    let split = sym c.is_leaf.ensures ∙ c.if-is_leaf.false in
    let e = size_of_split c.args.size depth split in
    let step = c.squares-step.ensures.value in
    let k = children (place_of b) (plan_of b) c.args.size c.squares-step.result c.args.address
    c.own_unit-unit.result step
    (sym c.is_outside.ensures ∙ c.if-is_outside.false) c.own_unit-unit.ensures split
    c.requires.inside c.requires.names in
    let room = k.room in
    let some = k.some in
    (omega (arith, e, c.decreases), (within, (omega (arith, c.requires.size), (omega (arith, room, some, step), (omega (arith, room, some), k.fourth)))))

pub returns : goal.returns
returns g t c = λ s earlier sees shows.
    puts_split g.B.BinSink.stands_for c.args.sink.now c.put_split.new.sink c.put_node.new.sink
    c.put_node-2.new.sink c.put_node-3.new.sink c.put_node-4.new.sink c.args.block.now s c.args.size
    c.squares-step.result c.args.address earlier c.own_unit-unit.result c.squares-step.ensures.value
    (sym c.is_outside.ensures ∙ c.if-is_outside.false) c.own_unit-unit.ensures
    (sym c.is_leaf.ensures ∙ c.if-is_leaf.false) c.requires.names sees shows
    (λ r. c.put_split.ensures s earlier r)
    (λ e h. c.put_node.ensures s e sees h) (λ e h. c.put_node-2.ensures s e sees h)
    (λ e h. c.put_node-3.ensures s e sees h) (λ e h. c.put_node-4.ensures s e sees h)
