use Rattle.std.proofs.Common.{◌≡◌, ℕ, ◌-◌, ◌<◌, ◌≤◌, length, sym, ap, ◌∙◌, arith}
use Rattle.hv_tree_model.specs.Sites.{address_of, column_of, row_of}
use Rattle.hv_tree_model.specs.Plans.{in_block, look_around, tree_at}
use Rattle.hv_unit_model.proofs.GeometryLemmas.{place_of_address}
use Rattle.hv_near.specs.Neighbours.{lists_of_plan, around_of}
use Rattle.hv_vector_model.specs.Vectors.{around_with_vectors}
use Rattle.hv_mode.proofs.StillLemmas.{bins_alike, around_alike, shown_coded}
use Rattle.hv_mode.proofs.NodeCostLemmas.{node_in_block, ends_there, names_there, counted_here}
use Rattle.hv_mode.proofs.cost.node_bins.Goals as goal

-- the address of the column and the row of an address, and the size of its depth
there : (address column row : ℕ) → address < 64 → column ≡ column_of address →
    row ≡ row_of address → address_of column row ≡ address
there address column row inside across down =
    (λ i. address_of (across i) (down i)) ∙ (place_of_address address inside).0

same_size : (size : ℕ) → size ≤ 3 → 3 - (3 - size) ≡ size
same_size size most = omega (arith, most)

pub count_node-requires-clause-inside : goal.count_node-requires-clause-inside
count_node-requires-clause-inside c =
    ends_there c.args.size (3 - (3 - c.args.size)) c.args.address
    (address_of c.column_of.result c.row_of.result)
    (same_size c.args.size c.requires.node.size_at_most)
    (there c.args.address c.column_of.result c.row_of.result c.requires.node.inside
    c.column_of.ensures.value c.row_of.ensures.value)
    (node_in_block c.args.size c.args.address c.requires.node)

pub count_node-requires-clause-names : goal.count_node-requires-clause-names
count_node-requires-clause-names c =
    names_there c.args.task.now.place (lists_of_plan c.args.block.now.plan) c.args.size
    (3 - (3 - c.args.size)) c.args.address (address_of c.column_of.result c.row_of.result)
    (sym (same_size c.args.size c.requires.node.size_at_most))
    (sym (there c.args.address c.column_of.result c.row_of.result c.requires.node.inside
    c.column_of.ensures.value c.row_of.ensures.value)) c.requires.names

-- behind squares that have their vectors
pub returns-clause-value : goal.returns-clause-value
returns-clause-value c = λ earlier shown.
    let task = c.args.task.now in
    let here = task.place in
    let around = around_of task.near.now in
    let plan = lists_of_plan c.args.block.now.plan in
    let squares = shown_coded here plan c.args.address earlier shown in
    counted_here c.count_node.result (in_block task.kind task.references here around) here plan
    c.args.size (3 - (3 - c.args.size)) c.args.address
    (address_of c.column_of.result c.row_of.result)
    (same_size c.args.size c.requires.node.size_at_most)
    (there c.args.address c.column_of.result c.row_of.result c.requires.node.inside
    c.column_of.ensures.value c.row_of.ensures.value) c.count_node.ensures.value squares.coded
    squares.shows ∙
    ap length (bins_alike task.kind task.references here (look_around here around)
    (look_around here (around_with_vectors around)) (around_alike around here) c.args.size
    c.args.address squares.coded earlier (tree_at here plan c.args.size c.args.address)
    squares.alike)
