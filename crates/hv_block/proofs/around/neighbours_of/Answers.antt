-- The four blocks around are those before this one, where they are there.
use Rattle.std.proofs.Common.{◌≡◌, ◌∙◌, ◌<◌, arith}
use Rattle.hv_block.specs.Around.{blocks_across}
use Rattle.hv_block.proofs.AroundLemmas.{across_counted, are_neighbours}
use Rattle.hv_block.proofs.around.neighbours_of.Goals as goal

pub returns : goal.returns
returns g c =
    let width = c.args.place.width in
    let across = c.div_ceil-across.result in
    let counted : across ≡ blocks_across width =
    c.div_ceil-across.ensures ∙ across_counted width in
    let some : 0 < across = omega (arith, counted, c.requires.width) in
    are_neighbours (g.B.Blocks.blocks c.args.blocks.now) c.args.place across
    c.has_above_left-at_left.result c.has_above_right-at_right.result c.edges_before.result
    c.edges_before-2.result c.edges_before-3.result c.edges_before-4.result some counted
    c.has_above_left-at_left.ensures c.has_above_right-at_right.ensures c.edges_before.ensures
    c.edges_before-2.ensures c.edges_before-3.ensures c.edges_before-4.ensures
