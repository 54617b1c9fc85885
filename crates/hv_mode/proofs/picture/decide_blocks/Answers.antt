-- One block more is chosen by each call, and in the end all are.
use Rattle.std.proofs.Common.{◌≡◌, ◌*◌, ◌<◌, ◌∙◌, refl, ap₂, length, arith}
use Rattle.hv_tree_model.specs.Sites.{blocks_over}
use Rattle.hv_mode.specs.Pictures.{task_of, AreChosen}
use Rattle.hv_mode.specs.Vectors.{references_for}
use Rattle.hv_mode.proofs.PictureLemmas.{one_more_chosen, all_named, all_moving_named, trees_are, moving_trees_are, decoded_are}
use Rattle.hv_mode.proofs.picture.decide_blocks.Goals as goal
use Rattle.hv_tree_model.proofs.NodeLemmas.{blocks_counted}

pub loop-index-init : goal.loop-index-init
loop-index-init c = (refl, λ index block below got. absurd (omega (arith, below)))

pub decide_block-requires : goal.decide_block-requires
decide_block-requires c =
    let t = c.args.task.now in
    let counted : c.div_ceil.result * c.div_ceil-2.result ≡
    blocks_over t.width * blocks_over t.height =
    ap₂ (λ columns rows. columns * rows) (c.div_ceil.ensures ∙ blocks_counted t.width)
    (c.div_ceil-2.ensures ∙ blocks_counted t.height) in
    omega (arith, c.loop-index.invariant.0, c.requires, counted, c.loop-index-test.true)

pub loop-index-preserved : goal.loop-index-preserved
loop-index-preserved c =
    let t = c.args.task.now in
    let old = c.loop-index.blocks.items in
    let counted : c.div_ceil.result * c.div_ceil-2.result ≡
    blocks_over t.width * blocks_over t.height =
    ap₂ (λ columns rows. columns * rows) (c.div_ceil.ensures ∙ blocks_counted t.width)
    (c.div_ceil-2.ensures ∙ blocks_counted t.height) in
    let inside : c.loop-index.index < length old =
    omega (arith, c.loop-index.invariant.0, c.requires, counted, c.loop-index-test.true) in
    let more = one_more_chosen (task_of t) (references_for t) t.width t.height c.loop-index.index
    old c.decide_block.new.blocks.items t.some inside c.loop-index.invariant.1
    c.decide_block.ensures in
    (more.0 ∙ c.loop-index.invariant.0, more.1)

pub returns : goal.returns
returns c =
    let t = c.args.task.now in
    let blocks = c.loop-index.blocks.items in
    let counted : c.div_ceil.result * c.div_ceil-2.result ≡
    blocks_over t.width * blocks_over t.height =
    ap₂ (λ columns rows. columns * rows) (c.div_ceil.ensures ∙ blocks_counted t.width)
    (c.div_ceil-2.ensures ∙ blocks_counted t.height) in
    let count : length blocks ≡ blocks_over t.width * blocks_over t.height =
    c.loop-index.invariant.0 ∙ c.requires in
    let chosen : AreChosen (task_of t) (references_for t) t.width t.height (length blocks) blocks =
    λ index block below got.
    c.loop-index.invariant.1 index block
    (omega (arith, below, count, counted, c.loop-index-test.false)) got in record {
      count = c.loop-index.invariant.0;
      trees = trees_are (task_of t) (references_for t) t.width t.height blocks count chosen;
      moving = moving_trees_are (task_of t) (references_for t) t.width t.height blocks count chosen;
      decoded = decoded_are (task_of t) (references_for t) t.width t.height blocks count chosen;
      names = all_named (task_of t) (references_for t) t.width t.height blocks count chosen;
      moving_names =
          all_moving_named (task_of t) (references_for t) t.width t.height blocks count chosen;
    }
