-- The blocks that are decided are those that are chosen for the picture.
use Rattle.std.proofs.Common.{List, length, subst, ◌∙◌, arith}
use Rattle.hv_block.specs.declared.block.Block.{Block}
use Rattle.hv_serial.specs.CodedBlocks.{HaveUnits}
use Rattle.hv_serial.proofs.GivenPictureLemmas.{are_chosen, few_references, list_zero}
use Rattle.hv_serial.proofs.given.decide_picture.Goals as goal

pub returns : goal.returns
returns c =
    let group = c.args.group.now in
    let given = c.picture_task-task.ensures in
    are_chosen group.input c.args.picture _ c.args.frames.now c.picture_task-task.result given
    c.requires.padded c.requires.found c.requires.references
    (list_zero group.input c.args.picture c.sets_give_the_references.ensures
    (omega (arith, group.count, c.count.ensures.value, c.count.ensures.most))
    c.requires.valid.levels c.requires.picture)
    (few_references group.input c.args.picture c.orders_are_sound.ensures
    (omega (arith, group.count, c.count.ensures.value, c.count.ensures.most))
    c.requires.valid.levels c.requires.picture)
    c.decide_blocks.new.blocks.items
    (c.decide_blocks.ensures.count ∙ c.requires.blocks)
    (subst (λ (list : List Block). HaveUnits (length list) list) c.deref.ensures.value
    c.have_units.ensures)
    (record {
      trees = c.decide_blocks.ensures.trees;
      moving = c.decide_blocks.ensures.moving;
      decoded = c.decide_blocks.ensures.decoded;
      names = c.decide_blocks.ensures.names;
      moving_names = c.decide_blocks.ensures.moving_names;
    })
