-- The block is decided by the edges of the blocks around it, and the others stay.
use Rattle.std.proofs.Common.{refl, subst}
use Rattle.hv_block.specs.declared.edges.Neighbours.{Neighbours}
use Rattle.hv_tree_model.specs.Sites.{site}
use Rattle.hv_mode.specs.Pictures.{task_of, IsChosen}
use Rattle.hv_mode.specs.Vectors.{references_for}
use Rattle.hv_mode.proofs.PictureLemmas.{is_chosen}
use Rattle.hv_mode.proofs.picture.decide_block.Goals as goal

pub returns : goal.returns
returns c =
    let t = c.args.task.now in
    let block = c.decide_ctb.new.out in (
      block,
      refl,
      subst
          (λ (near : Neighbours). IsChosen (task_of t) (references_for t)
          (site t.width t.height c.args.index) near block)
          c.neighbours_of-near.ensures
          (is_chosen _ _ block c.decide_ctb.ensures.decides c.decide_ctb.ensures.names
          c.decide_ctb.ensures.moving_names c.is_whole.ensures.plan c.is_whole.ensures.samples),
    )
