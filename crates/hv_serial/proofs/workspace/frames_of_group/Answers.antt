-- One frame more is there.
use Rattle.hv_serial.proofs.FrameLemmas.{new_frame, one_frame_more}
use Rattle.hv_serial.proofs.workspace.frames_of_group.Goals as goal

pub loop-index-preserved : goal.loop-index-preserved
loop-index-preserved c =
    one_frame_more c.args.config.now c.loop-index.frames.items c.push.new.self.items
    c.in_ok-new.field-0 c.loop-index._index c.loop-index.invariant c.in_ok-push.ensures.items
    (new_frame c.args.config.now c.in_ok-new.field-0 c.in_ok-new.ensures.padded
    c.in_ok-new.ensures.sao)
