-- Each picture is padded.
use Rattle.std.proofs.Common.{arith}
use Rattle.hv_serial.proofs.PaddedPictureLemmas.{all_stay, one_more_padded}
use Rattle.hv_serial.proofs.group.pictures_are_padded.Goals as goal

pub loop-picture-init : goal.loop-picture-init
loop-picture-init c = λ k p below there. absurd (omega (arith, below))

pub loop-picture-preserved : goal.loop-picture-preserved
loop-picture-preserved c =
    one_more_padded c.args.group.now.input c.loop-picture.picture c.picture.result.now
    c.loop-picture.invariant c.picture.ensures.value c.picture.ensures.padded

pub returns : goal.returns
returns c =
    let group = c.args.group.now.input in
    all_stay group.config group.pictures
    (λ k p below there.
    c.loop-picture.invariant k p
    (omega (arith, below, c.loop-picture-test.false, c.count-picture-end.ensures.value)) there)
