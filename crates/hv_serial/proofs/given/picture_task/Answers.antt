-- The pictures to which a picture refers are pictures of its group.
use Rattle.std.proofs.Common.{arith}
use Rattle.hv_serial.proofs.GroupPictureLemmas.{reference_below}
use Rattle.hv_serial.proofs.given.picture_task.Goals as goal

pub distance_from-requires-clause-picture : goal.distance_from-requires-clause-picture
distance_from-requires-clause-picture c =
    omega (arith, c.requires.picture, c.count.ensures.value, c.count.ensures.most)

pub distance_from-requires-2-clause-picture : goal.distance_from-requires-2-clause-picture
distance_from-requires-2-clause-picture c =
    omega (arith, c.requires.picture, c.count.ensures.value, c.count.ensures.most)

pub distance_from-requires-clause-reference : goal.distance_from-requires-clause-reference
distance_from-requires-clause-reference c k there =
    let group = c.args.group.now in
    let below =
    reference_below group.input group.structure.count group.structure.levels c.args.picture 0
    c.first-first.result c.frames_serve.ensures c.orders_are_sound.ensures group.count group.levels
    (omega (arith, c.count.ensures.value, c.count.ensures.most))
    (omega (arith, c.levels.ensures.value, c.levels.ensures.most))
    c.requires.picture c.first-first.ensures k there in
    omega (arith, below, c.count.ensures.value, c.count.ensures.most)

pub distance_from-requires-2-clause-reference : goal.distance_from-requires-2-clause-reference
distance_from-requires-2-clause-reference c k there =
    let group = c.args.group.now in
    let below =
    reference_below group.input group.structure.count group.structure.levels c.args.picture 1
    c.second-second.result c.frames_serve.ensures c.orders_are_sound.ensures group.count
    group.levels
    (omega (arith, c.count.ensures.value, c.count.ensures.most))
    (omega (arith, c.levels.ensures.value, c.levels.ensures.most))
    c.requires.picture c.second-second.ensures k there in
    omega (arith, below, c.count.ensures.value, c.count.ensures.most)

pub frame_of-requires : goal.frame_of-requires
frame_of-requires c k there =
    let group = c.args.group.now in
    reference_below group.input group.structure.count group.structure.levels c.args.picture 0
    c.first-first.result c.frames_serve.ensures c.orders_are_sound.ensures group.count group.levels
    (omega (arith, c.count.ensures.value, c.count.ensures.most))
    (omega (arith, c.levels.ensures.value, c.levels.ensures.most))
    c.requires.picture c.first-first.ensures k there

pub frame_of-requires-2 : goal.frame_of-requires-2
frame_of-requires-2 c k there =
    let group = c.args.group.now in
    reference_below group.input group.structure.count group.structure.levels c.args.picture 1
    c.second-second.result c.frames_serve.ensures c.orders_are_sound.ensures group.count
    group.levels
    (omega (arith, c.count.ensures.value, c.count.ensures.most))
    (omega (arith, c.levels.ensures.value, c.levels.ensures.most))
    c.requires.picture c.second-second.ensures k there
