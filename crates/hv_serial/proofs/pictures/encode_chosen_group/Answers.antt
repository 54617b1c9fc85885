-- Each picture is coded in turn, and in the end all are.
use Rattle.std.proofs.Common.{length, sym, subst, arith}
use Rattle.hv_decision.proofs.EachStructureLemmas.{length-coding}
use Rattle.hv_model.specs.InterPictures.{picture_unit}
use Rattle.hv_serial.specs.GroupPictures.{EmittedTo}
use Rattle.hv_serial.proofs.GroupPictureLemmas.{nothing_held, nothing_emitted, all_emitted}
use Rattle.hv_serial.proofs.UnitLemmas.{all_coded}
use Rattle.hv_serial.proofs.pictures.encode_chosen_group.Goals as goal

pub loop-place-init : goal.loop-place-init
loop-place-init c =
    let group = c.args.group.now.input in (
      c.requires.space,
      nothing_held group _,
      record {
        slices = c.in_ok-output.ensures.slices;
        shown =
            subst (EmittedTo group.config.emit group 0) (sym c.in_ok-output.ensures.shown)
            (nothing_emitted group.config.emit group);
      },
    )

pub returns-clause-slices : goal.returns-clause-slices
returns-clause-slices c =
    let group = c.args.group.now in
    let cfg = group.input.config in
    let n = length group.input.pictures in
    let long =
    length-coding n cfg.levels (omega (arith, group.some))
    (omega (arith, group.count, c.count-place-end.ensures.value, c.count-place-end.ensures.most))
    c.requires.valid.levels in
    let output = c.loop-place.invariant.2 in
    all_coded cfg (picture_unit cfg group.input.pictures) n c.loop-place.place
    c.loop-place.output.slices output.slices
    (omega (
      arith,
      long,
      c.loop-place-test.false,
      c.count-place-end.ensures.value,
      group.count,
    ))

pub returns-clause-shown : goal.returns-clause-shown
returns-clause-shown c =
    let group = c.args.group.now in
    let cfg = group.input.config in
    let n = length group.input.pictures in
    let order =
    c.orders_are_sound.ensures n cfg.levels (omega (arith, group.some))
    (omega (arith, group.count, c.count-place-end.ensures.value, c.count-place-end.ensures.most))
    c.requires.valid.levels in
    let output = c.loop-place.invariant.2 in
    all_emitted cfg.emit group.input c.loop-place.place c.loop-place.output.shown order
    (omega (arith, c.loop-place-test.false, c.count-place-end.ensures.value, group.count))
    output.shown
