-- Each unit is that of the next picture in coding order.
use Rattle.std.proofs.Common.{◌≡◌, [], ◌∷◌, ◌++◌, length, ap, ◌∙◌, arith}
use Rattle.hv_decision.proofs.EachStructureLemmas.{length-coding}
use Rattle.hv_group_model.specs.Structure.{coding}
use Rattle.hv_serial.specs.BlankGroups.{blank_unit}
use Rattle.hv_serial.proofs.UnitLemmas.{coded_more, all_coded}
use Rattle.hv_serial.proofs.group.code_blank_pictures.Goals as goal

pub loop-place-preserved : goal.loop-place-preserved
loop-place-preserved c =
    let group = c.args.group.now in
    let cfg = group.input.config in
    let n = length group.input.pictures in
    let long : length (coding n cfg.levels) ≡ n =
    length-coding n cfg.levels (omega (arith, group.some))
    (omega (arith, group.count, c.count-place-end.ensures.value, c.count-place-end.ensures.most))
    c.requires.valid.levels in (
      ap (λ o. o.slices) c.in_ok-push_slice.ensures.ok ∙
          ap (λ units. units ++ c.in_ok-unit.unit.items ∷ []) c.loop-place.invariant.0 ∙
          coded_more cfg (blank_unit cfg n) n group.structure.count group.structure.levels c.loop-place.place
          c.in_ok-unit.unit.items
          (omega (
            arith,
            long,
            c.loop-place-test.true,
            c.count-place-end.ensures.value,
            group.count,
          ))
          group.count group.levels
          (c.in_ok-unit.ensures ∙ ap (λ k. blank_unit cfg n k) c.order.ensures.value),
      ap (λ o. o.shown) c.in_ok-push_slice.ensures.ok ∙ c.loop-place.invariant.1,
    )

pub returns-clause-slices : goal.returns-clause-slices
returns-clause-slices c =
    let group = c.args.group.now in
    let cfg = group.input.config in
    let n = length group.input.pictures in
    let long : length (coding n cfg.levels) ≡ n =
    length-coding n cfg.levels (omega (arith, group.some))
    (omega (arith, group.count, c.count-place-end.ensures.value, c.count-place-end.ensures.most))
    c.requires.valid.levels in
    all_coded cfg (blank_unit cfg n) n c.loop-place.place c.loop-place.output.slices c.loop-place.invariant.0
    (omega (
      arith,
      long,
      c.loop-place-test.false,
      c.count-place-end.ensures.value,
      group.count,
    ))
