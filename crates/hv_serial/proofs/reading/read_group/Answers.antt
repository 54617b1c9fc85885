-- Each picture is one more of the group; what ends the reading of a picture ends that of the group.
use Rattle.std.proofs.Common.{◌+◌, arith, ap, ◌∙◌}
use Rattle.std.specs.Prelude.{Ok, Err, true, false}
use Rattle.hv_serial.proofs.ProgressLemmas.{some_bytes}
use Rattle.hv_serial.proofs.StepLemmas.{picture_at, part_next, group_ended, group_error, group_no_memory}
use Rattle.hv_serial.proofs.reading.read_group.Goals as goal

pub returns-in-Ok-false : goal.returns-in-Ok-false
returns-in-Ok-false g c =
    group_ended _ _ c.loop-count.count _ _ _ _ _ _ _ c.loop-count.invariant.0
    (omega (arith, c.loop-count-test.true, ap (λ s. s.group) c.settings-count-end.ensures.value))
    (picture_at _ _ _ _ _ _ (Ok false) (ap (λ n. c.args.before + n) c.from.ensures)
    (c.in-Ok-false.is ∙ ap Ok c.in-Ok-false.field-0-test) c.read_picture.ensures)

pub returns-in-Err : goal.returns-in-Err
returns-in-Err g c =
    group_error _ _ c.loop-count.count _ _ _ _ _ _ _ c.loop-count.invariant.0
    (omega (arith, c.loop-count-test.true, ap (λ s. s.group) c.settings-count-end.ensures.value))
    c.read_picture.new.raw c.in-Err.error
    (picture_at _ _ _ _ _ _ (Err c.in-Err.error) (ap (λ n. c.args.before + n) c.from.ensures)
    c.in-Err.is c.read_picture.ensures)

pub returns-in_default-push : goal.returns-in_default-push
returns-in_default-push g c =
    group_no_memory _ _ c.loop-count.count _ _ _ _ _ _ _ c.loop-count.invariant.0
    c.read_picture.new.raw
    (picture_at _ _ _ _ _ _ (Ok true) (ap (λ n. c.args.before + n) c.from.ensures)
    (c.in-Ok-true.is ∙ ap Ok c.in-Ok-true.field-0-test) c.read_picture.ensures)

pub loop-count-preserved : goal.loop-count-preserved
loop-count-preserved g c = (
  part_next _ _ c.loop-count.count _ _ _ _ _ _ _ c.loop-count.invariant.0
      (some_bytes _ c.requires.valid) _ _
      c.in-Ok-push.ensures.ok
      (picture_at _ _ _ _ _ _ (Ok true) (ap (λ n. c.args.before + n) c.from.ensures)
      (c.in-Ok-true.is ∙ ap Ok c.in-Ok-true.field-0-test) c.read_picture.ensures),
  c.read_picture.auto.raw ∙ c.loop-count.invariant.1,
)
