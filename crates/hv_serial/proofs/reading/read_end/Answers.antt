-- A byte is less than a picture.
use Rattle.std.proofs.Common.{arith}
use Rattle.hv_types.proofs.ConfigurationLemmas.{picture_bytes-least}
use Rattle.hv_serial.proofs.StepLemmas.{picture_fault, picture_none, picture_too_many}
use Rattle.hv_serial.proofs.reading.read_end.Goals as goal

pub returns-in-Err : goal.returns-in-Err
returns-in-Err g c raw =
    picture_fault c.args.config.now _ _
    (omega (
      arith,
      c.fill.auto.buffer,
      picture_bytes-least c.args.config.now c.requires.valid,
    ))
    c.in-Err.ensures.fault c.in-Err.ensures.err

pub returns-in-Ok-eq0 : goal.returns-in-Ok-eq0
returns-in-Ok-eq0 g c raw =
    picture_none _ _ _ _ c.in-Ok-eq0.field-0-test (omega (arith, c.fill.auto.buffer))
    c.in-Ok-eq0.ensures.read c.in-Ok-eq0.ensures.end c.in-Ok-eq0.ensures.no_fault

pub returns-in-Ok : goal.returns-in-Ok
returns-in-Ok g c raw =
    picture_too_many _ _ _ c.in-Ok.field-0-test.1
    (omega (arith, c.in-Ok.ensures.most, c.fill.auto.buffer)) c.in-Ok.ensures.read
    c.in-Ok.ensures.no_fault
