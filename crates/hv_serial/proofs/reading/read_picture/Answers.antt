-- The buffer has room for just one picture.
use Rattle.std.proofs.Common.{◌≡◌, length, arith, refl, sym, ◌∙◌}
use Rattle.hv_types.specs.Configuration.{picture_bytes}
use Rattle.hv_types.proofs.ConfigurationLemmas.{picture_bytes-least}
use Rattle.hv_serial.proofs.StepLemmas.{picture_fault, picture_none, picture_at}
use Rattle.hv_serial.proofs.reading.read_picture.Goals as goal

pub returns-then-number-eq-MOST_PICTURES : goal.returns-then-number-eq-MOST_PICTURES
returns-then-number-eq-MOST_PICTURES g c =
    picture_at c.args.config.now _ c.args.number c.args.raw.now _ _ _
    (sym c.if-number-eq-MOST_PICTURES.true) refl (c.read_end.ensures c.args.raw.now)

pub returns-in-Err : goal.returns-in-Err
returns-in-Err g c =
    let room : length c.fill.new.buffer ≡ picture_bytes c.args.config.now =
    c.fill.auto.buffer ∙ c.requires.room in
    picture_fault c.args.config.now _ _ (omega (arith, room))
    c.in-Err.ensures.fault c.in-Err.ensures.err

pub returns-in-Ok-eq0 : goal.returns-in-Ok-eq0
returns-in-Ok-eq0 g c =
    let room : length c.fill.new.buffer ≡ picture_bytes c.args.config.now =
    c.fill.auto.buffer ∙ c.requires.room in
    picture_none _ _ _ _ c.in-Ok-eq0.field-0-test
    (omega (arith, room, picture_bytes-least c.args.config.now c.requires.valid))
    c.in-Ok-eq0.ensures.read c.in-Ok-eq0.ensures.end c.in-Ok-eq0.ensures.no_fault
