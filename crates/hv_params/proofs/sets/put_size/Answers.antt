-- The sides, and the window behind them.
use Rattle.std.proofs.Common.{subst, sym, ap₂, ◌-◌, ◌/◌, [], ◌∷◌}
use Rattle.hv_bits.specs.Writing.{Appends}
use Rattle.hv_stream_model.specs.Fields.{bits_of_fields, ue}
use Rattle.hv_stream_model.specs.Headers.{size_of, window}
use Rattle.hv_params.proofs.sets.put_size.Goals as goal

pub returns : goal.returns
returns c =
    let width = c.padded_width-width in
    let height = c.padded_height-height in
    let size = size_of c.args.config.now in
    let settings = c.settings-settings.ensures.value in
    let sides = subst
    (λ w. Appends c.args.writer.now c.put_fields.new.writer
    (bits_of_fields (ue w ∷ ue height.result ∷ [])))
    width.ensures.value c.put_fields.ensures in
    let right = ap₂ (λ w s. (w - s.width) / 2) (sym width.ensures.value) (sym settings) in
    let bottom = ap₂ (λ h s. (h - s.height) / 2) (sym height.ensures.value) (sym settings) in
    c.tables_join.ensures _ _ _
    (ue size.pic_width_in_luma_samples ∷ ue size.pic_height_in_luma_samples ∷ []) (window size)
    (subst
    (λ h. Appends c.args.writer.now c.put_fields.new.writer
    (bits_of_fields (ue size.pic_width_in_luma_samples ∷ ue h ∷ [])))
    height.ensures.value sides)
    (c.put_window.ensures size right bottom)
