-- The bytes are put into the picture's place.
use Rattle.std.proofs.Common.{List, ℕ, sym, ap, ap₂, ◌∙◌}
use Rattle.std.specs.Prelude.{set}
use Rattle.std.proofs.lemmas.List.{map-set}
use Rattle.hv_types.specs.declared.settings.Settings.{Settings}
use Rattle.hv_types.specs.declared.settings.Emit.{Emit}
use Rattle.hv_types.specs.Video.{raw, crop}
use Rattle.hv_decision.specs.Groups.{GroupOutput}
use Rattle.hv_serial.specs.ShownPictures.{put_in}
use Rattle.hv_serial.proofs.pictures.put_shown.Goals as goal

pub returns-in_ok-output-inside-in-Recon : goal.returns-in_ok-output-inside-in-Recon
returns-in_ok-output-inside-in-Recon c =
    let cfg = c.args.group.now.input.config in
    let emit =
    ap (λ (s : Settings). s.emit) (sym c.config-config.ensures ∙ sym c.settings.ensures.value) ∙
    c.in-Recon.is in
    let old = c.args.output.now in
    let bytes = raw (crop c.args.shown.now cfg.width cfg.height) in
    let is =
    c.in_ok-output-inside-in-Recon.ensures ∙
    ap (λ (s : Settings). raw (crop c.args.shown.now s.width s.height)) c.config-config.ensures in
    record {
      slices = ap (λ (o : GroupOutput). o.slices) c.output.view_is;
      shown =
          map-set (λ s. s.items) c.output.inside.shown.items c.from.result
          c.in_ok-output-inside-in-Recon.field-0 ∙
          ap (λ (list : List (List ℕ)). set list c.from.result
          c.in_ok-output-inside-in-Recon.field-0.items)
          (ap (λ (o : GroupOutput). o.shown) c.output.view_is) ∙
          ap₂ (set old.shown) c.from.ensures is ∙
          sym (ap (λ (e : Emit). put_in e old.shown c.args.picture bytes) emit);
    }
