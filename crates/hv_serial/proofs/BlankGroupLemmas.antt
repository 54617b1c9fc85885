-- At effort 0 a group is encoded as one in which nothing is chosen.
use Rattle.std.proofs.Common.{◌≡◌, ℕ, List, [], ◌∷◌, length, map, refl, sym, ap, ap₂, ◌∙◌}
use Rattle.std.specs.Prelude.{replicate}
use Rattle.std.proofs.lemmas.List.{length-map}
use Rattle.hv_types.specs.declared.settings.Settings.{Settings}
use Rattle.hv_types.specs.declared.settings.Emit.{Emit}
use Rattle.hv_types.specs.declared.settings.Emit.TheVariants.{Stream, Recon}
use Rattle.hv_types.specs.declared.picture.Picture.{Picture}
use Rattle.hv_types.specs.Configuration.{IsValid, picture_bytes}
use Rattle.hv_types.specs.Video.{pad, raw, crop}
use Rattle.hv_model.specs.Encoding.{EncodedGroup, encode_group as blank_group, recon_picture}
use Rattle.hv_model.specs.InterPictures.{encode_group}
use Rattle.hv_serial.specs.BlankGroups.{blank_units_of, grey_pictures}
use Rattle.hv_serial.specs.Steps.{emitted}
use Rattle.hv_serial.proofs.GreyLemmas.{grey_bytes}

-- pictures that are shown alike
all_alike : (f : Picture → Picture) (bytes : List ℕ) (pictures : List Picture) →
    ((p : Picture) → raw (f p) ≡ bytes) →
    map raw (map f pictures) ≡ replicate (length pictures) bytes
all_alike f bytes [] same = refl
all_alike f bytes (p ∷ pictures) same =
    ap₂ (λ (x : List ℕ) (xs : List (List ℕ)). x ∷ xs) (same p) (all_alike f bytes pictures same)

-- where so many pictures were padded, and a group of them is blank
module _ (cfg : Settings) (pictures padded : List Picture) (are : map pad pictures ≡ padded)
    (blank : encode_group cfg pictures ≡ blank_group cfg pictures) where
  as_many : length padded ≡ length pictures
  as_many = sym (sym (length-map pictures pad) ∙ ap (λ (ps : List Picture). length ps) are)

  pub units_are : blank_units_of cfg (length padded) ≡ (encode_group cfg pictures).units
  units_are =
      ap (blank_units_of cfg) as_many ∙ sym (ap (λ (g : EncodedGroup). g.units) blank)

  pub shown_are : IsValid cfg → (emit : Emit) →
      grey_pictures emit cfg (length padded) ≡ emitted emit (encode_group cfg pictures).shown
  shown_are valid Stream = refl
  shown_are valid Recon =
      ap (λ (n : ℕ). replicate n (replicate (picture_bytes cfg) 128)) as_many ∙
      sym (all_alike (λ p. crop (recon_picture cfg) cfg.width cfg.height)
      (replicate (picture_bytes cfg) 128) pictures (λ p. grey_bytes cfg valid)) ∙
      sym (ap (λ (g : EncodedGroup). map raw g.shown) blank)
