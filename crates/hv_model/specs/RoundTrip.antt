-- What is written decodes to what is shown.
use Rattle.std.specs.Prelude.{◌≡◌, List, length, Some}
use Rattle.hv_types.specs.declared.settings.Settings.{Settings}
use Rattle.hv_types.specs.Configuration.{IsValid}
use Rattle.hv_types.specs.declared.picture.Picture.{Picture}
use Rattle.hv_model.specs.Encoding.{encode_of, recon_of}
use Rattle.hv_model.specs.Decoding.{decode_of}

-- The pictures that the encoded stream shows are the reconstructed ones, in groups of any size.
abbrev pub DecodingGivesReconstruction : Type 0
DecodingGivesReconstruction =
    (cfg : Settings) (pictures : List Picture) →
    IsValid cfg → cfg.effort ≡ 0 → decode_of (encode_of cfg pictures) ≡ Some (recon_of cfg pictures)

-- There is a reconstructed picture for each picture.
abbrev pub EachIsReconstructed : Type 0
EachIsReconstructed =
    (cfg : Settings) (pictures : List Picture) → length (recon_of cfg pictures) ≡ length pictures
