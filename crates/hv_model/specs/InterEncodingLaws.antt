-- How the stream of a video grows with its pictures, whose units are predicted from other pictures
-- too.
use Rattle.std.specs.Prelude.{◌≡◌, ℕ, List, ◌++◌}
use Rattle.hv_types.specs.declared.settings.Settings.{Settings}
use Rattle.hv_types.specs.declared.picture.Picture.{Picture}
use Rattle.hv_model.specs.EncodingLaws.{IsNextGroup, sets_behind}
use Rattle.hv_model.specs.InterPictures.{group_bytes, encode_group, encode_of, recon_of}

-- One more group behind whole groups adds its bytes at the end ..
abbrev pub InterEncodingAppends : Type 0
InterEncodingAppends =
    (cfg : Settings) (groups : ℕ) (pictures group : List Picture) →
    IsNextGroup cfg groups pictures group →
    encode_of cfg (pictures ++ group) ≡
    encode_of cfg pictures ++ sets_behind cfg pictures ++ group_bytes cfg group

-- .. and its reconstructed pictures.
abbrev pub InterReconstructionAppends : Type 0
InterReconstructionAppends =
    (cfg : Settings) (groups : ℕ) (pictures group : List Picture) →
    IsNextGroup cfg groups pictures group →
    recon_of cfg (pictures ++ group) ≡ recon_of cfg pictures ++ (encode_group cfg group).shown
