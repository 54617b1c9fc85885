-- How the stream of a video grows with its pictures.
use Rattle.std.specs.Prelude.{◌≡◌, ℕ, ◌<◌, ◌≤◌, ◌*◌, List, [], ◌∷◌, ◌++◌, length}
use Rattle.hv_types.specs.declared.settings.Settings.{Settings}
use Rattle.hv_types.specs.declared.picture.Picture.{Picture}
use Rattle.hv_stream_model.specs.Headers.{parameter_sets}
use Rattle.hv_model.specs.Encoding.{group_bytes, encode_group, encode_of, recon_of}

-- what is written between these pictures and one group more: the parameter sets before the first
-- picture
abbrev pub sets_behind : Settings → List Picture → List ℕ
sets_behind cfg [] = parameter_sets cfg
sets_behind cfg (picture ∷ pictures) = []

-- behind so many whole groups, these pictures are one more group, which may have fewer pictures
pub record IsNextGroup (cfg : Settings) (groups : ℕ) (pictures group : List Picture) : Type 0 where
  pub whole : length pictures ≡ groups * cfg.group
  pub some : 0 < length group
  pub few : length group ≤ cfg.group

-- One more group behind whole groups adds its bytes at the end ..
abbrev pub EncodingAppends : Type 0
EncodingAppends =
    (cfg : Settings) (groups : ℕ) (pictures group : List Picture) →
    IsNextGroup cfg groups pictures group →
    encode_of cfg (pictures ++ group) ≡
    encode_of cfg pictures ++ sets_behind cfg pictures ++ group_bytes cfg group

-- .. and its reconstructed pictures.
abbrev pub ReconstructionAppends : Type 0
ReconstructionAppends =
    (cfg : Settings) (groups : ℕ) (pictures group : List Picture) →
    IsNextGroup cfg groups pictures group →
    recon_of cfg (pictures ++ group) ≡ recon_of cfg pictures ++ (encode_group cfg group).shown

-- So far nothing is chosen by the samples: the stream depends on the number of pictures alone.
abbrev pub EncodingIgnoresSamples : Type 0
EncodingIgnoresSamples =
    (cfg : Settings) (pictures others : List Picture) → length pictures ≡ length others →
    encode_of cfg pictures ≡ encode_of cfg others
