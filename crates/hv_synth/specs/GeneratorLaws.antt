-- What holds of generated video.
use Rattle.std.specs.Prelude.{◌≡◌, [], length, All}
use Rattle.std.specs.List.{flat_map}
use Rattle.hv_types.specs.Configuration.{IsValid, pictures_asked}
use Rattle.hv_types.specs.Video.{IsPicture, HasBytes, raw, pictures, rest}
use Rattle.hv_types.specs.declared.settings.Settings.{Settings}
use Rattle.hv_synth.specs.Generator.{generated}

-- The video is as long as was asked, of whole pictures of bytes. Its bytes read as its pictures,
-- and none is left over.
pub record IsVideo (s : Settings) : Type 0 where
  pub count : length (generated s) ≡ pictures_asked s.synth
  pub whole : All (IsPicture s.width s.height) (generated s)
  pub bytes : All HasBytes (generated s)
  pub pictures_again : pictures s.width s.height (flat_map raw (generated s)) ≡ generated s
  pub rest_again : rest s.width s.height (flat_map raw (generated s)) ≡ []

abbrev pub GeneratedIsVideo : Type 0
GeneratedIsVideo = (s : Settings) → IsValid s → IsVideo s
