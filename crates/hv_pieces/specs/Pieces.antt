-- A video in pieces: its stream, from the streams of its pieces.
use Rattle.std.specs.Prelude.{◌≡◌, ℕ, ◌<◌, ◌*◌, ⊤, List, [], ◌∷◌, ◌++◌, length, map, flat_map, take, drop, Some}
use Rattle.hv_types.specs.declared.settings.Settings.{Settings}
use Rattle.hv_types.specs.declared.picture.Picture.{Picture}
use Rattle.hv_types.specs.Configuration.{IsValid}
use Rattle.hv_stream_model.specs.Headers.{parameter_sets}
use Rattle.hv_model.specs.Decoding.{decode_of}
use Rattle.hv_model.specs.InterPictures.{encode_of, recon_of}

-- some pictures, which are so many whole groups
pub record AreWholeGroups (cfg : Settings) (pictures : List Picture) : Type 0 where
  pub groups : ℕ
  pub some : 0 < length pictures
  pub whole : length pictures ≡ groups * cfg.group

-- what stands behind the parameter sets (7.3.2) of a stream
abbrev pub without_sets : Settings → List ℕ → List ℕ
without_sets cfg stream = drop (length (parameter_sets cfg)) stream

abbrev pub StreamsBeginWithSets : Type 0
StreamsBeginWithSets =
    (cfg : Settings) (pictures : List Picture) → 0 < length pictures →
    take (length (parameter_sets cfg)) (encode_of cfg pictures) ≡ parameter_sets cfg

-- The stream of whole groups and of pictures behind them is joined of those of both ..
abbrev pub StreamsAreJoined : Type 0
StreamsAreJoined =
    (cfg : Settings) (front behind : List Picture) → AreWholeGroups cfg front →
    encode_of cfg (front ++ behind) ≡
    encode_of cfg front ++ without_sets cfg (encode_of cfg behind)

-- .. as the reconstructed pictures are ..
abbrev pub ReconstructionsAreJoined : Type 0
ReconstructionsAreJoined =
    (cfg : Settings) (front behind : List Picture) → AreWholeGroups cfg front →
    recon_of cfg (front ++ behind) ≡ recon_of cfg front ++ recon_of cfg behind

-- .. and as what is decoded.
abbrev pub JoinedStreamsAreDecoded : Type 0
JoinedStreamsAreDecoded =
    (cfg : Settings) (front behind : List Picture) → IsValid cfg → AreWholeGroups cfg front →
    decode_of (encode_of cfg front ++ without_sets cfg (encode_of cfg behind)) ≡
    Some (recon_of cfg front ++ recon_of cfg behind)

-- ---- many pieces

-- each but the last one is whole groups
abbrev pub AreCutAtGroups : Settings → List (List Picture) → Type 0
AreCutAtGroups cfg [] = ⊤
AreCutAtGroups cfg (piece ∷ []) = ⊤
AreCutAtGroups cfg (piece ∷ next ∷ pieces) =
    AreWholeGroups cfg piece × AreCutAtGroups cfg (next ∷ pieces)

-- streams one behind the other, the later ones without their parameter sets
abbrev pub joined : Settings → List (List ℕ) → List ℕ
joined cfg [] = []
joined cfg (stream ∷ streams) = stream ++ flat_map (without_sets cfg) streams

abbrev pub ManyStreamsAreJoined : Type 0
ManyStreamsAreJoined =
    (cfg : Settings) (pieces : List (List Picture)) → AreCutAtGroups cfg pieces →
    encode_of cfg (flat_map (λ piece. piece) pieces) ≡ joined cfg (map (encode_of cfg) pieces)
