-- Whichever groups of pictures a stream has behind its parameter sets, it decodes to what is shown
-- of them: to all of a video, to some groups of it, to one, or to pieces of several.
use Rattle.std.specs.Prelude.{◌≡◌, ℕ, ◌≤◌, ⊤, List, [], ◌∷◌, ◌++◌, length, flat_map, Some}
use Rattle.hv_types.specs.declared.settings.Settings.{Settings}
use Rattle.hv_types.specs.declared.picture.Picture.{Picture}
use Rattle.hv_types.specs.Configuration.{IsValid}
use Rattle.hv_stream_model.specs.Headers.{parameter_sets}
use Rattle.hv_model.specs.Decoding.{decode_of}
use Rattle.hv_model.specs.Encoding.{groups_of}
use Rattle.hv_model.specs.InterPictures.{encode_group, group_bytes, recon_of}

-- Each of them has a picture, and no more than a group may have: no other needs to be there.
abbrev pub AreGroups : ℕ → List (List Picture) → Type 0
AreGroups size [] = ⊤
AreGroups size (group ∷ groups) =
    (1 ≤ length group) × (length group ≤ size) × AreGroups size groups

abbrev pub InterGroupsAreDecoded : Type 0
InterGroupsAreDecoded =
    (cfg : Settings) (groups : List (List Picture)) → IsValid cfg → AreGroups cfg.group groups →
    decode_of (parameter_sets cfg ++ flat_map (group_bytes cfg) groups) ≡
    Some (flat_map (λ group. (encode_group cfg group).shown) groups)

-- so each group by itself
abbrev pub InterGroupIsDecoded : Type 0
InterGroupIsDecoded =
    (cfg : Settings) (group : List Picture) → IsValid cfg → 1 ≤ length group →
    length group ≤ cfg.group →
    decode_of (parameter_sets cfg ++ group_bytes cfg group) ≡ Some (encode_group cfg group).shown

-- what the stream of these pictures has behind its parameter sets
abbrev pub behind_sets : Settings → List Picture → List ℕ
behind_sets cfg pictures = flat_map (group_bytes cfg) (groups_of cfg pictures)

-- so pieces of a video, wherever it is cut
abbrev pub InterPiecesAreDecoded : Type 0
InterPiecesAreDecoded =
    (cfg : Settings) (pieces : List (List Picture)) → IsValid cfg →
    decode_of (parameter_sets cfg ++ flat_map (behind_sets cfg) pieces) ≡
    Some (flat_map (recon_of cfg) pieces)
