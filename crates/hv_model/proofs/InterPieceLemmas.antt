-- Groups, and pieces of a video, one behind the other behind the parameter sets, decode to what is
-- shown of them.
use Rattle.std.proofs.Common.{◌≡◌, ℕ, ◌≤◌, List, [], ◌∷◌, ◌++◌, refl, sym, ap, ◌∙◌, append-nil}
use Rattle.std.specs.Prelude.{flat_map, Some}
use Rattle.std.proofs.lemmas.Grind.{flat_map-append}
use Rattle.hv_types.specs.declared.settings.Settings.{Settings}
use Rattle.hv_types.specs.declared.picture.Picture.{Picture}
use Rattle.hv_stream_model.specs.Headers.{parameter_sets}
use Rattle.hv_model.specs.Decoding.{decode_of}
use Rattle.hv_model.specs.Encoding.{groups_of}
use Rattle.hv_model.specs.InterPictures.{encode_group, group_bytes}
use Rattle.hv_model.specs.InterStreamLaws.{AreGroups, InterGroupsAreDecoded, InterGroupIsDecoded, InterPiecesAreDecoded}
use Rattle.hv_model.proofs.GroupLemmas.{groups_are}

pub group_decoded : InterGroupsAreDecoded → InterGroupIsDecoded
group_decoded law cfg group valid some few =
    ap (λ bytes. decode_of (parameter_sets cfg ++ bytes))
    (sym (append-nil (group_bytes cfg group))) ∙
    law cfg (group ∷ []) valid (some, few, tt) ∙
    ap (λ pictures. Some pictures) (append-nil (encode_group cfg group).shown)

-- ---- pieces

-- of all groups of pieces, what is made of each piece by its groups
made_of_pieces : {A : Type 0} (cfg : Settings) (made : List Picture → List A)
    (pieces : List (List Picture)) →
    flat_map made (flat_map (groups_of cfg) pieces) ≡
    flat_map (λ piece. flat_map made (groups_of cfg piece)) pieces
made_of_pieces cfg made [] = refl
made_of_pieces cfg made (piece ∷ pieces) =
    flat_map-append made (groups_of cfg piece) (flat_map (groups_of cfg) pieces) ∙
    ap (λ others. flat_map made (groups_of cfg piece) ++ others) (made_of_pieces cfg made pieces)

both_groups : (size : ℕ) (front behind : List (List Picture)) → AreGroups size front →
    AreGroups size behind → AreGroups size (front ++ behind)
both_groups size [] behind first second = second
both_groups size (group ∷ front) behind first second =
    (first.0, first.1, both_groups size front behind first.2 second)

pieces_are : (cfg : Settings) (pieces : List (List Picture)) → 1 ≤ cfg.group →
    AreGroups cfg.group (flat_map (groups_of cfg) pieces)
pieces_are cfg [] some = tt
pieces_are cfg (piece ∷ pieces) some =
    both_groups cfg.group (groups_of cfg piece) (flat_map (groups_of cfg) pieces)
    (groups_are cfg piece some) (pieces_are cfg pieces some)

pub pieces_decoded : InterGroupsAreDecoded → InterPiecesAreDecoded
pieces_decoded law cfg pieces valid =
    ap (λ bytes. decode_of (parameter_sets cfg ++ bytes))
    (sym (made_of_pieces cfg (group_bytes cfg) pieces)) ∙
    law cfg (flat_map (groups_of cfg) pieces) valid (pieces_are cfg pieces valid.group_least) ∙
    ap (λ pictures. Some pictures)
    (made_of_pieces cfg (λ group. (encode_group cfg group).shown) pieces)
