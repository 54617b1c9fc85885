-- The groups of a video, and how its stream grows with them.
use Rattle.std.proofs.Common.{◌≡◌, ℕ, zero, suc, ◌-◌, ◌*◌, ◌<◌, ◌≤◌, List, [], ◌∷◌, ◌++◌, length, take, drop, refl, sym, ap, ap₂, ◌∙◌, arith, append_assoc, append-nil, length-append, length-drop}
use Rattle.std.specs.Prelude.{map, flat_map}
use Rattle.std.proofs.Math.Nat.{suc-mul}
use Rattle.std.proofs.lemmas.List.{drop-append-le, take-append-le, take_all, length-take, length-map}
use Rattle.std.proofs.lemmas.Grind.{flat_map-append}
use Rattle.hv_types.specs.declared.settings.Settings.{Settings}
use Rattle.hv_types.specs.declared.picture.Picture.{Picture}
use Rattle.hv_group_model.specs.Structure.{coding}
use Rattle.hv_stream_model.specs.Headers.{parameter_sets}
use Rattle.hv_types.specs.Video.{crop}
use Rattle.hv_model.specs.Encoding.{picture_unit, recon_picture, encode_group, group_bytes, groups_within, groups_of}
use Rattle.hv_model.specs.EncodingLaws.{IsNextGroup, EncodingAppends, ReconstructionAppends, EncodingIgnoresSamples}
use Rattle.hv_model.specs.RoundTrip.{EachIsReconstructed}
use Rattle.hv_model.specs.InterStreamLaws.{AreGroups}

-- ---- groups

-- more groups than there are pictures don't come
within_more : (most more size : ℕ) (pictures : List Picture) → length pictures ≤ most →
    length pictures ≤ more → groups_within most size pictures ≡ groups_within more size pictures
within_more most more size [] few less = refl
within_more zero more size (picture ∷ pictures) few less = absurd (omega arith)
within_more (suc most) zero size (picture ∷ pictures) few less = absurd (omega arith)
within_more (suc most) (suc more) size (picture ∷ pictures) few less =
    let shorter = length-drop (size - 1) pictures in
    ap (λ groups. (picture ∷ take (size - 1) pictures) ∷ groups)
    (within_more most more size (drop (size - 1) pictures) (omega (arith, shorter))
    (omega (arith, shorter)))

no_pictures : (pictures : List Picture) → length pictures ≡ 0 → pictures ≡ []
no_pictures [] e = refl
no_pictures (picture ∷ pictures) e = absurd (omega arith)

one_within : (most size : ℕ) (group : List Picture) → length group ≤ most → 0 < length group →
    length group ≤ size → groups_within most size group ≡ group ∷ []
one_within most size [] few some small = absurd (omega arith)
one_within zero size (picture ∷ pictures) few some small = absurd (omega arith)
one_within (suc most) size (picture ∷ pictures) few some small =
    let room : length pictures ≤ size - 1 = omega (arith, small) in
    let none : drop (size - 1) pictures ≡ [] =
    no_pictures (drop (size - 1) pictures) (omega (arith, room, length-drop (size - 1) pictures)) in
    ap₂ (λ front behind. (picture ∷ front) ∷ groups_within most size behind)
    (take_all (size - 1) pictures room) none

-- one more group behind so many whole ones
within_next : (groups most size : ℕ) (pictures group : List Picture) →
    length pictures ≡ groups * size → 0 < length group → length group ≤ size →
    length (pictures ++ group) ≤ most →
    groups_within most size (pictures ++ group) ≡ groups_within most size pictures ++ group ∷ []
within_next groups most size [] group whole some small few =
    one_within most size group few some small
within_next zero most size (picture ∷ pictures) group whole some small few =
    absurd (omega (arith, whole))
within_next (suc groups) zero size (picture ∷ pictures) group whole some small few =
    absurd (omega (arith, few))
within_next (suc groups) (suc most) size (picture ∷ pictures) group whole some small few =
    let room : size - 1 ≤ length pictures =
    omega (arith, whole, suc-mul groups size, some, small) in
    let left = length-drop (size - 1) pictures in
    let joined = drop-append-le (size - 1) pictures group room in
    ap₂ (λ front behind. (picture ∷ front) ∷ groups_within most size behind)
    (take-append-le (size - 1) pictures group room) joined ∙
    ap (λ others. (picture ∷ take (size - 1) pictures) ∷ others)
    (within_next groups most size (drop (size - 1) pictures) group
    (omega (arith, left, whole, suc-mul groups size, some, small)) some small
    (omega (
      arith,
      few,
      length-append pictures group,
      length-append (drop (size - 1) pictures) group,
      left,
    )))

pub groups_more : (cfg : Settings) (groups : ℕ) (pictures group : List Picture) →
    IsNextGroup cfg groups pictures group →
    groups_of cfg (pictures ++ group) ≡ groups_of cfg pictures ++ group ∷ []
groups_more cfg groups pictures group next =
    let most : ℕ = length (pictures ++ group) in
    within_next groups most cfg.group pictures group next.whole next.some next.few
    (omega arith) ∙
    ap (λ front. front ++ group ∷ [])
    (within_more most (length pictures) cfg.group pictures
    (omega (arith, length-append pictures group)) (omega arith))

-- each of them has a picture, and no more than a group may have
within_are : (most size : ℕ) (pictures : List Picture) → 1 ≤ size →
    AreGroups size (groups_within most size pictures)
within_are most size [] some = tt
within_are zero size (picture ∷ pictures) some = tt
within_are (suc most) size (picture ∷ pictures) some = (
  omega arith,
  omega (arith, some, length-take (size - 1) pictures),
  within_are most size (drop (size - 1) pictures) some,
)

pub groups_are : (cfg : Settings) (pictures : List Picture) → 1 ≤ cfg.group →
    AreGroups cfg.group (groups_of cfg pictures)
groups_are cfg pictures some = within_are (length pictures) cfg.group pictures some

-- ---- the stream, whatever is written for a group

pub joined_last : {A : Type 0} (written : List Picture → List A) (groups : List (List Picture))
    (group : List Picture) →
    flat_map written (groups ++ group ∷ []) ≡ flat_map written groups ++ written group
joined_last written groups group =
    flat_map-append written groups (group ∷ []) ∙
    ap (λ last. flat_map written groups ++ last) (append-nil (written group))

module _ (written : List Picture → List ℕ) (cfg : Settings) where
  -- the first group
  pub first_written : (groups : ℕ) (group : List Picture) → IsNextGroup cfg groups [] group →
      parameter_sets cfg ++ flat_map written (groups_of cfg group) ≡
      parameter_sets cfg ++ written group
  first_written groups group next =
      ap (λ gs. parameter_sets cfg ++ flat_map written gs) (groups_more cfg groups [] group next) ∙
      ap (λ bytes. parameter_sets cfg ++ bytes) (append-nil (written group))

  -- one more behind others
  pub next_written : (groups : ℕ) (pictures group : List Picture) →
      IsNextGroup cfg groups pictures group →
      parameter_sets cfg ++ flat_map written (groups_of cfg (pictures ++ group)) ≡
      parameter_sets cfg ++ flat_map written (groups_of cfg pictures) ++ [] ++ written group
  next_written groups pictures group next =
      let sets : List ℕ = parameter_sets cfg in
      let before : List ℕ = flat_map written (groups_of cfg pictures) in
      ap (λ gs. sets ++ flat_map written gs) (groups_more cfg groups pictures group next) ∙
      ap (λ bytes. sets ++ bytes) (joined_last written (groups_of cfg pictures) group) ∙
      sym (append_assoc sets before (written group)) ∙
      ap (λ bytes. bytes ++ written group) (sym (append-nil (sets ++ before)))

-- the pictures that are shown of it
pub shown_behind : (shown : List Picture → List Picture) (cfg : Settings) (groups : ℕ)
    (pictures group : List Picture) → IsNextGroup cfg groups pictures group →
    flat_map shown (groups_of cfg (pictures ++ group)) ≡
    flat_map shown (groups_of cfg pictures) ++ shown group
shown_behind shown cfg groups pictures group next =
    ap (flat_map shown) (groups_more cfg groups pictures group next) ∙
    joined_last shown (groups_of cfg pictures) group

pub encoding_appends : EncodingAppends
encoding_appends cfg groups [] [] next = absurd (omega (arith, next.some))
encoding_appends cfg groups [] (first ∷ group) next =
    first_written (group_bytes cfg) cfg groups (first ∷ group) next
encoding_appends cfg groups (first ∷ pictures) group next =
    next_written (group_bytes cfg) cfg groups (first ∷ pictures) group next

pub reconstruction_appends : ReconstructionAppends
reconstruction_appends cfg = shown_behind (λ group. (encode_group cfg group).shown) cfg

-- ---- samples

bytes_alike : (cfg : Settings) (a b : List Picture) → length a ≡ length b →
    group_bytes cfg a ≡ group_bytes cfg b
bytes_alike cfg a b e =
    ap
    (λ n. flat_map (λ unit. unit)
    (map (λ coded. picture_unit cfg n coded.picture) (coding n cfg.levels)))
    e

within_alike : (cfg : Settings) (most size : ℕ) (a b : List Picture) → length a ≡ length b →
    flat_map (group_bytes cfg) (groups_within most size a) ≡
    flat_map (group_bytes cfg) (groups_within most size b)
within_alike cfg most size [] [] e = refl
within_alike cfg most size [] (y ∷ b) e = absurd (omega arith)
within_alike cfg most size (x ∷ a) [] e = absurd (omega arith)
within_alike cfg zero size (x ∷ a) (y ∷ b) e = refl
within_alike cfg (suc most) size (x ∷ a) (y ∷ b) e =
    ap₂ (λ first others. first ++ others)
    (bytes_alike cfg (x ∷ take (size - 1) a) (y ∷ take (size - 1) b)
    (omega (arith, e, length-take (size - 1) a, length-take (size - 1) b)))
    (within_alike cfg most size (drop (size - 1) a) (drop (size - 1) b)
    (omega (arith, e, length-drop (size - 1) a, length-drop (size - 1) b)))

all_alike : (cfg : Settings) (a b : List Picture) → length a ≡ length b →
    flat_map (group_bytes cfg) (groups_of cfg a) ≡ flat_map (group_bytes cfg) (groups_of cfg b)
all_alike cfg a b e =
    ap (λ n. flat_map (group_bytes cfg) (groups_within n cfg.group a)) e ∙
    within_alike cfg (length b) cfg.group a b e

pub encoding_ignores : EncodingIgnoresSamples
encoding_ignores cfg [] [] e = refl
encoding_ignores cfg [] (other ∷ others) e = absurd (omega arith)
encoding_ignores cfg (picture ∷ pictures) [] e = absurd (omega arith)
encoding_ignores cfg (picture ∷ pictures) (other ∷ others) e =
    ap (λ bytes. parameter_sets cfg ++ bytes)
    (all_alike cfg (picture ∷ pictures) (other ∷ others) e)

-- ---- as many reconstructed pictures

module _
    (shown : List Picture → List Picture)
    (each : (group : List Picture) → length (shown group) ≡ length group) where
  within_many : (most size : ℕ) (pictures : List Picture) → length pictures ≤ most →
      length (flat_map shown (groups_within most size pictures)) ≡ length pictures
  within_many most size [] few = refl
  within_many zero size (picture ∷ pictures) few = absurd (omega arith)
  within_many (suc most) size (picture ∷ pictures) few =
      let group : List Picture = picture ∷ take (size - 1) pictures in
      let behind : List Picture = drop (size - 1) pictures in
      let others : List Picture = flat_map shown (groups_within most size behind) in
      let many : length others ≡ length behind =
      within_many most size behind (omega (arith, few, length-drop (size - 1) pictures)) in
      omega (
        arith,
        length-append (shown group) others,
        many,
        each group,
        length-take (size - 1) pictures,
        length-drop (size - 1) pictures,
      )

  -- where there are as many for each group
  pub groups_reconstructed : (cfg : Settings) (pictures : List Picture) →
      length (flat_map shown (groups_of cfg pictures)) ≡ length pictures
  groups_reconstructed cfg pictures =
      within_many (length pictures) cfg.group pictures (omega arith)

pub each_reconstructed : EachIsReconstructed
each_reconstructed cfg pictures =
    groups_reconstructed (λ group. (encode_group cfg group).shown)
    (λ group. length-map group (λ picture. crop (recon_picture cfg) cfg.width cfg.height))
    cfg pictures
