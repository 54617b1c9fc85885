-- What is made of a video by its groups is joined of what is made of its pieces.
use Rattle.std.proofs.Common.{◌≡◌, ℕ, zero, suc, ◌+◌, ◌-◌, ◌*◌, ◌/◌, ◌%◌, ◌<◌, ◌≤◌, List, [], ◌∷◌, ◌++◌, length, take, drop, map, refl, sym, ap, ◌∙◌, arith, append_assoc, append-nil, length-append, length-drop, add-mul, mul-zero, lt_of_mul-lt-mul_right, mul-le-mul_right, le-mul_of_pos_right}
use Rattle.std.specs.Prelude.{flat_map}
use Rattle.std.proofs.Math.Seq.{drop-append_seam, take-append_seam}
use Rattle.std.proofs.lemmas.List.{length-take-le, take-append-drop, drop-append-le}
use Rattle.std.proofs.lemmas.Nat.{div-add-mod', mod_below}
use Rattle.hv_types.specs.declared.settings.Settings.{Settings}
use Rattle.hv_types.specs.declared.picture.Picture.{Picture}
use Rattle.hv_stream_model.specs.Headers.{parameter_sets}
use Rattle.hv_model.specs.Encoding.{groups_of}
use Rattle.hv_model.specs.EncodingLaws.{IsNextGroup}
use Rattle.hv_model.specs.InterEncodingLaws.{InterEncodingAppends, InterReconstructionAppends}
use Rattle.hv_model.specs.InterPictures.{encode_group, encode_of, group_bytes, recon_of}
use Rattle.hv_pieces.specs.Pieces.{AreWholeGroups, without_sets, StreamsBeginWithSets, StreamsAreJoined, ReconstructionsAreJoined, AreCutAtGroups, joined, ManyStreamsAreJoined}

positive : (n g : ℕ) → 0 < n * g → 0 < g
positive n zero h = absurd (omega (arith, h, mul-zero n))
positive n (suc g) h = omega arith

group_has : (cfg : Settings) (pictures : List Picture) → AreWholeGroups cfg pictures →
    0 < cfg.group
group_has cfg pictures h = positive h.groups cfg.group (omega (arith, h.some, h.whole))

-- ---- whatever grows by its groups

module _ {A : Type 0} (cfg : Settings) (some : 0 < cfg.group) (made : List Picture → List A)
    (own : List Picture → List A) (none : made [] ≡ [])
    (appends : (groups : ℕ) (pictures group : List Picture) →
    IsNextGroup cfg groups pictures group → made (pictures ++ group) ≡ made pictures ++ own group)
  where
    abbrev g : ℕ
    g = cfg.group

    joined_within : (most groups : ℕ) (front behind : List Picture) →
        length front ≡ groups * g → length behind ≤ most * g →
        made (front ++ behind) ≡ made front ++ made behind
    joined_within most groups front [] whole few =
        ap made (append-nil front) ∙ sym (append-nil (made front)) ∙
        ap (λ x. made front ++ x) (sym none)
    joined_within zero groups front (picture ∷ pictures) whole few = absurd (omega (arith, few))
    joined_within (suc most) groups front (picture ∷ pictures) whole few =
        let all : List Picture = picture ∷ pictures in
        let m : ℕ = length pictures / g in
        let early : List Picture = take (m * g) all in
        let last : List Picture = drop (m * g) all in
        let parts : m * g + length pictures % g ≡ length pictures =
        div-add-mod' (length pictures) g in
        let short : length pictures % g < g = mod_below (length pictures) g some in
        let early_has : length early ≡ m * g = length-take-le (m * g) all (omega (arith, parts)) in
        let last_has : length last ≡ length all - m * g = length-drop (m * g) all in
        let fewer : m < suc most =
        lt_of_mul-lt-mul_right g {m = m} {n = suc most} (omega (arith, parts, few)) in
        let inside : length early ≤ most * g =
        omega (arith, early_has, mul-le-mul_right {m = m} {n = most} g (omega (arith, fewer))) in
        let next_early : IsNextGroup cfg m early last = record {
          whole = early_has;
          some = omega (arith, last_has, parts);
          few = omega (arith, last_has, parts, short);
        } in
        let next_all : IsNextGroup cfg (groups + m) (front ++ early) last = record {
          whole = omega (arith, length-append front early, whole, early_has, add-mul groups m g);
          some = omega (arith, last_has, parts);
          few = omega (arith, last_has, parts, short);
        } in
        let split : all ≡ early ++ last = sym (take-append-drop (m * g) all) in
        ap (λ x. made (front ++ x)) split ∙
        ap made (sym (append_assoc front early last)) ∙
        appends (groups + m) (front ++ early) last next_all ∙
        ap (λ x. x ++ own last) (joined_within most groups front early whole inside) ∙
        append_assoc (made front) (made early) (own last) ∙
        ap (λ x. made front ++ x)
        (sym (appends m early last next_early) ∙ ap made (sym split))

    joined_at_groups : (front behind : List Picture) → AreWholeGroups cfg front →
        made (front ++ behind) ≡ made front ++ made behind
    joined_at_groups front behind h =
        joined_within (length behind) h.groups front behind h.whole
        (omega (arith, le-mul_of_pos_right {m = g} (length behind) some))

-- ---- reconstructed pictures

pub reconstructions_are_joined : InterReconstructionAppends → ReconstructionsAreJoined
reconstructions_are_joined law cfg front behind h =
    joined_at_groups cfg (group_has cfg front h) (recon_of cfg)
    (λ group. (encode_group cfg group).shown) refl (law cfg) front behind h

-- ---- streams

no_bytes : List ℕ
no_bytes = []

drop_none : (n : ℕ) → drop n no_bytes ≡ no_bytes
unfolding no_bytes
drop_none zero = refl
drop_none (suc n) = refl

body : Settings → List Picture → List ℕ
body cfg pictures = without_sets cfg (encode_of cfg pictures)

-- the stream of some pictures is the parameter sets and its body
sets_in_front : (cfg : Settings) (picture : Picture) (pictures : List Picture) →
    encode_of cfg (picture ∷ pictures) ≡ parameter_sets cfg ++ body cfg (picture ∷ pictures)
unfolding body
sets_in_front cfg picture pictures =
    ap (λ x. parameter_sets cfg ++ x)
    (sym (drop-append_seam (parameter_sets cfg)
    (flat_map (group_bytes cfg) (groups_of cfg (picture ∷ pictures)))))

pub streams_begin_with_sets : StreamsBeginWithSets
streams_begin_with_sets cfg [] some = absurd (omega (arith, some))
streams_begin_with_sets cfg (picture ∷ pictures) some =
    take-append_seam (parameter_sets cfg)
    (flat_map (group_bytes cfg) (groups_of cfg (picture ∷ pictures)))

module _ (law : InterEncodingAppends) (cfg : Settings) where
  abbrev sets : List ℕ
  sets = parameter_sets cfg

  body_appends : (groups : ℕ) (pictures group : List Picture) →
      IsNextGroup cfg groups pictures group →
      body cfg (pictures ++ group) ≡ body cfg pictures ++ group_bytes cfg group
  unfolding body no_bytes
  body_appends groups [] group next =
      ap (without_sets cfg) (law cfg groups [] group next) ∙
      drop-append_seam sets (group_bytes cfg group) ∙
      ap (λ x. x ++ group_bytes cfg group) (sym (drop_none (length sets)))
  body_appends groups (picture ∷ pictures) group next =
      let before : List ℕ = flat_map (group_bytes cfg) (groups_of cfg (picture ∷ pictures)) in
      let bytes : List ℕ = group_bytes cfg group in
      ap (without_sets cfg)
      (law cfg groups (picture ∷ pictures) group next ∙
      ap (λ x. x ++ bytes) (append-nil (sets ++ before)) ∙ append_assoc sets before bytes) ∙
      drop-append_seam sets (before ++ bytes) ∙
      ap (λ x. x ++ bytes) (sym (drop-append_seam sets before))

  streams_joined : (front behind : List Picture) → AreWholeGroups cfg front →
      encode_of cfg (front ++ behind) ≡ encode_of cfg front ++ body cfg behind
  unfolding body no_bytes
  streams_joined [] behind h = absurd (omega (arith, h.some))
  streams_joined (picture ∷ pictures) behind h =
      sets_in_front cfg picture (pictures ++ behind) ∙
      ap (λ x. sets ++ x)
      (joined_at_groups cfg (group_has cfg (picture ∷ pictures) h) (body cfg) (group_bytes cfg)
      (drop_none (length sets)) body_appends (picture ∷ pictures) behind h) ∙
      sym (append_assoc sets (body cfg (picture ∷ pictures)) (body cfg behind)) ∙
      ap (λ x. x ++ body cfg behind) (sym (sets_in_front cfg picture pictures))

pub streams_are_joined : InterEncodingAppends → StreamsAreJoined
unfolding body
streams_are_joined law cfg front behind h = streams_joined law cfg front behind h

-- ---- many pieces

all_of : List (List Picture) → List Picture
all_of pieces = flat_map (λ piece. piece) pieces

module _ (law : StreamsAreJoined) (cfg : Settings) where
  -- what is behind the parameter sets of the streams of pieces
  bodies_joined : (piece : List Picture) (pieces : List (List Picture)) →
      AreCutAtGroups cfg (piece ∷ pieces) →
      without_sets cfg (joined cfg (map (encode_of cfg) (piece ∷ pieces))) ≡
      flat_map (without_sets cfg) (map (encode_of cfg) (piece ∷ pieces))
  bodies_joined piece [] cut =
      ap (without_sets cfg) (append-nil (encode_of cfg piece)) ∙
      sym (append-nil (without_sets cfg (encode_of cfg piece)))
  bodies_joined [] (next ∷ pieces) cut = absurd (omega (arith, cut.0.some))
  bodies_joined (picture ∷ pictures) (next ∷ pieces) cut =
      let later : List ℕ = flat_map (without_sets cfg) (map (encode_of cfg) (next ∷ pieces)) in
      let before : List ℕ = flat_map (group_bytes cfg) (groups_of cfg (picture ∷ pictures)) in
      drop-append-le (length (parameter_sets cfg)) (encode_of cfg (picture ∷ pictures)) later
      (omega (arith, length-append (parameter_sets cfg) before))

  many_joined : (pieces : List (List Picture)) → AreCutAtGroups cfg pieces →
      encode_of cfg (flat_map (λ piece. piece) pieces) ≡ joined cfg (map (encode_of cfg) pieces)
  many_joined [] cut = refl
  many_joined (piece ∷ []) cut =
      ap (encode_of cfg) (append-nil piece) ∙ sym (append-nil (encode_of cfg piece))
  many_joined (piece ∷ next ∷ pieces) cut =
      law cfg piece (flat_map (λ p. p) (next ∷ pieces)) cut.0 ∙
      ap (λ x. encode_of cfg piece ++ x)
      (ap (without_sets cfg) (many_joined (next ∷ pieces) cut.1) ∙
      bodies_joined next pieces cut.1)

pub many_streams_are_joined : StreamsAreJoined → ManyStreamsAreJoined
many_streams_are_joined law cfg pieces cut = many_joined law cfg pieces cut
