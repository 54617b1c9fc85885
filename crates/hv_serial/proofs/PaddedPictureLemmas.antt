-- A group of padded pictures is coded as the pictures that they were padded from: padding keeps
-- them as they are.
use Rattle.std.proofs.Common.{◌≡◌, ℕ, zero, suc, ◌+◌, ◌-◌, ◌/◌, ◌<◌, ◌≤◌, List, [], ◌∷◌, length, map, min, inl, inr, refl, sym, ap, ap₂, ◌∙◌, subst, arith}
use Rattle.std.specs.Prelude.{slice_index_or, slice_get, Some, ◌⊎◌}
use Rattle.std.proofs.lemmas.Bool.{cases_lt}
use Rattle.std.proofs.lemmas.List.{length-map}
use Rattle.hv_lemmas.specs.Lists.{tabulate}
use Rattle.hv_lemmas.proofs.ListLemmas.{maps_same}
use Rattle.hv_lemmas.proofs.OptionLemmas.{some_same}
use Rattle.hv_types.specs.declared.settings.Settings.{Settings}
use Rattle.hv_types.specs.declared.picture.Picture.{Picture}
use Rattle.hv_types.specs.Configuration.{next_multiple}
use Rattle.hv_types.specs.Samples.{Plane, IsPlane, sample_at, pad_plane}
use Rattle.hv_types.specs.Video.{IsPadded, pad, padded_side, crop}
use Rattle.hv_types.specs.GroupInput.{GroupInput}
use Rattle.hv_types.proofs.SampleLemmas.{plane_is}
use Rattle.hv_group_model.specs.Structure.{Coded, coding, place_in, rising}
use Rattle.hv_filter_model.specs.FlatPictures.{flat_picture}
use Rattle.hv_model.specs.IntraPictures.{input_picture}
use Rattle.hv_slice_model.specs.Slices.{header_in, list_0, picture_sites, unit_of_slice}
use Rattle.hv_search_model.specs.MotionSearch.{motion}
use Rattle.hv_stream_model.specs.Units.{unit_bytes}
use Rattle.hv_model.specs.InterPictures.{PictureSource, source_behind, coded_units, recon_picture, recon_within, recon_at, picture_unit, picture_shown, encode_group}

-- ---- a padded picture

plane_stays : (w h a b : ℕ) (p : Plane) → IsPlane w h p → a ≡ w → b ≡ h → pad_plane p a b ≡ p
plane_stays w h a b p it wide high =
    ap₂ (λ m n. pad_plane p m n) wide high ∙
    sym (plane_is w h (λ x y. sample_at p (min x (p.width - 1)) (min y (p.height - 1))) p it
    (λ x y across down.
    let column : x ≡ min x (p.width - 1) = omega (arith, it.wide) in
    let row : y ≡ min y (p.height - 1) = omega (arith, it.high) in
    ap₂ (λ c r. sample_at p c r) column row))

side_stays : (n side : ℕ) → n ≡ next_multiple 8 side → padded_side n ≡ next_multiple 8 side
side_stays n side e = omega (arith, e)

pub pad_stays : (cfg : Settings) (p : Picture) → IsPadded cfg p → pad p ≡ p
pad_stays cfg p is =
    let wide = side_stays p.luma.width cfg.width is.luma.wide in
    let high = side_stays p.luma.height cfg.height is.luma.high in
    let luma = plane_stays _ _ _ _ p.luma is.luma wide high in
    let cb = plane_stays _ _ _ _ p.cb is.cb (ap (λ n. n / 2) wide) (ap (λ n. n / 2) high) in
    let cr = plane_stays _ _ _ _ p.cr is.cr (ap (λ n. n / 2) wide) (ap (λ n. n / 2) high) in
    λ i. record { luma = luma i; cb = cb i; cr = cr i }

-- each picture of a list is padded, so all stay
pub all_stay : (cfg : Settings) (pictures : List Picture) →
    ((k : ℕ) (p : Picture) → k < length pictures → slice_get pictures k ≡ Some p → IsPadded cfg p) →
    map pad pictures ≡ pictures
all_stay cfg [] each = refl
all_stay cfg (p ∷ pictures) each =
    ap₂ (λ q rest. q ∷ rest)
    (pad_stays cfg p (each 0 p (omega arith) refl))
    (all_stay cfg pictures (λ k q below there. each (suc k) q (omega (arith, below)) there))

-- one more of them
pub one_more_padded : (group : GroupInput) (n : ℕ) (one : Picture) →
    ((k : ℕ) (p : Picture) → k < n → slice_get group.pictures k ≡ Some p →
    IsPadded group.config p) →
    slice_get group.pictures n ≡ Some one → IsPadded group.config one →
    (k : ℕ) (p : Picture) → k < n + 1 → slice_get group.pictures k ≡ Some p →
    IsPadded group.config p
one_more_padded group n one before here padded k p below there = by_place (cases_lt k n)
  where
    by_place : (k < n) ⊎ (n ≤ k) → IsPadded group.config p
    by_place (inl earlier) = before k p earlier there
    by_place (inr later) =
        let same : n ≡ k = omega (arith, later, below) in
        subst (IsPadded group.config)
        (some_same one p (sym here ∙ ap (slice_get group.pictures) same ∙ there)) padded

-- ---- its number

-- what stands for a picture that isn't there has no samples, padded or not
pub padded_of : (pictures : List Picture) (number : ℕ) →
    slice_index_or (map pad pictures) number (flat_picture 0 0 0 0 0) ≡
    input_picture pictures number
unfolding tabulate
padded_of [] number = refl
padded_of (picture ∷ pictures) zero = refl
padded_of (picture ∷ pictures) (suc number) = padded_of pictures number

-- ---- a group

module _ (cfg : Settings) (pictures padded : List Picture) (are : map pad pictures ≡ padded)
    (stay : map pad padded ≡ padded) where
  as_many : length padded ≡ length pictures
  as_many = sym (sym (length-map pictures pad) ∙ ap (λ (ps : List Picture). length ps) are)

  input_same : (number : ℕ) → input_picture padded number ≡ input_picture pictures number
  input_same number =
      sym (padded_of padded number) ∙
      ap (λ list. slice_index_or list number (flat_picture 0 0 0 0 0)) (stay ∙ sym are) ∙
      padded_of pictures number

  source_same : (one other : ℕ → Picture) → one ≡ other → (number : ℕ) →
      source_behind cfg padded one number ≡ source_behind cfg pictures other number
  source_same one other same number =
      let count = as_many in
      let inputs = input_same number in
      let found = ap (λ (ps : List Picture). motion (record { config = cfg; pictures = ps }) number)
      (stay ∙ sym are) in
      λ i. record {
        header = header_in cfg (count i) number;
        references =
            map (λ n. record { PicOrderCntVal = n; picture = same i n })
            (list_0 (header_in cfg (count i) number));
        vectors = found i;
        input = inputs i;
      }

  within_same : (places number : ℕ) →
      recon_within cfg padded places number ≡ recon_within cfg pictures places number
  unfolding recon_within
  within_same zero number = refl
  within_same (suc places) number =
      ap (recon_picture cfg)
      (source_same (recon_within cfg padded places) (recon_within cfg pictures places)
      (λ i n. within_same places n i) number)

  recon_same : (number : ℕ) → recon_at cfg padded number ≡ recon_at cfg pictures number
  recon_same number =
      within_same (suc (place_in (coding (length padded) cfg.levels) number)) number ∙
      ap (λ (n : ℕ). recon_within cfg pictures (suc (place_in (coding n cfg.levels) number)) number)
      as_many

  units_same : (number : ℕ) → picture_unit cfg padded number ≡ picture_unit cfg pictures number
  units_same number =
      let sources =
      source_same (recon_at cfg padded) (recon_at cfg pictures) (λ i n. recon_same n i) number in
      let count = as_many in
      λ i. unit_from (count i) (sources i)
    where
      unit_from : ℕ → PictureSource → List ℕ
      unit_from n source =
          unit_bytes
          (unit_of_slice (header_in cfg n number) (picture_sites cfg) (coded_units cfg source))

  pub group_same : encode_group cfg padded ≡ encode_group cfg pictures
  group_same =
      let units : (encode_group cfg padded).units ≡ (encode_group cfg pictures).units =
      maps_same (λ (c : Coded). picture_unit cfg padded c.picture)
      (λ (c : Coded). picture_unit cfg pictures c.picture)
      (coding (length padded) cfg.levels) (λ c. units_same c.picture) ∙
      ap (λ (n : ℕ). map (λ (c : Coded). picture_unit cfg pictures c.picture)
      (coding n cfg.levels)) as_many in
      let shown : (encode_group cfg padded).shown ≡ (encode_group cfg pictures).shown =
      maps_same (picture_shown cfg padded) (picture_shown cfg pictures) (rising (length padded) 0)
      (λ number. ap (λ (p : Picture). crop p cfg.width cfg.height) (recon_same number)) ∙
      ap (λ (n : ℕ). map (picture_shown cfg pictures) (rising n 0)) as_many in
      λ i. record { units = units i; shown = shown i }
