-- Which pictures stand in the bytes that were taken: those at the front, one more, and those of
-- what is left.
use Rattle.std.proofs.Common.{◌≡◌, ℕ, zero, suc, ◌+◌, ◌-◌, ◌*◌, ◌/◌, ◌<◌, ◌≤◌, List, [], ◌∷◌, ◌++◌, length, take, drop, refl, sym, ap, ap₂, ◌∙◌, arith, length-drop}
use Rattle.std.specs.Prelude.{Option, Some}
use Rattle.std.proofs.Math.Nat.{le-div_iff_mul-le}
use Rattle.std.proofs.lemmas.List.{drop-drop, length-take-le}
use Rattle.std.proofs.lemmas.Nat.{row_fits}
use Rattle.hv_lemmas.specs.Lists.{tabulate}
use Rattle.hv_lemmas.proofs.ListLemmas.{part_of_front, tabulate-same, tabulate_push}
use Rattle.hv_types.specs.declared.settings.Settings.{Settings}
use Rattle.hv_types.specs.declared.picture.Picture.{Picture}
use Rattle.hv_types.specs.Samples.{plane_by_rows}
use Rattle.hv_types.specs.Configuration.{picture_bytes, picture_bytes_of}
use Rattle.hv_types.specs.Video.{picture_of}
use Rattle.hv_serial.specs.Outcomes.{pictures_in, pictures_read}
use Rattle.hv_serial.specs.Steps.{Took}
use Rattle.hv_serial.proofs.ReadingLemmas.{one_told, next_place, places, quotient, read_front}

-- ---- lists

take-tabulate : {A : Type 0} (k n : ℕ) (f : ℕ → A) → k ≤ n →
    take k (tabulate n f) ≡ tabulate k f
unfolding tabulate
take-tabulate zero n f few = refl
take-tabulate (suc k) zero f few = absurd (omega (arith, few))
take-tabulate (suc k) (suc n) f few =
    ap (λ others. f 0 ∷ others) (take-tabulate k n (λ i. f (suc i)) (omega (arith, few)))

tabulate-add : {A : Type 0} (k m : ℕ) (f : ℕ → A) →
    tabulate (k + m) f ≡ tabulate k f ++ tabulate m (λ i. f (k + i))
unfolding tabulate
tabulate-add zero m f =
    let none : 0 + m ≡ m = omega arith in
    ap (λ n. tabulate n f) none ∙
    tabulate-same m f (λ i. f (0 + i))
    (λ i below. let same : i ≡ 0 + i = omega arith in ap f same)
tabulate-add (suc k) m f =
    let next : suc k + m ≡ suc (k + m) = omega arith in
    ap (λ n. tabulate n f) next ∙
    ap (λ others. f 0 ∷ others)
    (tabulate-add k m (λ i. f (suc i)) ∙
    ap (λ last. tabulate k (λ i. f (suc i)) ++ last)
    (tabulate-same m (λ i. f (suc (k + i))) (λ i. f (suc k + i))
    (λ i below. let same : suc (k + i) ≡ suc k + i = omega arith in ap f same)))

-- ---- a picture

made : (w h : ℕ) → List ℕ → List ℕ → List ℕ → Picture
made w h luma cb cr = record {
  luma = plane_by_rows w h luma;
  cb = plane_by_rows (w / 2) (h / 2) cb;
  cr = plane_by_rows (w / 2) (h / 2) cr;
}

-- a picture's bytes are all that it is made of, from a place in a list that has them
picture_inside : (w h j n : ℕ) (xs : List ℕ) → j + picture_bytes_of w h ≤ n →
    picture_of w h (drop j (take n xs)) ≡ picture_of w h (drop j xs)
unfolding made
picture_inside w h j n xs inside =
    let a : ℕ = w * h in
    let c : ℕ = w / 2 * (h / 2) in
    let behind : (k : ℕ) → k + c ≤ picture_bytes_of w h →
    take c (drop k (drop j (take n xs))) ≡ take c (drop k (drop j xs)) =
    λ k room.
    ap (take c) (drop-drop k j (take n xs)) ∙
    part_of_front (j + k) c n xs (omega (arith, inside, room)) ∙
    ap (take c) (sym (drop-drop k j xs)) in
    ap (λ (x : List ℕ). made w h x (take c (drop a (drop j (take n xs))))
    (take c (drop (a + c) (drop j (take n xs)))))
    (part_of_front j a n xs (omega (arith, inside))) ∙
    ap₂ (λ (x y : List ℕ). made w h (take a (drop j xs)) x y)
    (behind a (omega arith)) (behind (a + c) (omega arith))

-- ---- the pictures of a video

at_place : Settings → List ℕ → ℕ → Picture
at_place cfg bytes i = picture_of cfg.width cfg.height (drop (i * picture_bytes cfg) bytes)

module _ (cfg : Settings) (some : 0 < picture_bytes cfg) where
  abbrev p : ℕ
  p = picture_bytes cfg

  -- the first ones
  first_pictures : (k : ℕ) (bytes : List ℕ) → k * p ≤ length bytes →
      take k (pictures_in cfg bytes) ≡ tabulate k (at_place cfg bytes)
  unfolding at_place
  first_pictures k bytes there =
      let few : k ≤ length bytes / p =
      (le-div_iff_mul-le {k = p} {x = k} {y = length bytes} some).1 there in
      take-tabulate k (length bytes / p) (at_place cfg bytes) few

  -- .. and one more, which is that of the next bytes
  pub one_picture_more : (k : ℕ) (bytes : List ℕ) → k * p + p ≤ length bytes →
      take (k + 1) (pictures_in cfg bytes) ≡
      take k (pictures_in cfg bytes) ++
      picture_of cfg.width cfg.height (take p (drop (k * p) bytes)) ∷ []
  unfolding at_place
  one_picture_more k bytes there =
      let next : (k + 1) * p ≡ k * p + p = next_place k p in
      let one : k + 1 ≡ suc k = omega arith in
      let last : at_place cfg bytes k ≡
      picture_of cfg.width cfg.height (take p (drop (k * p) bytes)) =
      sym (picture_inside cfg.width cfg.height 0 p (drop (k * p) bytes) (omega arith)) in
      first_pictures (k + 1) bytes (omega (arith, next, there)) ∙
      ap (λ (n : ℕ). tabulate n (at_place cfg bytes)) one ∙
      tabulate_push k (at_place cfg bytes) ∙
      ap₂ (λ (front : List Picture) (x : Picture). front ++ x ∷ [])
      (sym (first_pictures k bytes (omega (arith, there)))) last

  -- .. and the first ones of the bytes behind them
  pub more_pictures : (k m : ℕ) (bytes : List ℕ) → k * p + m * p ≤ length bytes →
      take (k + m) (pictures_in cfg bytes) ≡
      take k (pictures_in cfg bytes) ++ take m (pictures_in cfg (drop (k * p) bytes))
  unfolding at_place
  more_pictures k m bytes there =
      let behind : List ℕ = drop (k * p) bytes in
      let same : tabulate m (λ i. at_place cfg bytes (k + i)) ≡ tabulate m (at_place cfg behind) =
      tabulate-same m (λ i. at_place cfg bytes (k + i)) (at_place cfg behind)
      (λ i below.
      ap (λ (n : ℕ). picture_of cfg.width cfg.height (drop n bytes)) (places k i p) ∙
      ap (picture_of cfg.width cfg.height) (sym (drop-drop (i * p) (k * p) bytes))) in
      first_pictures (k + m) bytes (omega (arith, places k m p, there)) ∙
      tabulate-add k m (at_place cfg bytes) ∙
      ap₂ (λ (x y : List Picture). x ++ y)
      (sym (first_pictures k bytes (omega (arith, there))))
      (same ∙ sym (first_pictures m behind (omega (arith, length-drop (k * p) bytes, there))))

  -- those in the bytes that were taken, which are k pictures and a part of one
  pub taken_pictures : (k r : ℕ) (bytes left : List ℕ) (now : Option (List ℕ)) →
      Took (k * p + r) bytes now → r < p → now ≡ Some left →
      pictures_read cfg bytes left ≡ take k (pictures_in cfg bytes)
  unfolding at_place
  taken_pictures k r bytes left now took few told =
      let n : ℕ = k * p + r in
      let count : length (take n bytes) / p ≡ k =
      quotient (length (take n bytes)) k p r (length-take-le n bytes took.there) few in
      ap (λ (x : List ℕ). pictures_in cfg (take (length bytes - length x) bytes))
      (one_told now left (drop n bytes) told took.left) ∙
      ap (pictures_in cfg) (read_front bytes n took.there) ∙
      ap (λ (m : ℕ). tabulate m (at_place cfg (take n bytes))) count ∙
      tabulate-same k (at_place cfg (take n bytes)) (at_place cfg bytes)
      (λ i below.
      picture_inside cfg.width cfg.height (i * p) n bytes
      (omega (arith, row_fits i p k p below (omega arith)))) ∙
      sym (first_pictures k bytes (omega (arith, took.there)))
