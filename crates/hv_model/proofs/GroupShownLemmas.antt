-- What is shown of a group whose pictures are decoded: all of them, by rising count (C.5.2.2).
use Rattle.std.proofs.Common.{◌≡◌, ℕ, ◌+◌, Bool, true, false, List, [], ◌∷◌, ◌++◌, length, map, refl, sym, ap, ap₂, ◌∙◌, arith}
use Rattle.std.specs.Prelude.{◌&&◌, nat_eq, cond, filter, flat_map, Option, Some, None, option_map}
use Rattle.std.proofs.lemmas.List.{map-append}
use Rattle.hv_types.specs.declared.settings.Settings.{Settings}
use Rattle.hv_types.specs.declared.picture.Picture.{Picture}
use Rattle.hv_group_model.specs.Structure.{Coded, coding, rising}
use Rattle.hv_stream_model.specs.Headers.{Size, most_count}
use Rattle.hv_tree_model.specs.Trees.{CodingTreeUnit}
use Rattle.hv_model.specs.Parsing.{CodedPicture}
use Rattle.hv_model.specs.Reconstruction.{DecodedPicture}
use Rattle.hv_model.specs.Decoding.{has_count, decoded_from, are_different, counts_of, decoded_sequence, by_count, cropped, shown_sequence}
use Rattle.hv_model.proofs.OrderLemmas.{numbers_of, in_order, IsGood}
use Rattle.hv_model.proofs.KeepingLemmas.{AreDecodedTo, shown_at, coded_at, count_in, group_decoded}
use Rattle.hv_stream_model.proofs.StreamLemmas.{same_bytes-true}

-- lists of one value are the same where they have the same length
pub alike : {A B C : Type 0} (value : C) (a : List A) (b : List B) → length a ≡ length b →
    map (λ x. value) a ≡ map (λ y. value) b
alike value [] [] e = refl
alike value [] (y ∷ b) e = absurd (omega arith)
alike value (x ∷ a) [] e = absurd (omega arith)
alike value (x ∷ a) (y ∷ b) e = ap (λ rest. value ∷ rest) (alike value a b (omega arith))

module _ (size : Size) (shown_as : ℕ → Picture) where
  those_of_count : (n : ℕ) (counts : List ℕ) →
      filter (has_count n) (map (shown_at shown_as) counts) ≡
      map (shown_at shown_as) (filter (nat_eq n) counts)
  those_of_count n [] = refl
  those_of_count n (k ∷ counts) = go (nat_eq n k) (those_of_count n counts)
    where
      go : (t : Bool) →
          filter (has_count n) (map (shown_at shown_as) counts) ≡
          map (shown_at shown_as) (filter (nat_eq n) counts) →
          cond t
          (shown_at shown_as k ∷ filter (has_count n) (map (shown_at shown_as) counts))
          (filter (has_count n) (map (shown_at shown_as) counts)) ≡
          map (shown_at shown_as) (cond t (k ∷ filter (nat_eq n) counts) (filter (nat_eq n) counts))
      go true e = ap (λ rest. shown_at shown_as k ∷ rest) e
      go false e = e

  by_counts : (numbers counts : List ℕ) →
      flat_map (λ n. filter (has_count n) (map (shown_at shown_as) counts)) numbers ≡
      map (shown_at shown_as) (flat_map (λ n. filter (nat_eq n) counts) numbers)
  by_counts [] counts = refl
  by_counts (n ∷ numbers) counts =
      ap₂ (λ first others. first ++ others) (those_of_count n counts) (by_counts numbers counts) ∙
      sym (map-append (shown_at shown_as) (filter (nat_eq n) counts)
      (flat_map (λ m. filter (nat_eq m) counts) numbers))

  numbers_shown : (order : List Coded) →
      map (λ c. shown_at shown_as c.picture) order ≡ map (shown_at shown_as) (numbers_of order)
  numbers_shown [] = refl
  numbers_shown (c ∷ order) = ap (λ rest. shown_at shown_as c.picture ∷ rest) (numbers_shown order)

  all_cropped : (counts : List ℕ) →
      map (λ d. cropped size d.picture) (map (shown_at shown_as) counts) ≡
      map (λ n. cropped size (shown_as n)) counts
  all_cropped [] = refl
  all_cropped (n ∷ counts) = ap (λ rest. cropped size (shown_as n) ∷ rest) (all_cropped counts)

  module _
      (cfg : Settings) (count : ℕ) (good : IsGood count (coding count cfg.levels))
      (units : ℕ → List CodingTreeUnit) (same : AreDecodedTo size shown_as cfg count units) where
    counts_are : (order : List Coded) →
        counts_of (map (coded_at size shown_as cfg count good units same) order) ≡ numbers_of order
    counts_are [] = refl
    counts_are (c ∷ order) =
        ap₂ (λ n rest. n ∷ rest) (count_in size shown_as cfg count good units same c.picture)
        (counts_are order)

    sequence_decoded : (d : Bool) (found : Option (List DecodedPicture))
        (pictures : List DecodedPicture) → d ≡ true → found ≡ Some pictures →
        cond (true && d) found None ≡ Some pictures
    sequence_decoded d found pictures e f = rw (e, f) refl

    -- the pictures of the group, in their order
    pub group_shown :
        shown_sequence
        (record {
          size = size;
          pictures =
              map (coded_at size shown_as cfg count good units same) (coding count cfg.levels);
        }) ≡
        Some (map (λ n. cropped size (shown_as n)) (rising count 0))
    group_shown =
        let order : List Coded = coding count cfg.levels in
        let all : List CodedPicture =
        map (coded_at size shown_as cfg count good units same) order in
        let decoded : decoded_sequence (record { size = size; pictures = all }) ≡
        Some (map (λ c. shown_at shown_as c.picture) order) =
        sequence_decoded (are_different (counts_of all)) (decoded_from size [] all)
        (map (λ c. shown_at shown_as c.picture) order)
        (ap are_different (counts_are order) ∙ good.different)
        (group_decoded size shown_as cfg count good units same) in
        let sorted : by_count (map (λ c. shown_at shown_as c.picture) order) ≡
        map (shown_at shown_as) (rising count 0) =
        ap by_count (numbers_shown order) ∙
        by_counts (rising (most_count + 1) 0) (numbers_of order) ∙
        ap (map (shown_at shown_as))
        (same_bytes-true (in_order (numbers_of order)) (rising count 0) good.shown) in
        ap (option_map (λ ps. map (λ d. cropped size d.picture) (by_count ps))) decoded ∙
        ap (λ ps. Some (map (λ d. cropped size d.picture) ps)) sorted ∙
        ap (λ ps. Some ps) (all_cropped (rising count 0))
