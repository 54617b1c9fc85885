-- The pictures of a group are decoded: what each set names is kept (8.3.2), where the units of each
-- picture are decoded to its picture.
use Rattle.std.proofs.Common.{◌≡◌, ℕ, zero, suc, ◌+◌, ◌-◌, ◌<◌, ◌≤◌, Bool, true, false, List, [], ◌∷◌, ◌++◌, length, map, take, drop, refl, sym, ap, ap₂, ◌∙◌, subst, arith, inl, inr, append_assoc, eq-eqb, eqb-true}
use Rattle.std.specs.Prelude.{◌⊎◌, ◌&&◌, ◌||◌, nat_eq, nat_lt, not, cond, filter, Option, Some, option_and_then, option_map}
use Rattle.std.specs.List.{list_all, list_any}
use Rattle.std.proofs.lemmas.Bool.{and_parts, ltb-true, or_right, false≢true, cases_lt, not-true, and_from, cases_Bool}
use Rattle.std.proofs.lemmas.Bool.Decides.{nat_tests}
use Rattle.std.proofs.lemmas.List.Folds.{list_any-append}
use Rattle.std.proofs.Math.Seq.{take-append_seam, drop-append_seam}
use Rattle.hv_types.specs.declared.settings.Settings.{Settings}
use Rattle.hv_types.specs.declared.picture.Picture.{Picture}
use Rattle.hv_group_model.specs.Structure.{Coded, coded, coding, blocks, anchors, is_among, is_referred, is_kept, place_in, falling, rising}
use Rattle.hv_stream_model.specs.Headers.{Size, SliceHeader}
use Rattle.hv_tree_model.specs.Trees.{CodingTreeUnit}
use Rattle.hv_slice_model.specs.Slices.{count_of, set_counts, list_0, header_in}
use Rattle.hv_model.specs.Parsing.{CodedPicture}
use Rattle.hv_model.specs.Reconstruction.{DecodedPicture, reconstructed}
use Rattle.hv_model.specs.Decoding.{has_count, found_then, named, decoded_picture, decoded_from, are_different}
use Rattle.hv_model.proofs.MembershipLemmas.{either, or_left, Among, AllAmong, among_first, among_behind, among_left, among_right, among_passes, among_stays, among_falling, among_rising}
use Rattle.hv_model.proofs.OrderLemmas.{numbers_of, IsGood}
use Rattle.hv_model.proofs.ReferenceLemmas.{list_named, others_of, set_of_kept}

-- ---- places

-- a picture that isn't among those before it is found at its place
found_case : (t : Bool) (n m : ℕ) → t ≡ false → n ≡ m → cond t 0 (suc n) ≡ suc m
found_case true n m e f = absurd (false≢true (sym e))
found_case false n m e f = ap suc f

not_later : (n : ℕ) (done : List Coded) (c : Coded) (rest : List Coded) →
    list_any (nat_eq n) (numbers_of (done ++ c ∷ rest)) ≡ false → nat_eq n c.picture ≡ false
not_later n [] c rest e = go (nat_eq n c.picture) e
  where
    go : (t : Bool) → (t || list_any (nat_eq n) (numbers_of rest)) ≡ false → t ≡ false
    go true e = e
    go false e = refl
not_later n (d ∷ done) c rest e =
    not_later n done c rest
    (go (nat_eq n d.picture) (list_any (nat_eq n) (numbers_of (done ++ c ∷ rest))) e)
  where
    go : (t u : Bool) → (t || u) ≡ false → u ≡ false
    go true u e = absurd (false≢true (sym e))
    go false u e = e

pub place_of : (done : List Coded) (c : Coded) (rest : List Coded) →
    are_different (numbers_of (done ++ c ∷ rest)) ≡ true →
    place_in (done ++ c ∷ rest) c.picture ≡ length done
place_of [] c rest e = rw (eq-eqb c.picture c.picture refl) refl
place_of (d ∷ done) c rest e =
    let both = and_parts (not (list_any (nat_eq d.picture) (numbers_of (done ++ c ∷ rest))))
    (are_different (numbers_of (done ++ c ∷ rest))) e in
    found_case (nat_eq d.picture c.picture) (place_in (done ++ c ∷ rest) c.picture) (length done)
    (not_later d.picture done c rest
    (not-true (list_any (nat_eq d.picture) (numbers_of (done ++ c ∷ rest))) both.0))
    (place_of done c rest both.1)

-- ---- what is kept before a picture

kept_here : (done : List Coded) (c : Coded) (rest : List Coded) (place other : ℕ) →
    place ≡ length done →
    is_kept (done ++ c ∷ rest) place other ≡ (is_among done other && is_referred (c ∷ rest) other)
kept_here done c rest place other e =
    ap₂ (λ a b. is_among a other && is_referred b other)
    (ap (λ n. take n (done ++ c ∷ rest)) e ∙ take-append_seam done (c ∷ rest))
    (ap (λ n. drop n (done ++ c ∷ rest)) e ∙ drop-append_seam done (c ∷ rest))

below_order : (count other : ℕ) (order : List Coded) →
    list_all (λ c. nat_lt c.picture count) order ≡ true → is_among order other ≡ true →
    other < count
below_order count other [] all h = absurd (false≢true h)
below_order count other (c ∷ order) all h =
    let both = and_parts (nat_lt c.picture count) (list_all (λ c. nat_lt c.picture count) order) all in
    elim (either (nat_eq c.picture other) (is_among order other) h) as (λ _. other < count) [
      | inl here ↦ let same : c.picture ≡ other = eqb-true c.picture other here in
          let small : c.picture < count = ltb-true c.picture count both.0 in
          omega (arith, same, small)
      | inr there ↦ below_order count other order both.1 there
    ]

other_among : (count k other : ℕ) → k < count → other < count → nat_eq other k ≡ false →
    Among other (others_of count k)
other_among count k other below small apart =
    elim (cases_lt other k) as (λ _. Among other (others_of count k)) [
      | inl before ↦ among_left other (falling k) (rising (count - 1 - k) (k + 1))
          (among_falling other k before)
      | inr behind ↦ among_right other (falling k) (rising (count - 1 - k) (k + 1))
          (among_rising other (count - 1 - k) (k + 1) (above other k behind apart)
          (omega (arith, small, below)))
    ]
  where
    above : (other k : ℕ) → k ≤ other → nat_eq other k ≡ false → k + 1 ≤ other
    above other k low apart = grind (arith, nat_tests)

-- the set of a picture, where these were coded before it and these come with it
pub record SetIsKept (done : List Coded) (k : ℕ) (rest : List Coded) (set : List ℕ) : Type 0 where
  pub sound : (other : ℕ) → Among other set →
      (is_among done other ≡ true) × (is_referred rest other ≡ true)
  pub whole : (other : ℕ) → nat_eq other k ≡ false → is_among done other ≡ true →
      is_referred rest other ≡ true → Among other set

among_all : (done : List Coded) (c : Coded) (rest : List Coded) (other : ℕ) →
    is_among done other ≡ true → is_among (done ++ c ∷ rest) other ≡ true
among_all done c rest other h =
    list_any-append (λ d. nat_eq d.picture other) done (c ∷ rest) ∙
    or_left (is_among done other) (is_among (c ∷ rest) other) h

module _ (cfg : Settings) (count : ℕ) (good : IsGood count (coding count cfg.levels)) where
  set_kept : (k : ℕ) (done : List Coded) (c : Coded) (rest : List Coded) → c.picture ≡ k →
      coding count cfg.levels ≡ done ++ c ∷ rest → (k ≡ 0 → done ≡ []) →
      SetIsKept done k (c ∷ rest) (set_counts (header_in cfg count k))
  set_kept zero done c rest at whole first = record {
    sound = λ other h. absurd (false≢true h);
    whole = λ other apart among referred.
        absurd (false≢true (subst (λ d. is_among d other ≡ true) (first refl) among));
  }
  set_kept (suc k) done c rest at whole first =
      let all : List Coded = coding count cfg.levels in
      let place : ℕ = place_in all (suc k) in
      let there : place ≡ length done =
      ap (place_in all) (sym at) ∙ ap (λ o. place_in o c.picture) whole ∙
      place_of done c rest (ap (λ o. are_different (numbers_of o)) (sym whole) ∙ good.different) in
      let kept : (other : ℕ) →
      is_kept all place other ≡ (is_among done other && is_referred (c ∷ rest) other) =
      λ other. ap (λ o. is_kept o place other) whole ∙ kept_here done c rest place other there in
      let is : set_counts (header_in cfg count (suc k)) ≡
      filter (is_kept all place) (others_of count (suc k)) =
      set_of_kept count cfg.levels cfg.qp k in
      let small : (other : ℕ) → is_among (done ++ c ∷ rest) other ≡ true → other < count =
      λ other h. below_order count other all good.below
      (ap (λ o. is_among o other) whole ∙ h) in
      let here : is_among (done ++ c ∷ rest) (suc k) ≡ true =
      list_any-append (λ d. nat_eq d.picture (suc k)) done (c ∷ rest) ∙
      or_right (is_among done (suc k)) (is_among (c ∷ rest) (suc k))
      (or_left (nat_eq c.picture (suc k)) (is_among rest (suc k)) (eq-eqb c.picture (suc k) at)) in
      record {
        sound = λ other h.
            and_parts (is_among done other) (is_referred (c ∷ rest) other)
            (sym (kept other) ∙
            among_passes (is_kept all place) other (others_of count (suc k))
            (ap (λ s. list_any (nat_eq other) s) (sym is) ∙ h));
        whole = λ other apart among referred.
            ap (λ s. list_any (nat_eq other) s) is ∙
            among_stays (is_kept all place) other (others_of count (suc k))
            (kept other ∙ and_from (is_among done other) (is_referred (c ∷ rest) other) among referred)
            (other_among count (suc k) other (small (suc k) here)
            (small other (among_all done c rest other among)) apart);
      }

-- ---- decoding

module _ (shown_as : ℕ → Picture) where
  -- the decoded picture of a count
  abbrev pub shown_at : ℕ → DecodedPicture
  shown_at count = record { PicOrderCntVal = count; picture = shown_as count }

  first_found : (n : ℕ) (kept : List ℕ) (others : List ℕ) → Among n kept →
      found_then (filter (has_count n) (map shown_at kept)) (Some (map shown_at others)) ≡
      Some (map shown_at (n ∷ others))
  first_found n [] others h = absurd (false≢true h)
  first_found n (k ∷ kept) others h =
      found_first n k kept others (nat_eq n k) refl h (first_found n kept others)
    where
      found_first : (n k : ℕ) (kept others : List ℕ) (t : Bool) → nat_eq n k ≡ t →
          (t || list_any (nat_eq n) kept) ≡ true →
          (Among n kept →
          found_then (filter (has_count n) (map shown_at kept)) (Some (map shown_at others)) ≡
          Some (map shown_at (n ∷ others))) →
          found_then
          (cond t (shown_at k ∷ filter (has_count n) (map shown_at kept))
          (filter (has_count n) (map shown_at kept)))
          (Some (map shown_at others)) ≡
          Some (map shown_at (n ∷ others))
      found_first n k kept others true e h rest =
          ap (λ m. Some (map shown_at (m ∷ others))) (sym (eqb-true n k e))
      found_first n k kept others false e h rest = rest h

  pub all_named : (kept counts : List ℕ) → AllAmong counts kept →
      named (map shown_at kept) counts ≡ Some (map shown_at counts)
  all_named kept [] h = refl
  all_named kept (n ∷ counts) h =
      ap (found_then (filter (has_count n) (map shown_at kept)))
      (all_named kept counts (λ m there. h m (among_behind m n counts there))) ∙
      first_found n kept counts (h n (among_first n counts))

-- the units of each picture of a group of so many are decoded to its picture, where those of list 0
-- are decoded to theirs
abbrev pub AreDecodedTo : Size → (ℕ → Picture) → Settings → ℕ → (ℕ → List CodingTreeUnit) → Type 0
AreDecodedTo size shown_as cfg count units =
    (k : ℕ) →
    reconstructed size.pic_width_in_luma_samples size.pic_height_in_luma_samples
    (header_in cfg count k) (map (shown_at shown_as) (list_0 (header_in cfg count k))) (units k) ≡
    Some (shown_as k)

module _
    (size : Size) (shown_as : ℕ → Picture) (cfg : Settings) (count : ℕ)
    (good : IsGood count (coding count cfg.levels)) (units : ℕ → List CodingTreeUnit)
    (same : AreDecodedTo size shown_as cfg count units) where
  -- the coded picture of a count, and of one in coding order
  abbrev coded_with : ℕ → CodedPicture
  coded_with k = record { header = header_in cfg count k; units = units k }

  abbrev pub coded_at : Coded → CodedPicture
  coded_at c = coded_with c.picture

  pub count_in : (k : ℕ) → count_of (header_in cfg count k) ≡ k
  count_in zero = refl
  count_in (suc k) = refl

  decoded_one : (k : ℕ) →
      decoded_picture size (map (shown_at shown_as) (set_counts (header_in cfg count k)))
      (coded_with k) ≡
      Some (shown_at shown_as k)
  decoded_one k =
      let header : SliceHeader = header_in cfg count k in
      decoded_with k (count_of header)
      (named (map (shown_at shown_as) (set_counts header)) (list_0 header))
      (all_named shown_as (set_counts header) (list_0 header) (list_named header)) (count_in k)
    where
      decoded_with : (k n : ℕ) (found : Option (List DecodedPicture)) →
          found ≡ Some (map (shown_at shown_as) (list_0 (header_in cfg count k))) → n ≡ k →
          option_map (λ picture. record { PicOrderCntVal = n; picture = picture })
          (option_and_then
          (λ references. reconstructed
          size.pic_width_in_luma_samples size.pic_height_in_luma_samples (header_in cfg count k)
          references (units k))
          found) ≡
          Some (shown_at shown_as k)
      decoded_with k n found e f =
          rw (e, same k)
          (ap (λ m. Some (record { PicOrderCntVal = m; picture = shown_as k })) f)

  -- one picture, and then the others
  decoded_then : (k : ℕ) (kept : List ℕ) (rest : List CodedPicture)
      (others : List DecodedPicture) → AllAmong (set_counts (header_in cfg count k)) kept →
      decoded_from size
      (map (shown_at shown_as) (k ∷ set_counts (header_in cfg count k))) rest ≡ Some others →
      decoded_from size (map (shown_at shown_as) kept) (coded_with k ∷ rest) ≡
      Some (shown_at shown_as k ∷ others)
  decoded_then k kept rest others there behind =
      rw (
        all_named shown_as kept (set_counts (header_in cfg count k)) there,
        decoded_one k,
        behind,
      ) refl

  -- what later pictures need of those coded before is kept
  Keeps : List Coded → List Coded → List ℕ → Type 0
  Keeps done rest kept =
      (other : ℕ) → is_among done other ≡ true → is_referred rest other ≡ true →
      Among other kept

  among_one : (done : List Coded) (c : Coded) (other : ℕ) →
      is_among (done ++ c ∷ []) other ≡ true →
      (is_among done other ≡ true) ⊎ (other ≡ c.picture)
  among_one done c other h =
      elim
      (either (is_among done other) (is_among (c ∷ []) other)
      (sym (list_any-append (λ d. nat_eq d.picture other) done (c ∷ [])) ∙ h))
      as (λ _. (is_among done other ≡ true) ⊎ (other ≡ c.picture)) [
        | inl before ↦ inl before
        | inr last ↦ elim (either (nat_eq c.picture other) false last)
            as (λ _. (is_among done other ≡ true) ⊎ (other ≡ c.picture)) [
              | inl here ↦ inr (sym (eqb-true c.picture other here))
              | inr none ↦ absurd (false≢true none)
            ]
      ]

  keeps_next : (done : List Coded) (c : Coded) (rest : List Coded) (set : List ℕ) →
      SetIsKept done c.picture (c ∷ rest) set →
      Keeps (done ++ c ∷ []) rest (c.picture ∷ set)
  unfolding Keeps
  keeps_next done c rest set h other among referred =
      elim (cases_Bool (nat_eq other c.picture)) as (λ _. Among other (c.picture ∷ set)) [
        | inl here ↦ or_left (nat_eq other c.picture) (list_any (nat_eq other) set) here
        | inr apart ↦ elim (among_one done c other among)
            as (λ _. Among other (c.picture ∷ set)) [
              | inl before ↦ among_behind other c.picture set
                  (h.whole other apart before
                  (or_right (list_any (nat_eq other) c.references) (is_referred rest other)
                  referred))
              | inr same ↦ absurd (false≢true (sym apart ∙ eq-eqb other c.picture same))
            ]
      ]

  one_decoded : (done : List Coded) (c : Coded) (rest : List Coded) (kept : List ℕ)
      (others : List DecodedPicture) →
      SetIsKept done c.picture (c ∷ rest) (set_counts (header_in cfg count c.picture)) →
      Keeps done (c ∷ rest) kept →
      decoded_from size
      (map (shown_at shown_as) (c.picture ∷ set_counts (header_in cfg count c.picture)))
      (map coded_at rest) ≡ Some others →
      decoded_from size (map (shown_at shown_as) kept) (map coded_at (c ∷ rest)) ≡
      Some (shown_at shown_as c.picture ∷ others)
  unfolding Keeps
  one_decoded done c rest kept others h keeps behind =
      decoded_then c.picture kept (map coded_at rest) others
      (λ n there. let both = h.sound n there in keeps n both.0 both.1) behind

  others_decoded : (done rest : List Coded) (kept : List ℕ) →
      coding count cfg.levels ≡ done ++ rest →
      list_all (λ c. nat_lt 0 c.picture) rest ≡ true → Keeps done rest kept →
      decoded_from size (map (shown_at shown_as) kept) (map coded_at rest) ≡
      Some (map (λ c. shown_at shown_as c.picture) rest)
  others_decoded done [] kept whole later keeps = refl
  others_decoded done (c ∷ rest) kept whole later keeps =
      let k : ℕ = c.picture in
      let set : List ℕ = set_counts (header_in cfg count k) in
      let both = and_parts (nat_lt 0 k) (list_all (λ d. nat_lt 0 d.picture) rest) later in
      let some : 0 < k = ltb-true 0 k both.0 in
      let h : SetIsKept done k (c ∷ rest) set =
      set_kept cfg count good k done c rest refl whole (λ none. absurd (omega (arith, none, some)))
      in
      one_decoded done c rest kept (map (λ d. shown_at shown_as d.picture) rest) h keeps
      (others_decoded (done ++ c ∷ []) rest (k ∷ set)
      (whole ∙ sym (append_assoc done (c ∷ []) rest)) both.1 (keeps_next done c rest set h))

  -- all pictures of a group, from the first on
  pub group_decoded : decoded_from size [] (map coded_at (coding count cfg.levels)) ≡
      Some (map (λ c. shown_at shown_as c.picture) (coding count cfg.levels))
  unfolding Keeps
  group_decoded =
      let first : Coded = coded 0 0 [] in
      let rest : List Coded = blocks cfg.levels 0 (anchors count cfg.levels) in
      let h : SetIsKept [] 0 (first ∷ rest) [] =
      set_kept cfg count good 0 [] first rest refl refl (λ none. refl) in
      one_decoded [] first rest [] (map (λ d. shown_at shown_as d.picture) rest) h
      (λ other among referred. absurd (false≢true among))
      (others_decoded (first ∷ []) rest (0 ∷ []) refl good.later
      (keeps_next [] first rest [] h))
