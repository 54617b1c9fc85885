-- One picture more of a group: frames hold it, its unit is there, and where reconstructed pictures
-- are emitted its bytes stand in its place. In the end all are there.
use Rattle.std.proofs.Common.{◌≡◌, ℕ, zero, suc, ◌+◌, ◌<◌, ◌≤◌, Bool, true, false, cond, nat_eq, List, [], ◌∷◌, length, map, inl, inr, refl, sym, ap, ◌∙◌, subst, eqb-true, arith}
use Rattle.std.specs.Prelude.{set, slice_get, slice_index_or, is_some, Option, Some, Result, Ok, Err, OnOk, ◌⊎◌}
use Rattle.std.proofs.lemmas.Bool.{cases_eq, false≢true, eq-eqb}
use Rattle.std.proofs.lemmas.Option.{get_or_from_slice_get, slice_get_within, slice_get-get_or}
use Rattle.std.proofs.lemmas.List.{length-set, length-map, length-replicate, get_or-map, same_lists}
use Rattle.hv_lemmas.proofs.OptionLemmas.{some_same}
use Rattle.hv_types.specs.declared.settings.Emit.{Emit}
use Rattle.hv_types.specs.declared.settings.Emit.TheVariants.{Stream, Recon}
use Rattle.hv_types.specs.declared.picture.Picture.{Picture}
use Rattle.hv_types.specs.Configuration.{most_levels}
use Rattle.hv_types.specs.Video.{raw, crop}
use Rattle.hv_types.specs.GroupInput.{GroupInput}
use Rattle.hv_block.specs.declared.frame.Frame.{Frame}
use Rattle.hv_group_model.specs.Structure.{coding, coded_of, place_in, picture_at, rising}
use Rattle.hv_group_model.proofs.NumberListLemmas.{length-rising, rising_at}
use Rattle.hv_decision.specs.Orders.{IsOrder, AreOrders}
use Rattle.hv_model.specs.InterPictures.{picture_shown, encode_group}
use Rattle.hv_serial.specs.Slots.{slot_of, held_in, IsServed, FramesServe}
use Rattle.hv_serial.specs.Workspaces.{IsFrame, AreFrames, Shows, Rewrites}
use Rattle.hv_serial.specs.GroupPictures.{recon_in, HoldsAt, ShowReferences, shown_bytes, ShownTo, EmittedTo}
use Rattle.hv_serial.specs.ShownPictures.{empty_places, put_in}
use Rattle.hv_serial.specs.Steps.{emitted}

-- ---- lists

pub got_set : {A : Type 0} (xs : List A) (i : ℕ) (x : A) → i < length xs →
    slice_get (set xs i x) i ≡ Some x
got_set [] i x below = absurd (omega (arith, below))
got_set (y ∷ xs) zero x below = refl
got_set (y ∷ xs) (suc i) x below = got_set xs i x (omega (arith, below))

pub got_other : {A : Type 0} (xs : List A) (i j : ℕ) (x : A) → (j ≡ i → ⊥) →
    slice_get (set xs i x) j ≡ slice_get xs j
got_other [] i j x other = refl
got_other (y ∷ xs) zero zero x other = absurd (other refl)
got_other (y ∷ xs) zero (suc j) x other = refl
got_other (y ∷ xs) (suc i) zero x other = refl
got_other (y ∷ xs) (suc i) (suc j) x other = got_other xs i j x (λ e. other (ap suc e))

one_more : (n : ℕ) → n + 1 ≡ suc n
one_more n = omega arith

module _ (group : GroupInput) (place : ℕ) (below : place < length group.pictures)
    (order : IsOrder (length group.pictures) group.config.levels) where
  abbrev count : ℕ
  count = length group.pictures

  abbrev levels : ℕ
  levels = group.config.levels

  abbrev number : ℕ
  number = picture_at (length group.pictures) group.config.levels place

  number_below : number < count
  number_below = order.below place below

  place_is : place_in (coding count levels) number ≡ place
  place_is = order.place_of place below

  -- ---- frames

  pub show_references : IsServed count levels → (frames : List Frame) →
      HoldsAt group place frames → ShowReferences group number frames
  show_references served frames holds k d inside =
      let r : ℕ = slice_index_or (coded_of count levels number).references k d in
      holds (slot_of count levels r) r
      (subst (λ p. held_in levels (coding count levels) p (slot_of count levels r) ≡ Some r)
      place_is (served.held number number_below k d inside))

  pub hold_more : (old new : List Frame) → HoldsAt group place old →
      Rewrites old (slot_of count levels number) (recon_in group number) new →
      HoldsAt group (place + 1) new
  unfolding held_in
  hold_more old new holds rewrites slot other e =
      by_test (nat_eq (slot_of count levels number) slot) refl
      (sym (ap (λ n. held_in levels (coding count levels) n slot) (one_more place)) ∙ e)
    where
      by_test : (t : Bool) → nat_eq (slot_of count levels number) slot ≡ t →
          cond t (Some number) (held_in levels (coding count levels) place slot) ≡ Some other →
          Shows new slot (recon_in group other)
      by_test true is there =
          let here : slot_of count levels number ≡ slot = eqb-true _ _ is in
          subst (λ s. Shows new s (recon_in group other)) here
          (subst (λ n. Shows new (slot_of count levels number) (recon_in group n))
          (some_same number other there) rewrites.shows)
      by_test false is there =
          let s = holds slot other there in record {
            frame = s.frame;
            there = rewrites.others slot
                (λ e. false≢true (sym is ∙ eq-eqb (slot_of count levels number) slot (sym e))) ∙
                s.there;
            shown = s.shown;
          }

  -- ---- pictures that are shown

  shown_more : (old : List (List ℕ)) (bytes : List ℕ) → bytes ≡ shown_bytes group number →
      ShownTo group place old → ShownTo group (place + 1) (set old number bytes)
  shown_more old bytes is shown = record {
    count = length-set old number bytes ∙ shown.count;
    each = λ other inside earlier. by_number other inside earlier (cases_eq other number);
  }
    where
      by_number : (other : ℕ) → other < count →
          place_in (coding count levels) other < place + 1 →
          (other ≡ number) ⊎ (other ≡ number → ⊥) →
          slice_get (set old number bytes) other ≡ Some (shown_bytes group other)
      by_number other inside earlier (inl same) =
          ap (slice_get (set old number bytes)) same ∙
          got_set old number bytes
          (subst (λ n. number < n) (sym shown.count) number_below) ∙
          ap Some (is ∙ ap (shown_bytes group) (sym same))
      by_number other inside earlier (inr differs) =
          got_other old number other bytes differs ∙
          shown.each other inside (by_place other inside earlier differs)
        where
          by_place : (other : ℕ) → other < count →
              place_in (coding count levels) other < place + 1 → (other ≡ number → ⊥) →
              place_in (coding count levels) other < place
          by_place other inside earlier differs =
              before (place_in (coding count levels) other) earlier
              (λ e. differs (sym (order.picture_of other inside) ∙ ap (picture_at count levels) e))
            where
              before : (p : ℕ) → p < place + 1 → (p ≡ place → ⊥) → p < place
              before p small not = cases p small not (cases_eq p place)
                where
                  cases : (p : ℕ) → p < place + 1 → (p ≡ place → ⊥) →
                      (p ≡ place) ⊎ (p ≡ place → ⊥) → p < place
                  cases p small not (inl e) = absurd (not e)
                  cases p small not (inr f) = omega (arith, small, f)

  pub emitted_more : (emit : Emit) (old : List (List ℕ)) (picture : Picture) →
      picture ≡ recon_in group number → EmittedTo emit group place old →
      EmittedTo emit group (place + 1)
      (put_in emit old number (raw (crop picture group.config.width group.config.height)))
  emitted_more Stream old picture is shown = shown
  emitted_more Recon old picture is shown =
      shown_more old (raw (crop picture group.config.width group.config.height))
      (ap (λ (p : Picture). raw (crop p group.config.width group.config.height)) is) shown

-- ---- references

held_below : (n l : ℕ) → IsOrder n l → (place slot k : ℕ) →
    place ≤ n → held_in l (coding n l) place slot ≡ Some k → k < n
unfolding held_in
held_below n l order zero slot k inside e = absurd (false≢true (ap is_some e))
held_below n l order (suc place) slot k inside e =
    by_test (nat_eq (slot_of n l (picture_at n l place)) slot) e
    (held_below n l order place slot k (omega (arith, inside)))
  where
    by_test : (t : Bool) →
        cond t (Some (picture_at n l place)) (held_in l (coding n l) place slot) ≡ Some k →
        (held_in l (coding n l) place slot ≡ Some k → k < n) → k < n
    by_test true there before =
        subst (λ m. m < n) (some_same (picture_at n l place) k there)
        (order.below place (omega (arith, inside)))
    by_test false there before = before there

-- the entries of list 0 are pictures of the group
pub reference_below : (group : GroupInput) (count levels number entry : ℕ)
    (reference : Option ℕ) → FramesServe → AreOrders → count ≡ length group.pictures →
    levels ≡ group.config.levels → length group.pictures ≤ 64 → levels ≤ most_levels →
    number < length group.pictures →
    reference ≡ slice_get (coded_of count levels number).references entry → (k : ℕ) →
    reference ≡ Some k → k < length group.pictures
reference_below group count levels number entry reference serve orders same_count same_levels most
    few below is k there =
    let some : number < count = omega (arith, same_count, below) in
    let served = serve count levels (omega (arith, some)) (omega (arith, same_count, most)) few in
    let order = orders count levels (omega (arith, some)) (omega (arith, same_count, most)) few in
    let references : List ℕ = (coded_of count levels number).references in
    let found : slice_get references entry ≡ Some k = sym is ∙ there in
    let same : slice_index_or references entry k ≡ k =
    get_or_from_slice_get references entry k k found in
    let here = served.held number some entry k (slice_get_within references entry k found) in
    let inside = order.there number some in
    let at : k < count =
    held_below count levels order (place_in (coding count levels) number)
    (slot_of count levels k) k (omega (arith, inside))
    (subst (λ r. held_in levels (coding count levels) (place_in (coding count levels) number)
    (slot_of count levels r) ≡ Some r) same here) in
    omega (arith, at, same_count)

-- ---- the frame of a picture

module _ (group : GroupInput) (count levels number slot : ℕ) (frames : List Frame)
    (serve : FramesServe) (same_count : count ≡ length group.pictures)
    (same_levels : levels ≡ group.config.levels) (most : length group.pictures ≤ 64)
    (few : group.config.levels ≤ most_levels)
    (room : length group.pictures ≤ group.config.group)
    (below : number < length group.pictures) (is : slot ≡ slot_of count levels number)
    (are : AreFrames group.config frames) where
  slot_is : slot ≡ slot_of (length group.pictures) group.config.levels number
  slot_is =
      is ∙ ap (λ n. slot_of n levels number) same_count ∙
      ap (λ l. slot_of (length group.pictures) l number) same_levels

  pub slot_inside : slot < length frames
  slot_inside =
      let served =
      serve (length group.pictures) group.config.levels (omega (arith, below)) most few in
      let here = served.slots number below in
      omega (arith, here, slot_is, room, are.count)

  pub frame_is : (frame : Frame) → frame ≡ slice_index_or frames slot frame →
      IsFrame group.config frame
  frame_is frame e =
      are.each slot frame (slice_get-get_or frames slot frame slot_inside ∙ ap Some (sym e))

  -- the frame that stands there
  pub frame_there : (frame shown : Frame) → frame ≡ slice_index_or frames slot frame →
      slice_get frames (slot_of (length group.pictures) group.config.levels number) ≡ Some shown →
      frame ≡ shown
  frame_there frame shown e there =
      e ∙
      get_or_from_slice_get frames slot shown frame (ap (slice_get frames) slot_is ∙ there)

  pub rewritten : (frame : Frame) → frame.shown ≡ recon_in group number →
      Rewrites frames (slot_of (length group.pictures) group.config.levels number)
      (recon_in group number) (set frames slot frame)
  rewritten frame shown = record {
    shows = record {
      frame = frame;
      there = ap (slice_get (set frames slot frame)) (sym slot_is) ∙
          got_set frames slot frame slot_inside;
      shown = shown;
    };
    others = λ other differs.
        got_other frames slot other frame (λ e. differs (e ∙ slot_is));
  }

  pub frames_again : (frame : Frame) → IsFrame group.config frame →
      AreFrames group.config (set frames slot frame)
  frames_again frame whole = record {
    count = length-set frames slot frame ∙ are.count;
    each = λ other f there. by_number other f there (cases_eq other slot);
  }
    where
      by_number : (other : ℕ) (f : Frame) → slice_get (set frames slot frame) other ≡ Some f →
          (other ≡ slot) ⊎ (other ≡ slot → ⊥) → IsFrame group.config f
      by_number other f there (inl same) =
          subst (IsFrame group.config)
          (some_same frame f (sym (got_set frames slot frame slot_inside) ∙
          ap (slice_get (set frames slot frame)) (sym same) ∙ there)) whole
      by_number other f there (inr differs) =
          are.each other f (sym (got_other frames slot other frame differs) ∙ there)

-- ---- the first place, and behind the last

pub nothing_held : (group : GroupInput) (frames : List Frame) → HoldsAt group 0 frames
unfolding held_in
nothing_held group frames slot k e = absurd (false≢true (ap is_some e))

pub nothing_emitted : (emit : Emit) (group : GroupInput) →
    EmittedTo emit group 0 (empty_places emit (length group.pictures))
nothing_emitted Stream group = refl
nothing_emitted Recon group = record {
  count = length-replicate (length group.pictures) [];
  each = λ number inside earlier. absurd (omega (arith, earlier));
}

pub all_emitted : (emit : Emit) (group : GroupInput) (place : ℕ) (shown : List (List ℕ)) →
    IsOrder (length group.pictures) group.config.levels → length group.pictures ≤ place →
    EmittedTo emit group place shown →
    shown ≡ emitted emit (encode_group group.config group.pictures).shown
all_emitted Stream group place shown order all are = are
all_emitted Recon group place shown order all are =
    let n : ℕ = length group.pictures in
    let f : ℕ → Picture = picture_shown group.config group.pictures in
    let last : List (List ℕ) = map raw (map f (rising n 0)) in
    let long : length last ≡ n =
    length-map (map f (rising n 0)) raw ∙ length-map (rising n 0) f ∙ length-rising n 0 in
    same_lists shown last (are.count ∙ sym long)
    (λ k d below.
    let inside : k < n = omega (arith, below, are.count) in
    let there = order.there k inside in
    let number : slice_index_or (rising n 0) k 0 ≡ k = rising_at n 0 k 0 inside ∙ omega arith in
    get_or_from_slice_get shown k (raw (f k)) d
    (are.each k inside (omega (arith, there, all))) ∙
    sym (get_or-map raw (map f (rising n 0)) k (f k) d
    (omega (arith, inside, length-map (rising n 0) f, length-rising n 0)) ∙
    ap raw (get_or-map f (rising n 0) k 0 (f k)
    (omega (arith, inside, length-rising n 0)) ∙ ap f number)))

-- what holds holds also where a call succeeds
pub always : {T E P : Type 0} (r : Result T E) → P → OnOk r P
always (Ok x) holds = holds
always (Err e) holds = tt
