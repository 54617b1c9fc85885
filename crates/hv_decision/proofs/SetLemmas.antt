-- Reference sets, entry by entry.
use Rattle.std.proofs.Common.{◌≡◌, ℕ, zero, suc, ◌+◌, ◌-◌, ◌<◌, ◌≤◌, ◌∙◌, sym, ap, ap₂, Bool, true, false, refl, List, [], ◌∷◌, ◌++◌, length, map, slice_index_or, arith, cond, nat_lt, nat_eq, drop, replicate}
use Rattle.std.specs.List.{list_any}
use Rattle.std.specs.Int.{abs_diff}
use Rattle.std.proofs.lemmas.List.{append_assoc, map-append, drop_more, get_or-map, length-map, length-append}
use Rattle.hv_group_model.specs.Structure.{Coded, coded, Kept, kept, kept_among, is_kept, falling, rising, set_in, set_size, place_in, ReferenceSet}
use Rattle.hv_group_model.specs.Lives.{until_in}
use Rattle.hv_group_model.proofs.NumberListLemmas.{length-falling, length-rising, rising_at, rising_push}
use Rattle.hv_lemmas.proofs.ComparisonLemmas.{zero_lt_suc}
use Rattle.hv_lemmas.proofs.BooleanLemmas.{one_at_most}
use Rattle.hv_decision.specs.declared.coded.CodedPicture.{CodedPicture}
use Rattle.hv_decision.specs.declared.row.Life.{Life}
use Rattle.hv_decision.specs.declared.row.SetEntry.{SetEntry}
use Rattle.hv_decision.specs.Coding.{coded_as}
use Rattle.hv_decision.specs.Sets.{AreLives, life_in, life_before, is_kept_at, kept_by, entry_before, entry_after, set_entries, OfPicture, row_in}
use Rattle.hv_decision.proofs.EachStructureLemmas.{kept_count}
use Rattle.hv_decision.proofs.LifeLemmas.{life_from, life_from-more, is_kept-life, the_life}
use Rattle.hv_lemmas.proofs.ListLemmas.{maps_same}

-- ---- lives

pub life_walk : (order : List CodedPicture) (place picture at : ℕ) (d : CodedPicture) (life result : Life) → 0 < place →
    place ≤ length order → at ≡ place - 1 →
    life ≡ life_from place (drop place (map coded_as order)) picture →
    result ≡ life_before life (coded_as (slice_index_or order at d)) (place - 1) picture →
    result ≡ life_from (place - 1) (drop (place - 1) (map coded_as order)) picture
life_walk order place picture at d life result some within is e found =
    let all : List Coded = map coded_as order in
    let x : Coded = slice_index_or all at (coded_as d) in
    let long : length all ≡ length order = length-map order coded_as in
    let here : x ≡ coded_as (slice_index_or order at d) =
    get_or-map coded_as order at d (coded_as d) (omega arith) in
    let next : at + 1 ≡ place = omega arith in
    let split : drop at all ≡ x ∷ drop (at + 1) all = drop_more all at (coded_as d) (omega arith) in
    found
    ∙ ap₂ (λ l c. life_before l c (place - 1) picture) e (sym here)
    ∙ sym (ap (λ k. life_before (life_from k (drop k all) picture) x (place - 1) picture) next)
    ∙ sym (ap (λ k. life_before (life_from (at + 1) (drop (at + 1) all) picture) x k picture) is)
    ∙ sym (life_from-more at x (drop (at + 1) all) picture)
    ∙ sym (ap (λ t. life_from at t picture) split)
    ∙ ap (λ k. life_from k (drop k all) picture) is

until_none : (later : ℕ) → cond (nat_lt 0 later) (0 + later) 0 ≡ later
until_none zero = refl
until_none (suc later) = ap (λ t. cond t (0 + suc later) 0) (zero_lt_suc later) ∙ omega arith

pub life_whole : (order : List Coded) (place picture : ℕ) → place ≤ 0 →
    life_from place (drop place order) picture ≡ life_in order picture
life_whole order zero picture none =
    ap₂ (λ (p u : ℕ). the_life p u) (omega arith) (until_none (until_in order picture))
life_whole order (suc place) picture none = absurd (omega arith)

none_more : (n : ℕ) → 0 + n ≡ n
none_more n = omega arith

pub map_rising_push : {A : Type 0} (f : ℕ → A) (n : ℕ) (xs : List A) → xs ≡ map f (rising n 0) →
    xs ++ f n ∷ [] ≡ map f (rising (n + 1) 0)
map_rising_push f n xs e =
    ap (λ t. t ++ f n ∷ []) e ∙ sym (map-append f (rising n 0) (n ∷ []))
    ∙ sym (ap (map f) (rising_push n 0 ∙ ap (λ k. rising n 0 ++ k ∷ []) (none_more n)))

-- ---- the lives of all pictures

-- numbers that stand one after another, each by its place
pub places_are : {A : Type 0} (f : ℕ → A) (d : A) (xs : List A) (from : ℕ) →
    ((i : ℕ) → i < length xs → slice_index_or xs i d ≡ f (from + i)) →
    xs ≡ map f (rising (length xs) from)
places_are f d [] from h = refl
places_are f d (x ∷ xs) from h =
    let first : x ≡ f from = h 0 (omega arith) ∙ ap f (omega arith) in
    ap₂ (λ y ys. y ∷ ys) first
    (places_are f d xs (from + 1) (λ i l. h (suc i) (omega arith) ∙ ap f (omega arith)))

-- as many as pictures
pub lives_counted : {A : Type 0} (f : ℕ → A) (n from : ℕ) → length (map f (rising n from)) ≡ n
lives_counted f zero from = refl
lives_counted f (suc n) from = ap suc (lives_counted f n (from + 1))

-- one of them
pub life_of : {A : Type 0} (f : ℕ → A) (d : A) (n from i : ℕ) → i < n →
    slice_index_or (map f (rising n from)) i d ≡ f (from + i)
life_of f d zero from i l = absurd (omega arith)
life_of f d (suc n) from zero l = ap f (omega arith)
life_of f d (suc n) from (suc i) l = life_of f d n (from + 1) i (omega arith) ∙ ap f (omega arith)

-- nothing is coded behind the order
drop_all : {A : Type 0} (xs : List A) → drop (length xs) xs ≡ []
drop_all [] = refl
drop_all (x ∷ xs) = drop_all xs

replicate_same : {A : Type 0} (f : ℕ → A) (x : A) (n from : ℕ) → ((p : ℕ) → f p ≡ x) →
    replicate n x ≡ map f (rising n from)
replicate_same f x zero from h = refl
replicate_same f x (suc n) from h =
    ap₂ (λ y ys. y ∷ ys) (sym (h from)) (replicate_same f x n (from + 1) h)

pub lives_begin : (order : List CodedPicture) (lives : List Life) →
    lives ≡ replicate (length order) (the_life (length order) 0) →
    lives ≡
    map (life_from (length order) (drop (length order) (map coded_as order))) (rising (length order) 0)
lives_begin order lives e =
    let none : drop (length order) (map coded_as order) ≡ [] =
    ap (λ k. drop k (map coded_as order)) (sym (length-map order coded_as)) ∙ drop_all (map coded_as order) in
    e
    ∙ replicate_same (life_from (length order) (drop (length order) (map coded_as order)))
    (the_life (length order) 0) (length order) 0
    (λ p. ap (λ rest. life_from (length order) rest p) none ∙ ap (λ k. the_life k 0) (omega arith))

-- each steps back
pub lives_go_back : (order : List CodedPicture) (place at : ℕ) (d : CodedPicture) (e : Life)
    (lives result : List Life) → 0 < place → place ≤ length order → at ≡ place - 1 →
    lives ≡ map (life_from place (drop place (map coded_as order))) (rising (length order) 0) →
    length result ≡ length lives →
    ((p : ℕ) → p < length lives → slice_index_or result p e ≡
    life_before (slice_index_or lives p e) (coded_as (slice_index_or order at d)) (place - 1) p) →
    result ≡
    map (life_from (place - 1) (drop (place - 1) (map coded_as order))) (rising (length order) 0)
lives_go_back order place at d e lives result some within is before count each =
    let n : ℕ = length order in
    let f : ℕ → Life = life_from place (drop place (map coded_as order)) in
    let g : ℕ → Life = life_from (place - 1) (drop (place - 1) (map coded_as order)) in
    let many : length lives ≡ n = ap length before ∙ lives_counted f n 0 in
    let found : (p : ℕ) → p < length result → slice_index_or result p e ≡ g (0 + p) = λ p l.
    life_walk order place p at d (slice_index_or lives p e) (slice_index_or result p e) some within is
    (ap (λ t. slice_index_or t p e) before ∙ life_of f e n 0 p (omega (arith, l, count, many)) ∙
    ap f (none_more p))
    (each p (omega (arith, l, count))) ∙
    ap g (sym (none_more p)) in
    places_are g e result 0 found ∙ ap (λ k. map g (rising k 0)) (count ∙ many)

-- the walk has come to the first place
pub lives_whole : (order : List CodedPicture) (place : ℕ) (lives : List Life) → place ≤ 0 →
    lives ≡ map (life_from place (drop place (map coded_as order))) (rising (length order) 0) →
    AreLives order lives
lives_whole order place lives none e =
    e ∙
    maps_same (life_from place (drop place (map coded_as order))) (life_in (map coded_as order))
    (rising (length order) 0) (λ p. life_whole (map coded_as order) place p none)

-- the life of a picture, in the list of them all
pub life_at : (order : List Coded) (n picture : ℕ) (d : Life) (lives : List Life) →
    lives ≡ map (life_in order) (rising n 0) → picture < n →
    slice_index_or lives picture d ≡ life_in order picture
life_at order n picture d lives e below =
    let long : length (rising n 0) ≡ n = length-rising n 0 in
    ap (λ t. slice_index_or t picture d) e
    ∙ get_or-map (life_in order) (rising n 0) picture 0 d (omega arith)
    ∙ ap (life_in order) (rising_at n 0 picture 0 below ∙ omega arith)

-- ---- entries

kept_first : {A : Type 0} (f : Kept → A) (b : Bool) (k : Kept) (rest : List Kept) →
    map f (cond b (k ∷ []) [] ++ rest) ≡ cond b (f k ∷ []) [] ++ map f rest
kept_first f true k rest = refl
kept_first f false k rest = refl

kept_step : (f : Kept → SetEntry) (order : List Coded) (place picture other : ℕ) (others : List ℕ)
    (life : Life) (entry : SetEntry) (old new whole : List SetEntry) → place ≤ length order →
    life ≡ life_in order other → entry ≡ f (kept order place picture other) →
    new ≡ old ++ cond (is_kept_at life place) (entry ∷ []) [] →
    old ++ map f (kept_among order place picture (other ∷ others)) ≡ whole →
    new ++ map f (kept_among order place picture others) ≡ whole
kept_step f order place picture other others life entry old new whole within is_life is_entry put e =
    let k : Kept = kept order place picture other in
    let rest : List Kept = kept_among order place picture others in
    let test : is_kept_at life place ≡ is_kept order place other =
    ap (λ l. is_kept_at l place) is_life ∙ sym (is_kept-life order place other within) in
    ap (λ t. t ++ map f rest) put
    ∙ append_assoc old (cond (is_kept_at life place) (entry ∷ []) []) (map f rest)
    ∙ ap (λ t. old ++ t)
    (ap₂ (λ b x. cond b (x ∷ []) [] ++ map f rest) test is_entry
    ∙ sym (kept_first f (is_kept order place other) k rest))
    ∙ e

pub falling_more : (n : ℕ) → 0 < n → falling n ≡ (n - 1) ∷ falling (n - 1)
falling_more zero some = absurd (omega arith)
falling_more (suc n) some = let e : suc n - 1 ≡ n = omega arith in sym (ap (λ k. k ∷ falling k) e)

pub rising_more : (n from : ℕ) → from < n → rising (n - from) from ≡ from ∷ rising (n - (from + 1)) (from + 1)
rising_more n from below =
    let e : n - from ≡ suc (n - (from + 1)) = omega arith in ap (λ k. rising k from) e

abbrev kept_as : Coded → ℕ → ℕ → Kept
kept_as c picture other = record {
  distance = abs_diff picture other;
  is_used = list_any (nat_eq other) c.references;
}

pub kept-kept_by : (order : List CodedPicture) (place picture other : ℕ) (d : CodedPicture) → place < length order →
    kept (map coded_as order) place picture other ≡ kept_by (slice_index_or order place d) picture other
kept-kept_by order place picture other d below =
    ap (λ (c : Coded). kept_as c picture other) (get_or-map coded_as order place d (coded 0 0 []) below)

-- ---- the walk of the code over the pictures

pub length_lives : (order : List CodedPicture) (lives : List Life) → AreLives order lives →
    length lives ≡ length order
length_lives order lives e =
    ap (λ l. length l) e ∙ length-map (rising (length order) 0) (life_in (map coded_as order))
    ∙ length-rising (length order) 0

-- a life that is read, where a default stands behind the list's end
abbrev pub life_read : List Life → ℕ → Life
life_read lives at = slice_index_or lives at (record { place = 0; until = 0 })

pub place_at : (order : List CodedPicture) (picture at : ℕ) (lives : List Life) →
    AreLives order lives → picture < length order → at ≡ picture →
    (life_read lives at).place ≡ place_in (map coded_as order) picture
place_at order picture at lives e below is =
    ap (λ k. (life_read lives k).place) is
    ∙ ap (λ l. l.place) (life_at (map coded_as order) (length order) picture _ lives e below)

-- the pictures among these that a picture keeps
abbrev pub kept_of : List CodedPicture → ℕ → List ℕ → List Kept
kept_of order picture others =
    kept_among (map coded_as order) (place_in (map coded_as order) picture) picture others

pub entry_step : (f : Kept → SetEntry) (order : List CodedPicture) (picture other at coded_at other_at : ℕ)
    (others : List ℕ) (c : CodedPicture) (lives : List Life) (entry : SetEntry)
    (old new whole : List SetEntry) → AreLives order lives →
    picture < length order → other < length order →
    place_in (map coded_as order) picture < length order →
    at ≡ picture → coded_at ≡ (life_read lives at).place → other_at ≡ other →
    entry ≡ f (kept_by (slice_index_or order coded_at c) picture other) →
    new ≡ old ++ cond (is_kept_at (life_read lives other_at) (life_read lives at).place) (entry ∷ []) [] →
    old ++ map f (kept_of order picture (other ∷ others)) ≡ whole →
    new ++ map f (kept_of order picture others) ≡ whole
entry_step f order picture other at coded_at other_at others c lives entry old new whole
    is_lives below other_below there is_at is_coded is_other is_entry put e =
    let all : List Coded = map coded_as order in
    let place : ℕ = place_in all picture in
    let long : length all ≡ length order = length-map order coded_as in
    let where_is : (life_read lives at).place ≡ place =
    place_at order picture at lives is_lives below is_at in
    let life : life_read lives other_at ≡ life_in all other =
    ap (λ k. life_read lives k) is_other
    ∙ life_at all (length order) other _ lives is_lives other_below in
    kept_step f all place picture other others (life_read lives other_at) entry old new whole
    (omega arith) life
    (is_entry
    ∙ ap (λ k. f (kept_by (slice_index_or order k c) picture other)) (is_coded ∙ where_is)
    ∙ ap f (sym (kept-kept_by order place picture other c there)))
    (put ∙ ap (λ p. old ++ cond (is_kept_at (life_read lives other_at) p) (entry ∷ []) []) where_is)
    e

-- ---- how many are kept

length_first : {A : Type 0} (b : Bool) (x : A) (rest : List A) →
    length (cond b (x ∷ []) [] ++ rest) ≡ cond b 1 0 + length rest
length_first true x rest = omega arith
length_first false x rest = omega arith

pub length-kept_among : (order : List Coded) (place picture : ℕ) (others : List ℕ) →
    length (kept_among order place picture others) ≤ length others
length-kept_among order place picture [] = omega arith
length-kept_among order place picture (other ∷ others) =
    omega (
      arith,
      length-kept_among order place picture others,
      one_at_most (is_kept order place other),
      length_first (is_kept order place other) (kept order place picture other) (kept_among order place picture others),
    )

length_kept : (order : List Coded) (place picture other : ℕ) (others : List ℕ) → place ≤ length order →
    length (kept_among order place picture (other ∷ others)) ≡
    cond (is_kept_at (life_in order other) place) 1 0 + length (kept_among order place picture others)
length_kept order place picture other others within =
    length_first (is_kept order place other) (kept order place picture other) (kept_among order place picture others)
    ∙ ap (λ b. cond b 1 0 + length (kept_among order place picture others)) (is_kept-life order place other within)

kept_before : (order : List Coded) (place picture n : ℕ) → place ≤ length order →
    length (kept_among order place picture (falling n)) ≡ kept_count place (map (life_in order) (falling n))
unfolding kept_count
kept_before order place picture zero within = refl
kept_before order place picture (suc n) within =
    length_kept order place picture n (falling n) within
    ∙ ap (λ k. cond (is_kept_at (life_in order n) place) 1 0 + k) (kept_before order place picture n within)

count_more : (order : List Coded) (place n : ℕ) →
    kept_count place (map (life_in order) (falling (n + 1))) ≡
    cond (is_kept_at (life_in order n) place) 1 0 + kept_count place (map (life_in order) (falling n))
unfolding kept_count
count_more order place n =
    let e : n + 1 ≡ suc n = omega arith in ap (λ k. kept_count place (map (life_in order) (falling k))) e

kept_after : (order : List Coded) (place picture m from : ℕ) → place ≤ length order →
    length (kept_among order place picture (rising m from)) + kept_count place (map (life_in order) (falling from)) ≡
    kept_count place (map (life_in order) (falling (from + m)))
kept_after order place picture zero from within =
    let e : from + 0 ≡ from = omega arith in
    let last : kept_count place (map (life_in order) (falling (from + 0))) ≡
    kept_count place (map (life_in order) (falling from)) =
    ap (λ k. kept_count place (map (life_in order) (falling k))) e in
    omega (arith, last)
kept_after order place picture (suc m) from within =
    let e : from + suc m ≡ from + 1 + m = omega arith in
    let ih = kept_after order place picture m (from + 1) within in
    let first = length_kept order place picture from (rising m (from + 1)) within in
    let more = count_more order place from in
    let last : kept_count place (map (life_in order) (falling (from + suc m))) ≡
    kept_count place (map (life_in order) (falling (from + 1 + m))) =
    ap (λ k. kept_count place (map (life_in order) (falling k))) e in
    omega (arith, ih, first, more, last)

pub set_size-le : (order : List Coded) (n picture : ℕ) → picture < n → place_in order picture ≤ length order →
    set_size (set_in order n picture) ≤ kept_count (place_in order picture) (map (life_in order) (falling n))
set_size-le order n picture below within =
    let place : ℕ = place_in order picture in
    let b = kept_before order place picture picture within in
    let a = kept_after order place picture (n - 1 - picture) (picture + 1) within in
    let more = count_more order place picture in
    let e : picture + 1 + (n - 1 - picture) ≡ n = omega arith in
    let last : kept_count place (map (life_in order) (falling (picture + 1 + (n - 1 - picture)))) ≡
    kept_count place (map (life_in order) (falling n)) =
    ap (λ k. kept_count place (map (life_in order) (falling k))) e in
    omega (arith, a, b, more, last)

-- ---- a row

abbrev the_row : Coded → List SetEntry → ℕ → OfPicture
the_row c entries before = record { coded = c; entries = entries; before = before }

pub row_is : (order : List CodedPicture) (picture coded_at before : ℕ) (c : CodedPicture)
    (first all : List SetEntry) → place_in (map coded_as order) picture < length order →
    coded_at ≡ place_in (map coded_as order) picture →
    first ≡ map entry_before (set_in (map coded_as order) (length order) picture).before →
    before ≡ length first →
    all ≡ first ++ map entry_after (set_in (map coded_as order) (length order) picture).after →
    the_row (coded_as (slice_index_or order coded_at c)) all before ≡
    row_in (map coded_as order) (length order) picture
row_is order picture coded_at before c first all below is_coded is_first is_before is_all =
    let m : List Coded = map coded_as order in
    let set : ReferenceSet = set_in m (length order) picture in
    let place : ℕ = place_in m picture in
    let coded_is : coded_as (slice_index_or order coded_at c) ≡ slice_index_or m place (coded 0 0 []) =
    ap (λ k. coded_as (slice_index_or order k c)) is_coded
    ∙ sym (get_or-map coded_as order place c (coded 0 0 []) below) in
    let count_is : before ≡ length set.before =
    is_before ∙ ap (λ l. length l) is_first ∙ length-map set.before entry_before in
    let entries_are : all ≡ set_entries set =
    is_all ∙ ap (λ t. t ++ map entry_after set.after) is_first in
    ap₂ (λ (x : Coded) (t : List SetEntry). the_row x t before) coded_is entries_are
    ∙ ap (λ n. the_row (slice_index_or m place (coded 0 0 [])) (set_entries set) n) count_is

-- the entries of the pictures before a picture that it keeps
abbrev pub first_of : List CodedPicture → ℕ → List SetEntry
first_of order picture = map entry_before (set_in (map coded_as order) (length order) picture).before

pub first_fits : (order : List Coded) (n picture : ℕ) →
    length (map entry_before (set_in order n picture).before) ≤ picture
first_fits order n picture =
    omega (
      arith,
      length-map (set_in order n picture).before entry_before,
      length-falling picture,
      length-kept_among order (place_in order picture) picture (falling picture),
    )

pub length-set_entries : (set : ReferenceSet) → length (set_entries set) ≡ set_size set
length-set_entries set =
    length-append (map entry_before set.before) (map entry_after set.after)
    ∙ ap₂ (λ a b. a + b) (length-map set.before entry_before) (length-map set.after entry_after)
