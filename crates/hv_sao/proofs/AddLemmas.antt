-- Samples that are counted one after another.
use Rattle.std.proofs.Common.{◌≡◌, ℕ, suc, ◌+◌, ◌<◌, ◌≤◌, cond, ⊎_elim, List, [], ◌∷◌, ◌++◌, length, get_or, slice_set, ℤ, pos, ◌+ℤ◌, ◌-ℤ◌, refl, sym, ◌∙◌, ap, ap₂, subst, arith, add-one, length-set, append-nil, append_assoc, replicate, Some, zero}
use Rattle.hv_filter_model.specs.OffsetDecision.{Block, difference}
use Rattle.hv_sao.specs.Decisions.{AreEdgeKeys, Counts, edge_key, edge_key_at}
use Rattle.std.specs.List.{flat_map, sum_by}
use Rattle.std.proofs.lemmas.List.Sums.{sum_by-append, sum_by_push}
use Rattle.std.specs.Int.RustNames.{unsigned_abs}
use Rattle.std.proofs.lemmas.Int.{ints}
use Rattle.std.proofs.lemmas.Bool.{cases_eq, cases_lt, eq-eqb, ne_eqb}
use Rattle.hv_types.specs.Samples.{sample_at}
use Rattle.hv_filter_model.specs.SampleAdaptiveOffset.{edge_of, edgeIdx}
use Rattle.std.proofs.lemmas.List.{get_or-set_same, get_or-set_other}
use Rattle.hv_lemmas.specs.Lists.{tabulate}
use Rattle.hv_lemmas.proofs.ListLemmas.{tabulate_push}
use Rattle.hv_filter_model.specs.Blocks.{Area, Location, row_locations, locations}
use Rattle.hv_sao.specs.declared.tally.Tally.{Tally}
use Rattle.hv_sao.specs.Tallies.{has_key, count_of, sum_of_key, no_tally, tally_at, counted, Adds, AreAtMost}
use Rattle.hv_sao.proofs.ChosenLemmas.{chosen-append, chosen-one, chosen-none}

pub adds_none : (n : ℕ) (key : Location → ℕ) (value : Location → ℤ) (ts : List Tally) → Adds n key value [] ts ts
adds_none n key value ts = record {
  size = refl;
  counts = λ k below. omega (arith, ints, chosen-none (has_key key k) (λ a. pos 1));
  sums = λ k below. omega (arith, ints, chosen-none (has_key key k) value);
}

pub adds_joined : (n : ℕ) (key : Location → ℕ) (value : Location → ℤ) (xs ys : List Location) (old mid new : List Tally) →
    Adds n key value xs old mid → Adds n key value ys mid new → Adds n key value (xs ++ ys) old new
adds_joined n key value xs ys old mid new h g = record {
  size = g.size ∙ h.size;
  counts = λ k below. omega (arith, ints, h.counts k below, g.counts k below, chosen-append (has_key key k) (λ a. pos 1) xs ys);
  sums = λ k below. omega (arith, ints, h.sums k below, g.sums k below, chosen-append (has_key key k) value xs ys);
}

-- one sample
pub adds_one : (n : ℕ) (key : Location → ℕ) (value : Location → ℤ) (a : Location) (k : ℕ) (v : ℤ) (mid : List Tally) (t : Tally) →
    k < n → n ≤ length mid → key a ≡ k → value a ≡ v → t.count ≡ (tally_at mid k).count + 1 → t.sum ≡ (tally_at mid k).sum +ℤ v →
    Adds n key value (a ∷ []) mid (slice_set mid k t)
adds_one n key value a k v mid t below room same same_v count sum = record {
  size = length-set mid k t;
  counts = λ j inside.
      ⊎_elim
      (λ here.
      let at : tally_at (slice_set mid k t) j ≡ t = ap (λ i. tally_at (slice_set mid k t) i) here ∙ get_or-set_same mid k t no_tally (omega arith) in
      let before : tally_at mid j ≡ tally_at mid k = ap (λ i. tally_at mid i) here in
      let one : count_of key j (a ∷ []) ≡ pos 1 =
      chosen-one (has_key key j) (λ b. pos 1) a ∙ ap (λ b. cond b (pos 1) (pos 0)) (eq-eqb (key a) j (same ∙ sym here)) in
      omega (arith, ints, ap (λ s. pos s.count) at, ap (λ s. pos s.count) before, one, count))
      (λ other.
      let at : tally_at (slice_set mid k t) j ≡ tally_at mid j = get_or-set_other mid k j t no_tally other in
      let none : count_of key j (a ∷ []) ≡ pos 0 =
      chosen-one (has_key key j) (λ b. pos 1) a ∙ ap (λ b. cond b (pos 1) (pos 0)) (ne_eqb (key a) j (λ e. other (sym e ∙ same))) in
      omega (arith, ints, ap (λ s. pos s.count) at, none))
      (cases_eq j k);
  sums = λ j inside.
      ⊎_elim
      (λ here.
      let at : tally_at (slice_set mid k t) j ≡ t = ap (λ i. tally_at (slice_set mid k t) i) here ∙ get_or-set_same mid k t no_tally (omega arith) in
      let before : tally_at mid j ≡ tally_at mid k = ap (λ i. tally_at mid i) here in
      let one : sum_of_key key value j (a ∷ []) ≡ v =
      chosen-one (has_key key j) value a ∙ ap (λ b. cond b (value a) (pos 0)) (eq-eqb (key a) j (same ∙ sym here)) ∙ same_v in
      omega (arith, ints, ap (λ s. s.sum) at, ap (λ s. s.sum) before, one, sum))
      (λ other.
      let at : tally_at (slice_set mid k t) j ≡ tally_at mid j = get_or-set_other mid k j t no_tally other in
      let none : sum_of_key key value j (a ∷ []) ≡ pos 0 =
      chosen-one (has_key key j) value a ∙ ap (λ b. cond b (value a) (pos 0)) (ne_eqb (key a) j (λ e. other (sym e ∙ same))) in
      omega (arith, ints, ap (λ s. s.sum) at, none))
      (cases_eq j k);
}

-- a sample whose key isn't counted
pub adds_uncounted : (n : ℕ) (key : Location → ℕ) (value : Location → ℤ) (a : Location) (ts : List Tally) → n ≤ key a →
    Adds n key value (a ∷ []) ts ts
adds_uncounted n key value a ts out = record {
  size = refl;
  counts = λ j inside.
      let none : count_of key j (a ∷ []) ≡ pos 0 =
      chosen-one (has_key key j) (λ b. pos 1) a ∙ ap (λ b. cond b (pos 1) (pos 0)) (ne_eqb (key a) j (λ e. omega arith)) in
      omega (arith, ints, none);
  sums = λ j inside.
      let none : sum_of_key key value j (a ∷ []) ≡ pos 0 =
      chosen-one (has_key key j) value a ∙ ap (λ b. cond b (value a) (pos 0)) (ne_eqb (key a) j (λ e. omega arith)) in
      omega (arith, ints, none);
}

pub at_most_one : (n m next k : ℕ) (v : ℤ) (mid : List Tally) (t : Tally) → AreAtMost n m mid → k < n → n ≤ length mid → next ≡ m + 1 →
    unsigned_abs v ≤ 255 → t.count ≡ (tally_at mid k).count + 1 → t.sum ≡ (tally_at mid k).sum +ℤ v → AreAtMost n next (slice_set mid k t)
at_most_one n m next k v mid t h below room is small count sum = record {
  counts = λ j inside.
      ⊎_elim
      (λ here.
      let at : tally_at (slice_set mid k t) j ≡ t = ap (λ i. tally_at (slice_set mid k t) i) here ∙ get_or-set_same mid k t no_tally (omega arith) in
      omega (arith, ap (λ s. s.count) at, count, h.counts k below))
      (λ other.
      let at : tally_at (slice_set mid k t) j ≡ tally_at mid j = get_or-set_other mid k j t no_tally other in
      omega (arith, ap (λ s. s.count) at, h.counts j inside))
      (cases_eq j k);
  sums = λ j inside.
      ⊎_elim
      (λ here.
      let at : tally_at (slice_set mid k t) j ≡ t = ap (λ i. tally_at (slice_set mid k t) i) here ∙ get_or-set_same mid k t no_tally (omega arith) in
      omega (arith, ints, ap (λ s. s.sum) at, sum, small, h.sums k below))
      (λ other.
      let at : tally_at (slice_set mid k t) j ≡ tally_at mid j = get_or-set_other mid k j t no_tally other in
      let same : unsigned_abs (tally_at (slice_set mid k t) j).sum ≡ unsigned_abs (tally_at mid j).sum = ap (λ s. unsigned_abs s.sum) at in
      omega (arith, same, h.sums j inside))
      (cases_eq j k);
}

pub at_most_more : (n m next : ℕ) (ts : List Tally) → AreAtMost n m ts → m ≤ next → AreAtMost n next ts
at_most_more n m next ts h least = record {
  counts = λ k below. omega (arith, h.counts k below);
  sums = λ k below. omega (arith, h.sums k below);
}

-- ---- rows of locations

abbrev pub location_at : Area → ℕ → ℕ → Location
location_at area x y = record { x = area.left + x; y = area.top + y }

pub row_none : (area : Area) (y : ℕ) → row_locations area y 0 ≡ []
unfolding tabulate
row_none area y = refl

pub row_more : (area : Area) (y x next : ℕ) → next ≡ x + 1 → row_locations area y next ≡ row_locations area y x ++ location_at area x y ∷ []
row_more area y x next is =
    ap (λ n. row_locations area y n) (is ∙ add-one x) ∙ tabulate_push x (λ u. location_at area u y)

-- the locations of the first rows
abbrev pub rows_before : Area → ℕ → List Location
rows_before area y = flat_map (λ row. row) (tabulate y (λ v. row_locations area v area.columns))

pub rows_none : (area : Area) → rows_before area 0 ≡ []
unfolding tabulate
rows_none area = refl

pub rows_more : (area : Area) (y next : ℕ) → next ≡ y + 1 → rows_before area next ≡ rows_before area y ++ row_locations area y area.columns
rows_more area y next is =
    ap (λ n. rows_before area n) (is ∙ add-one y)
    ∙ ap (λ rows. flat_map (λ row. row) rows) (tabulate_push y (λ v. row_locations area v area.columns))
    ∙ joined (tabulate y (λ v. row_locations area v area.columns)) (row_locations area y area.columns)
  where
    joined : (xss : List (List Location)) (xs : List Location) →
        flat_map (λ row. row) (xss ++ xs ∷ []) ≡ flat_map (λ row. row) xss ++ xs
    joined [] xs = append-nil xs
    joined (ys ∷ xss) xs = ap (λ t. ys ++ t) (joined xss xs) ∙ sym (append_assoc ys (flat_map (λ row. row) xss) xs)

-- one sample more of a row
pub adds_sample : (n : ℕ) (key : Location → ℕ) (value : Location → ℤ) (area : Area) (y x next k : ℕ) (v : ℤ) (old mid : List Tally) (t : Tally) →
    Adds n key value (row_locations area y x) old mid → next ≡ x + 1 → k < n → n ≤ length mid → key (location_at area x y) ≡ k →
    value (location_at area x y) ≡ v → t.count ≡ (tally_at mid k).count + 1 → t.sum ≡ (tally_at mid k).sum +ℤ v →
    Adds n key value (row_locations area y next) old (slice_set mid k t)
adds_sample n key value area y x next k v old mid t h is below room same same_v count sum =
    subst (λ xs. Adds n key value xs old (slice_set mid k t)) (sym (row_more area y x next is))
    (adds_joined n key value (row_locations area y x) (location_at area x y ∷ []) old mid (slice_set mid k t) h
    (adds_one n key value (location_at area x y) k v mid t below room same same_v count sum))

pub adds_nothing : (n : ℕ) (key : Location → ℕ) (value : Location → ℤ) (area : Area) (y : ℕ) (ts : List Tally) →
    Adds n key value (row_locations area y 0) ts ts
adds_nothing n key value area y ts =
    subst (λ xs. Adds n key value xs ts ts) (sym (row_none area y)) (adds_none n key value ts)

-- no row, and one row more
pub adds_no_rows : (n : ℕ) (key : Location → ℕ) (value : Location → ℤ) (area : Area) (ts : List Tally) →
    Adds n key value (rows_before area 0) ts ts
adds_no_rows n key value area ts =
    subst (λ xs. Adds n key value xs ts ts) (sym (rows_none area)) (adds_none n key value ts)

pub adds_row : (n : ℕ) (key : Location → ℕ) (value : Location → ℤ) (area : Area) (y next : ℕ) (old mid new : List Tally) → next ≡ y + 1 →
    Adds n key value (rows_before area y) old mid → Adds n key value (row_locations area y area.columns) mid new →
    Adds n key value (rows_before area next) old new
adds_row n key value area y next old mid new is h g =
    subst (λ xs. Adds n key value xs old new) (sym (rows_more area y next is))
    (adds_joined n key value (rows_before area y) (row_locations area y area.columns) old mid new h g)

get_or-same : (n k : ℕ) (t : Tally) → get_or (replicate n t) k t ≡ t
get_or-same zero k t = refl
get_or-same (suc n) zero t = refl
get_or-same (suc n) (suc k) t = get_or-same n k t

pub none_at_most : (n most size : ℕ) → AreAtMost n most (replicate size no_tally)
none_at_most n most size = record {
  counts = λ k below. omega (arith, ap (λ t. t.count) (get_or-same size k no_tally));
  sums = λ k below. omega (arith, ap (λ t. unsigned_abs t.sum) (get_or-same size k no_tally));
}

-- what is added to tallies of nothing is what they count
pub counts_all : (n rows size : ℕ) (key : Location → ℕ) (b : Block) (ts : List Tally) → rows ≡ b.area.rows →
    Adds n key (difference b) (rows_before b.area rows) (replicate size no_tally) ts → Counts n key b ts
counts_all n rows size key b ts all h =
    let whole : Adds n key (difference b) (locations b.area) (replicate size no_tally) ts =
    subst (λ r. Adds n key (difference b) (rows_before b.area r) (replicate size no_tally) ts) all h in
    record {
      counts = λ k below. omega (arith, ints, whole.counts k below, ap (λ t. pos t.count) (get_or-same size k no_tally));
      sums = λ k below. omega (arith, ints, whole.sums k below, ap (λ t. t.sum) (get_or-same size k no_tally));
    }

-- the rest of a row isn't counted
pub adds_rest : (n : ℕ) (key : Location → ℕ) (value : Location → ℤ) (area : Area) (y m more : ℕ) (old new : List Tally) →
    Adds n key value (row_locations area y m) old new →
    ((x : ℕ) → m ≤ x → x < m + more → n ≤ key (location_at area x y)) → Adds n key value (row_locations area y (m + more)) old new
adds_rest n key value area y m zero old new h none =
    subst (λ k. Adds n key value (row_locations area y k) old new) (omega arith) h
adds_rest n key value area y m (suc more) old new h none =
    let before : Adds n key value (row_locations area y (m + more)) old new =
    adds_rest n key value area y m more old new h (λ x least most. none x least (omega arith)) in
    subst (λ xs. Adds n key value xs old new) (sym (row_more area y (m + more) (m + suc more) (omega arith)))
    (adds_joined n key value (row_locations area y (m + more)) (location_at area (m + more) y ∷ []) old new new before
    (adds_uncounted n key value (location_at area (m + more) y) new (none (m + more) (omega arith) (omega arith))))

-- ---- sums of numbers

pub sum_none : (f : Location → ℕ) (area : Area) (y : ℕ) → sum_by f (row_locations area y 0) ≡ 0
sum_none f area y = ap (sum_by f) (row_none area y)

pub sum_sample : (f : Location → ℕ) (area : Area) (y x next sum v : ℕ) → next ≡ x + 1 → sum ≡ sum_by f (row_locations area y x) →
    v ≡ f (location_at area x y) → sum + v ≡ sum_by f (row_locations area y next)
sum_sample f area y x next sum v is before here =
    ap₂ (λ a b. a + b) before here ∙ sym (ap (sum_by f) (row_more area y x next is) ∙ sum_by_push f (row_locations area y x) (location_at area x y))

pub sum_no_rows : (f : Location → ℕ) (area : Area) → sum_by f (rows_before area 0) ≡ 0
sum_no_rows f area = ap (sum_by f) (rows_none area)

pub sum_row : (f : Location → ℕ) (area : Area) (y next sum v : ℕ) → next ≡ y + 1 → sum ≡ sum_by f (rows_before area y) →
    v ≡ sum_by f (row_locations area y area.columns) → sum + v ≡ sum_by f (rows_before area next)
sum_row f area y next sum v is before here =
    ap₂ (λ a b. a + b) before here
    ∙ sym (ap (sum_by f) (rows_more area y next is) ∙ sum_by-append f (rows_before area y) (row_locations area y area.columns))

pub no_keys : (samples first second keys : List ℕ) → AreEdgeKeys 0 samples first second keys
no_keys samples first second keys = record {
  values = λ i below. absurd (omega arith);
  most = λ i below. absurd (omega arith);
}

pub fewer_keys : (n fewer : ℕ) (samples first second keys : List ℕ) → AreEdgeKeys n samples first second keys → fewer ≤ n →
    AreEdgeKeys fewer samples first second keys
fewer_keys n fewer samples first second keys h least = record {
  values = λ i below. h.values i (omega arith);
  most = λ i below. h.most i (omega arith);
}

-- one key more of a row
pub keys_more : (n next v : ℕ) (samples first second keys : List ℕ) → AreEdgeKeys n samples first second keys → next ≡ n + 1 → n < length keys →
    v ≡ edge_key (edge_of (get_or samples n 0) (Some (get_or first n 0)) (Some (get_or second n 0))) (get_or samples n 0) → v ≤ 32 →
    AreEdgeKeys next samples first second (slice_set keys n v)
keys_more n next v samples first second keys h is room right most = record {
  values = λ i below.
      ⊎_elim
      (λ here.
      ap (λ k. get_or (slice_set keys n v) k 0) here ∙ get_or-set_same keys n v 0 room ∙ right
      ∙ ap (λ k. edge_key (edge_of (get_or samples k 0) (Some (get_or first k 0)) (Some (get_or second k 0))) (get_or samples k 0)) (sym here))
      (λ other. get_or-set_other keys n i v 0 other ∙ h.values i (omega arith))
      (cases_eq i n);
  most = λ i below.
      ⊎_elim
      (λ here. omega (arith, ap (λ k. get_or (slice_set keys n v) k 0) here, get_or-set_same keys n v 0 room))
      (λ other. omega (arith, get_or-set_other keys n i v 0 other, h.most i (omega arith)))
      (cases_eq i n);
}

-- a tally behind the first n has changed
adds_beyond : (n k : ℕ) (key : Location → ℕ) (value : Location → ℤ) (xs : List Location) (old mid : List Tally) (t : Tally) →
    Adds n key value xs old mid → n ≤ k → Adds n key value xs old (slice_set mid k t)
adds_beyond n k key value xs old mid t h out = record {
  size = length-set mid k t ∙ h.size;
  counts = λ j below.
      let at : tally_at (slice_set mid k t) j ≡ tally_at mid j = get_or-set_other mid k j t no_tally (λ e. omega arith) in
      ap (λ s. pos s.count) at ∙ h.counts j below;
  sums = λ j below.
      let at : tally_at (slice_set mid k t) j ≡ tally_at mid j = get_or-set_other mid k j t no_tally (λ e. omega arith) in
      ap (λ s. s.sum) at ∙ h.sums j below;
}

-- a sample that may have no edge
pub adds_edge : (key : Location → ℕ) (value : Location → ℤ) (area : Area) (y x next k input sample : ℕ) (old mid new : List Tally) →
    Adds 32 key value (row_locations area y x) old mid → next ≡ x + 1 → length mid ≡ 33 → key (location_at area x y) ≡ k →
    value (location_at area x y) ≡ pos input -ℤ pos sample →
    new ≡ slice_set mid k (counted (tally_at mid k) input sample) → Adds 32 key value (row_locations area y next) old new
adds_edge key value area y x next k input sample old mid new h is room same same_v made =
    let t : Tally = counted (tally_at mid k) input sample in
    subst (λ ts. Adds 32 key value (row_locations area y next) old ts) (sym made)
    (⊎_elim
    (λ less.
    adds_sample 32 key value area y x next k (pos input -ℤ pos sample) old mid t h is less (omega arith) same same_v refl refl)
    (λ more.
    adds_beyond 32 k key value (row_locations area y next) old mid t
    (subst (λ n. Adds 32 key value (row_locations area y n) old mid) (sym is)
    (adds_rest 32 key value area y x 1 old mid h
    (λ u least most. omega (arith, ap (λ v. key (location_at area v y)) (only u least most), same, more)))) more)
    (cases_lt k 32))
  where
    only : (u : ℕ) → x ≤ u → u < x + 1 → u ≡ x
    only u least most = omega arith

pub at_most_edge : (m next k input sample : ℕ) (mid new : List Tally) → AreAtMost 33 m mid → next ≡ m + 1 → length mid ≡ 33 → k ≤ 32 → input < 256 →
    sample < 256 → new ≡ slice_set mid k (counted (tally_at mid k) input sample) → AreAtMost 33 next new
at_most_edge m next k input sample mid new h is room key byte byte₂ made =
    subst (λ ts. AreAtMost 33 next ts) (sym made)
    (at_most_one 33 m next k (pos input -ℤ pos sample) mid (counted (tally_at mid k) input sample) h (omega arith) (omega arith) is
    (omega (arith, ints)) refl refl)

pub uncounted : (class : ℕ) (b : Block) (a : Location) → edgeIdx class b.deblocked a.x a.y ≡ 0 → 32 ≤ edge_key_at class b a
uncounted class b a none = omega (arith, ap (λ k. edge_key k (sample_at b.deblocked a.x a.y)) none)
