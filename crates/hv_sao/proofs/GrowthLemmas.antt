-- By how much squared differences grow, from counts and sums by keys.
use Rattle.std.proofs.Common.{◌≡◌, ℕ, zero, suc, ◌+◌, ◌-◌, ◌*◌, ◌/◌, ◌<◌, ◌≤◌, Bool, true, false, cond, nat_eq, nat_lt, ◌%◌, get_or, Option, Some, None, ◌⊎◌, ⊎_elim, inl, List, [], ◌∷◌, length, map, ℤ, pos, ◌+ℤ◌, ◌-ℤ◌, ◌*ℤ◌, refl, sym, ◌∙◌, ap, ap₂, arith}
use Rattle.std.specs.List.{filter, sum_by}
use Rattle.std.proofs.lemmas.List.Sums.{sum_by-cons, sum-map}
use Rattle.hv_lemmas.specs.Clipping.{clip1}
use Rattle.std.proofs.lemmas.Int.{ints}
use Rattle.std.proofs.lemmas.Bool.{cases_lt, cases_Bool}
use Rattle.std.proofs.lemmas.Bool.Decides.{nat_tests}
use Rattle.hv_types.specs.Samples.{Plane, HasByteSamples, sample_at}
use Rattle.hv_types.proofs.SampleLemmas.{byte_at}
use Rattle.hv_filter_model.proofs.OffLemmas.{clip1_same}
use Rattle.hv_plan.specs.declared.offsets.SaoKind.{SaoKind}
use Rattle.hv_plan.specs.declared.offsets.SaoKind.TheVariants.{Off, Band, Edge}
use Rattle.hv_plan.specs.declared.offsets.SaoComponent.{SaoComponent}
use Rattle.hv_filter_model.specs.Blocks.{Location, locations}
use Rattle.hv_filter_model.specs.SampleAdaptiveOffset.{category, compared, edge_of, neighbour, SaoOffsetVal, sao_sample}
use Rattle.hv_filter_model.specs.OffsetDecision.{Block, difference, sum_of, squared_error, squared_errors}
use Rattle.hv_sao.specs.declared.tally.Tally.{Tally}
use Rattle.hv_sao.specs.Tallies.{sum_upto, chosen, has_key, count_of, sum_of_key, tally_at}
use Rattle.hv_sao.specs.Decisions.{Counts, counts_to, sums_to, input_error, group_count, group_sum, growth, growth_at, category_growth, tally_growth}
use Rattle.hv_sao.proofs.NumberLemmas.{error_is}
use Rattle.hv_sao.proofs.ChosenLemmas.{chosen-same, chosen-count, chosen-sum, chosen-group, chosen-linear, own_key, other_keys, sum_upto-same}

-- a test says whether a key is one of the eight of a group
pub record IsGroup (p : Location → Bool) (key : Location → ℕ) (at : ℕ) : Type 0 where
  pub yes : (a : Location) → p a ≡ true → (at ≤ key a) × (key a < at + 8)
  pub no : (a : Location) → p a ≡ false → (key a < at) ⊎ (at + 8 ≤ key a)

cond_true : (b : Bool) (y z w : ℤ) → b ≡ true → y ≡ w → cond b y z ≡ w
cond_true b y z w e h = rw e h

cond_false : (b : Bool) (y z w : ℤ) → b ≡ false → z ≡ w → cond b y z ≡ w
cond_false b y z w e h = rw e h

-- what is summed over the samples of a group is summed key by key
pub by_group : (p : Location → Bool) (key : Location → ℕ) (at : ℕ) (f : Location → ℤ) (g : ℕ → Location → ℤ) (xs : List Location) →
    IsGroup p key at → ((a : Location) → p a ≡ true → f a ≡ g (key a - at) a) →
    chosen p f xs ≡ sum_upto 8 (λ j. chosen (has_key key (at + j)) (g j) xs)
by_group p key at f g xs group same =
    chosen-group p key at 8 f g xs
    (λ a.
    ⊎_elim
    (λ yes.
    let inside = group.yes a yes in
    cond_true (p a) (f a) (pos 0) (sum_upto 8 (λ j. cond (nat_eq (key a) (at + j)) (g j a) (pos 0))) yes
    (same a yes ∙ sym (own_key 8 (key a) at (λ j. g j a) inside.0 inside.1)))
    (λ no.
    cond_false (p a) (f a) (pos 0) (sum_upto 8 (λ j. cond (nat_eq (key a) (at + j)) (g j a) (pos 0))) no
    (sym (other_keys 8 (key a) at (λ j. g j a) (group.no a no))))
    (cases_Bool (p a)))

pub count_by_group : (p : Location → Bool) (n : ℕ) (key : Location → ℕ) (at : ℕ) (b : Block) (tallies : List Tally) → IsGroup p key at →
    at + 8 ≤ n → Counts n key b tallies → pos (length (filter p (locations b.area))) ≡ group_count tallies at
unfolding counts_to
count_by_group p n key at b tallies group room h =
    chosen-count p (locations b.area)
    ∙ by_group p key at (λ a. pos 1) (λ j a. pos 1) (locations b.area) group (λ a yes. refl)
    ∙ sum_upto-same 8 (λ j. count_of key (at + j) (locations b.area)) (λ j. pos (tally_at tallies (at + j)).count)
    (λ j below. sym (h.counts (at + j) (omega arith)))

pub sum_by_group : (p : Location → Bool) (n : ℕ) (key : Location → ℕ) (at : ℕ) (b : Block) (tallies : List Tally) → IsGroup p key at →
    at + 8 ≤ n → Counts n key b tallies → sum_of (map (difference b) (filter p (locations b.area))) ≡ group_sum tallies at
unfolding sums_to
sum_by_group p n key at b tallies group room h =
    chosen-sum p (difference b) (locations b.area)
    ∙ by_group p key at (difference b) (λ j. difference b) (locations b.area) group (λ a yes. refl)
    ∙ sum_upto-same 8 (λ j. sum_of_key key (difference b) (at + j) (locations b.area)) (λ j. (tally_at tallies (at + j)).sum)
    (λ j below. sym (h.sums (at + j) (omega arith)))

-- where all samples of a key move by m, which depends on the key alone
pub growth_by_group : (p : Location → Bool) (n : ℕ) (key : Location → ℕ) (at : ℕ) (b : Block) (component : SaoComponent) (m : ℕ → ℤ)
    (tallies : List Tally) → IsGroup p key at → at + 8 ≤ n → Counts n key b tallies →
    ((a : Location) → p a ≡ true →
    pos (sao_sample component b.deblocked a.x a.y) -ℤ pos (sample_at b.deblocked a.x a.y) ≡ m (key a - at)) →
    chosen p (growth_at b component) (locations b.area) ≡ sum_upto 8 (λ j. tally_growth (tally_at tallies (at + j)) (m j))
growth_by_group p n key at b component m tallies group room h moves =
    by_group p key at (growth_at b component) (λ j a. growth (pos 1) (difference b a) (m j)) (locations b.area) group
    (λ a yes. ap (λ c. growth (pos 1) (difference b a) c) (moves a yes))
    ∙ sum_upto-same 8 (λ j. chosen (has_key key (at + j)) (λ a. growth (pos 1) (difference b a) (m j)) (locations b.area))
    (λ j. tally_growth (tally_at tallies (at + j)) (m j))
    (λ j below.
    chosen-same (has_key key (at + j)) (has_key key (at + j)) (λ a. growth (pos 1) (difference b a) (m j))
    (λ a. (m j *ℤ m j) -ℤ (pos 2 *ℤ (m j *ℤ difference b a))) (locations b.area)
    (λ a. ap (λ z. cond (has_key key (at + j) a) (z -ℤ (pos 2 *ℤ (m j *ℤ difference b a))) (pos 0)) (one_times (m j *ℤ m j)))
    ∙ chosen-linear (has_key key (at + j)) (difference b) (m j *ℤ m j) (m j) (locations b.area)
    ∙ ap₂ (λ c s. growth c s (m j)) (sym (h.counts (at + j) (omega arith))) (sym (h.sums (at + j) (omega arith))))
  where
    one_times : (z : ℤ) → pos 1 *ℤ z ≡ z
    one_times z = omega (arith, ints)

-- ---- squared differences

one_times : (z : ℤ) → pos 1 *ℤ z ≡ z
one_times z = omega (arith, ints)

error_grows : (b : Block) (component : SaoComponent) (a : Location) →
    pos (squared_error b component a) ≡ pos (input_error b a) +ℤ growth_at b component a
error_grows b component a =
    let c : ℤ = pos (sao_sample component b.deblocked a.x a.y) -ℤ pos (sample_at b.deblocked a.x a.y) in
    error_is (sample_at b.input a.x a.y) (sample_at b.deblocked a.x a.y) (sao_sample component b.deblocked a.x a.y)
    ∙ ap (λ z. pos (input_error b a) +ℤ (z -ℤ (pos 2 *ℤ (c *ℤ difference b a)))) (sym (one_times (c *ℤ c)))

errors_grow : (b : Block) (component : SaoComponent) (xs : List Location) →
    pos (sum_by (squared_error b component) xs) ≡
    pos (sum_by (input_error b) xs) +ℤ chosen (λ a. true) (growth_at b component) xs
unfolding chosen
errors_grow b component [] = refl
errors_grow b component (a ∷ xs) =
    let ih : pos (sum_by (squared_error b component) xs) ≡ pos (sum_by (input_error b) xs) +ℤ chosen (λ a. true) (growth_at b component) xs =
    errors_grow b component xs in
    let here : pos (squared_error b component a) ≡ pos (input_error b a) +ℤ growth_at b component a = error_grows b component a in
    let one : sum_by (squared_error b component) (a ∷ xs) ≡ squared_error b component a + sum_by (squared_error b component) xs =
    sum_by-cons (squared_error b component) a xs in
    let two : sum_by (input_error b) (a ∷ xs) ≡ input_error b a + sum_by (input_error b) xs = sum_by-cons (input_error b) a xs in
    grown (sum_by (squared_error b component) (a ∷ xs)) (squared_error b component a) (sum_by (squared_error b component) xs)
    (sum_by (input_error b) (a ∷ xs)) (input_error b a) (sum_by (input_error b) xs) (growth_at b component a)
    (chosen (λ a. true) (growth_at b component) xs) one two here ih
  where
    grown : (s p q t r u : ℕ) (g h : ℤ) → s ≡ p + q → t ≡ r + u → pos p ≡ pos r +ℤ g → pos q ≡ pos u +ℤ h →
        pos s ≡ pos t +ℤ (g +ℤ h)
    grown s p q t r u g h e₁ e₂ e₃ e₄ = omega (arith, ints, e₁, e₂, e₃, e₄)

table_most : (n : ℕ) → get_or (1 ∷ 2 ∷ 0 ∷ 3 ∷ 4 ∷ []) n 0 ≤ 4
table_most zero = omega arith
table_most (suc zero) = omega arith
table_most (suc (suc zero)) = omega arith
table_most (suc (suc (suc zero))) = omega arith
table_most (suc (suc (suc (suc zero)))) = omega arith
table_most (suc (suc (suc (suc (suc n))))) = omega arith

edge_most : (s : ℕ) (o p : Option ℕ) → edge_of s o p ≤ 4
edge_most s None p = omega arith
edge_most s (Some a) None = omega arith
edge_most s (Some a) (Some b) = table_most (compared s a + compared s b)

pub category_most : (kind : SaoKind) (plane : Plane) (x y : ℕ) → category kind plane x y ≤ 4
category_most Off plane x y = omega arith
category_most (Band position) plane x y =
    let k : ℕ = (sample_at plane x y / 8 + 32 - position) % 32 in band_most k
  where
    band_most : (k : ℕ) → cond (nat_lt k 4) (k + 1) 0 ≤ 4
    band_most k = grind (arith, nat_tests)
category_most (Edge class) plane x y = edge_most (sample_at plane x y) (neighbour class 0 plane x y) (neighbour class 1 plane x y)

-- a sample without a category stays
stays : (b : Block) (component : SaoComponent) (a : Location) → HasByteSamples b.deblocked →
    category component.kind b.deblocked a.x a.y ≡ 0 → growth_at b component a ≡ pos 0
stays b component a bytes none =
    let s : ℕ = sample_at b.deblocked a.x a.y in
    let same : sao_sample component b.deblocked a.x a.y ≡ s =
    ap (λ k. clip1 (pos s +ℤ SaoOffsetVal component k)) none
    ∙ clip1_same s (byte_at b.deblocked.samples (a.y * b.deblocked.width + a.x) bytes) in
    let still : pos (sao_sample component b.deblocked a.x a.y) -ℤ pos s ≡ pos 0 = omega (arith, ints, same) in
    ap (λ c. growth (pos 1) (difference b a) c) still ∙ no_growth (difference b a)
  where
    no_growth : (z : ℤ) → growth (pos 1) z (pos 0) ≡ pos 0
    no_growth z = omega (arith, ints)

-- the growth by the four categories
pub errors_by_category : (b : Block) (component : SaoComponent) (g₀ g₁ g₂ g₃ : ℤ) → HasByteSamples b.deblocked →
    g₀ ≡ category_growth b component 0 → g₁ ≡ category_growth b component 1 → g₂ ≡ category_growth b component 2 →
    g₃ ≡ category_growth b component 3 →
    pos (squared_errors b component) ≡ pos (sum_by (input_error b) (locations b.area)) +ℤ (g₀ +ℤ g₁ +ℤ g₂ +ℤ g₃)
unfolding sum_upto
errors_by_category b component g₀ g₁ g₂ g₃ bytes e₀ e₁ e₂ e₃ =
    let key : Location → ℕ = λ a. category component.kind b.deblocked a.x a.y in
    let all : chosen (λ a. true) (growth_at b component) (locations b.area) ≡
    sum_upto 4 (λ j. chosen (has_key key (1 + j)) (growth_at b component) (locations b.area)) =
    chosen-group (λ a. true) key 1 4 (growth_at b component) (λ j. growth_at b component) (locations b.area)
    (λ a.
    ⊎_elim
    (λ none. stays b component a bytes (omega (arith, none)) ∙ sym (other_keys 4 (key a) 1 (λ j. growth_at b component a) (inl none)))
    (λ some. sym (own_key 4 (key a) 1 (λ j. growth_at b component a) some (omega (arith, category_most component.kind b.deblocked a.x a.y))))
    (cases_lt (key a) 1)) in
    ap pos (sum-map (squared_error b component) (locations b.area))
    ∙ errors_grow b component (locations b.area)
    ∙ ap (λ z. pos (sum_by (input_error b) (locations b.area)) +ℤ z)
    (all ∙ four g₀ g₁ g₂ g₃ (category_growth b component 0) (category_growth b component 1) (category_growth b component 2)
    (category_growth b component 3) e₀ e₁ e₂ e₃)
  where
    four : (g₀ g₁ g₂ g₃ h₀ h₁ h₂ h₃ : ℤ) → g₀ ≡ h₀ → g₁ ≡ h₁ → g₂ ≡ h₂ → g₃ ≡ h₃ →
        (pos 0 +ℤ h₀) +ℤ h₁ +ℤ h₂ +ℤ h₃ ≡ g₀ +ℤ g₁ +ℤ g₂ +ℤ g₃
    four g₀ g₁ g₂ g₃ h₀ h₁ h₂ h₃ e₀ e₁ e₂ e₃ = omega (arith, ints, e₀, e₁, e₂, e₃)
