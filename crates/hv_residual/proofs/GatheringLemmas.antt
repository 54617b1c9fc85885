-- The levels of a sub-block, gathered one after another, and the last one that isn't 0.
use Rattle.std.proofs.Common.{◌≡◌, ℕ, zero, suc, ◌+◌, ◌-◌, ◌*◌, ◌/◌, ◌%◌, ◌^◌, ◌<◌, ◌≤◌, Bool, true, false, ◌&&◌, List, [], ◌∷◌, ◌++◌, ℤ, pos, length, replicate, take, drop, set, get_or, slice_index_or, refl, ap, sym, ◌∙◌, arith, add-zero, add-suc, append_assoc, append-nil, drop_of_length-le}
use Rattle.std.proofs.Math.Seq.{take-length}
use Rattle.std.proofs.lemmas.Bool.{and_parts}
use Rattle.std.proofs.lemmas.List.{take_more_set}
use Rattle.hv_residual_model.specs.ScanOrder.{Position, at, position_at, block_position}
use Rattle.hv_residual_model.specs.ResidualContexts.{TransformBlock}
use Rattle.hv_residual_model.specs.ResidualSyntax.{sub_block_at}
use Rattle.hv_residual_model.specs.ResidualBins.{level_at, downwards, levels_below, last_below, last_significant}
use Rattle.hv_plan.specs.Levels.{is_significant}
use Rattle.hv_residual.specs.Levels.{zeros_before, with_gaps}
use Rattle.hv_residual.proofs.FlagLemmas.{split_at}
use Rattle.hv_residual.proofs.ScanLemmas.{inside_sub_block}

-- ---- numbers of sub-blocks and positions
pub quotient : (s i : ℕ) → i < 16 → (16 * s + i) / 16 ≡ s
quotient s i h = omega arith

pub remainder : (s i : ℕ) → i < 16 → (16 * s + i) % 16 ≡ i
remainder s i h = omega arith

-- the level at a position, by rows from the corner of its sub-block
abbrev pub level_by_rows : TransformBlock → List ℤ → Position → Position → ℤ
level_by_rows b levels S P = slice_index_or levels
    ((4 * S.y + P.y) * 2 ^ b.log2TrafoSize + (4 * S.x + P.x)) (pos 0)

pub level_in_sub_block : (b : TransformBlock) (levels : List ℤ) (s i : ℕ) → i < 16 →
    level_at b levels (16 * s + i) ≡
    level_by_rows b levels (sub_block_at b s) (position_at b.scanIdx 2 i)
unfolding level_at block_position
level_in_sub_block b levels s i h = rw (quotient s i h, remainder s i h) refl

-- ---- gathering
abbrev pub level_of : TransformBlock → List ℤ → ℕ → ℕ → ℤ
level_of b levels s i = level_at b levels (16 * s + i)

next_down : (f : ℕ → ℤ) (k : ℕ) → k < 16 → downwards (16 - k) f ≡ f (15 - k) ∷ downwards (16 - (k + 1)) f
unfolding downwards
next_down f k h =
    let e : 16 - k ≡ suc (15 - k) = omega arith in
    let g : 16 - (k + 1) ≡ 15 - k = omega arith in
    rw (e, g) refl

pub gather_step : (b : TransformBlock) (levels : List ℤ) (s k : ℕ) (all : List ℤ) (v : ℤ) (S : Position) →
    k < 16 → length all ≡ 16 → S ≡ sub_block_at b s →
    v ≡ level_by_rows b levels S (position_at b.scanIdx 2 (15 - k)) →
    take k all ++ downwards (16 - k) (level_of b levels s) ≡ downwards 16 (level_of b levels s) →
    take (k + 1) (set all k v) ++ downwards (16 - (k + 1)) (level_of b levels s) ≡
    downwards 16 (level_of b levels s)
gather_step b levels s k all v S h room eS ev before =
    let f : ℕ → ℤ = level_of b levels s in
    let el : f (15 - k) ≡ v =
    level_in_sub_block b levels s (15 - k) (omega arith) ∙ sym (rw eS at ev) in
    let d : downwards (16 - k) f ≡ v ∷ downwards (16 - (k + 1)) f =
    next_down f k h ∙ ap (λ (x : ℤ). x ∷ downwards (16 - (k + 1)) f) el in
    rw (take_more_set all k v (omega (arith, room)))
    (append_assoc (take k all) (v ∷ []) (downwards (16 - (k + 1)) f) ∙
    ap (λ (xs : List ℤ). take k all ++ xs) (sym d) ∙ before)

pub gathered : (all : List ℤ) (k : ℕ) (f : ℕ → ℤ) → length all ≡ 16 → 16 ≤ k → k ≤ 16 →
    take k all ++ downwards (16 - k) f ≡ downwards 16 f → all ≡ downwards 16 f
unfolding downwards
gathered all k f room least most h =
    let e : k ≡ 16 = omega arith in
    let t : take (length all) all ++ [] ≡ take 16 all ++ [] = rw room refl in
    sym (append-nil all) ∙ ap (λ (xs : List ℤ). xs ++ []) (sym (take-length all)) ∙ t ∙ rw e at h

pub as_levels_below : (b : TransformBlock) (levels : List ℤ) (s : ℕ) →
    levels_below b levels s 16 ≡ downwards 16 (level_of b levels s)
unfolding levels_below
as_levels_below b levels s = refl

-- ---- levels that are 0 before the first other
pub zero_more : (levels : List ℤ) (i : ℕ) → i < length levels →
    is_significant (get_or levels i (pos 0)) ≡ false →
    zeros_before (drop i levels) ≡ suc (zeros_before (drop (i + 1) levels))
zero_more levels i h e = rw (split_at levels i (pos 0) h) (rw e refl)

pub zero_ends : (levels : List ℤ) (i : ℕ) → i < length levels →
    is_significant (get_or levels i (pos 0)) ≡ true → zeros_before (drop i levels) ≡ 0
zero_ends levels i h e = rw (split_at levels i (pos 0) h) (rw e refl)

pub all_zero : (levels : List ℤ) (i : ℕ) → length levels ≤ i → zeros_before (drop i levels) ≡ 0
all_zero levels i h = let d : drop i levels ≡ [] = drop_of_length-le levels h in rw d refl

-- ---- the last level that isn't 0
skip_case : (b : TransformBlock) (levels : List ℤ) (s n : ℕ) (t : Bool) →
    is_significant (level_of b levels s n) ≡ t →
    suc n ≤ zeros_before (level_of b levels s n ∷ downwards n (level_of b levels s)) →
    (n ≤ zeros_before (downwards n (level_of b levels s)) →
    last_below b levels (16 * s + n) ≡ last_below b levels (16 * s)) →
    last_below b levels (suc (16 * s + n)) ≡ last_below b levels (16 * s)
skip_case b levels s n true e h before = absurd (omega (arith, rw e at h))
skip_case b levels s n false e h before =
    rw e (before (omega (arith, rw e at h)))

pub skip_zeros : (b : TransformBlock) (levels : List ℤ) (s n : ℕ) →
    n ≤ zeros_before (downwards n (level_of b levels s)) →
    last_below b levels (16 * s + n) ≡ last_below b levels (16 * s)
unfolding downwards
skip_zeros b levels s zero h = rw (add-zero (16 * s)) refl
skip_zeros b levels s (suc n) h =
    rw (add-suc (16 * s) n)
    (skip_case b levels s n (is_significant (level_of b levels s n)) refl h (skip_zeros b levels s n))

find_case : (b : TransformBlock) (levels : List ℤ) (s n : ℕ) (t : Bool) →
    is_significant (level_of b levels s n) ≡ t →
    zeros_before (level_of b levels s n ∷ downwards n (level_of b levels s)) < suc n →
    (zeros_before (downwards n (level_of b levels s)) < n →
    last_below b levels (16 * s + n) ≡
    16 * s + (n - 1 - zeros_before (downwards n (level_of b levels s)))) →
    last_below b levels (suc (16 * s + n)) ≡
    16 * s + (n - zeros_before (level_of b levels s n ∷ downwards n (level_of b levels s)))
find_case b levels s n true e h before =
    let z : n - 0 ≡ n = omega arith in
    rw (e, z) refl
find_case b levels s n false e h before =
    let k : suc (zeros_before (downwards n (level_of b levels s))) < suc n = rw e at h in
    let f : n - 1 - zeros_before (downwards n (level_of b levels s)) ≡
    n - suc (zeros_before (downwards n (level_of b levels s))) = omega arith in
    rw e (before (omega (arith, k)) ∙ ap (λ (x : ℕ). 16 * s + x) f)

pub find_first : (b : TransformBlock) (levels : List ℤ) (s n : ℕ) →
    zeros_before (downwards n (level_of b levels s)) < n →
    last_below b levels (16 * s + n) ≡
    16 * s + (n - 1 - zeros_before (downwards n (level_of b levels s)))
unfolding downwards
find_first b levels s zero h = absurd (omega arith)
find_first b levels s (suc n) h =
    let e : suc n - 1 ≡ n = omega arith in
    rw (add-suc (16 * s) n, e)
    (find_case b levels s n (is_significant (level_of b levels s n)) refl h (find_first b levels s n))

-- by what the code computed
pub skip_step : (b : TransformBlock) (levels : List ℤ) (s : ℕ) (these : List ℤ) (zeros : ℕ) →
    0 < s → these ≡ levels_below b levels (s - 1) 16 → zeros ≡ zeros_before these → 16 ≤ zeros →
    last_below b levels (16 * s) ≡ last_below b levels (16 * (s - 1))
skip_step b levels s these zeros h et ez k =
    let e : 16 * s ≡ 16 * (s - 1) + 16 = omega arith in
    let z : zeros ≡ zeros_before (downwards 16 (level_of b levels (s - 1))) =
    ez ∙ ap zeros_before (et ∙ as_levels_below b levels (s - 1)) in
    rw e (skip_zeros b levels (s - 1) 16 (omega (arith, z, k)))

pub find_step : (b : TransformBlock) (levels : List ℤ) (s : ℕ) (these : List ℤ) (zeros : ℕ) →
    0 < s → these ≡ levels_below b levels (s - 1) 16 → zeros ≡ zeros_before these → zeros < 16 →
    last_below b levels (16 * s) ≡ 16 * (s - 1) + (15 - zeros)
find_step b levels s these zeros h et ez k =
    let e : 16 * s ≡ 16 * (s - 1) + 16 = omega arith in
    let z : zeros ≡ zeros_before (downwards 16 (level_of b levels (s - 1))) =
    ez ∙ ap zeros_before (et ∙ as_levels_below b levels (s - 1)) in
    rw (e, z) (find_first b levels (s - 1) 16 (omega (arith, z, k)))

pub whole_block : (b : TransformBlock) (levels : List ℤ) (n : ℕ) →
    n ≡ 2 ^ b.log2TrafoSize * 2 ^ b.log2TrafoSize →
    last_significant b levels ≡ last_below b levels n
unfolding last_significant
whole_block b levels n e = ap (λ (k : ℕ). last_below b levels k) (sym e)

pub nothing_below : (b : TransformBlock) (levels : List ℤ) (s : ℕ) → s ≤ 0 →
    last_below b levels (16 * s) ≡ 0
nothing_below b levels s h = let e : s ≡ 0 = omega arith in rw e refl

-- ---- a sub-block that is 0
all_zeros : (n : ℕ) (f : ℕ → ℤ) → ((i : ℕ) → i < n → f i ≡ pos 0) →
    downwards n f ≡ replicate n (pos 0)
unfolding downwards
all_zeros zero f zeros = refl
all_zeros (suc n) f zeros =
    let first : f n ≡ pos 0 = zeros n (omega arith) in
    let later = all_zeros n f (λ i h. zeros i (omega arith)) in
    rw (first, later) refl

pub clear_levels : (b : TransformBlock) (levels : List ℤ) (s : ℕ) (S : Position) →
    S ≡ sub_block_at b s →
    ((x y : ℕ) → x < 4 → y < 4 → level_by_rows b levels S (at x y) ≡ pos 0) →
    replicate 16 (pos 0) ≡ levels_below b levels s 16
unfolding levels_below
clear_levels b levels s S eS zeros =
    sym (all_zeros 16 (level_of b levels s) (λ i h.
    let inside = inside_sub_block b.scanIdx i h in
    let P : Position = position_at b.scanIdx 2 i in
    level_in_sub_block b levels s i h ∙
    rw (← eS) (zeros P.x P.y inside.0 inside.1)))

pub four_rows : (Holds : ℕ → ℕ → Type 0) (a b c d : Bool) →
    (a ≡ true → (x : ℕ) → x < 4 → Holds x 0) → (b ≡ true → (x : ℕ) → x < 4 → Holds x 1) →
    (c ≡ true → (x : ℕ) → x < 4 → Holds x 2) → (d ≡ true → (x : ℕ) → x < 4 → Holds x 3) →
    ((a && b) && (c && d)) ≡ true → (x y : ℕ) → x < 4 → y < 4 → Holds x y
four_rows Holds a b c d first second third fourth all x zero h k =
    first (and_parts a b (and_parts (a && b) (c && d) all).0).0 x h
four_rows Holds a b c d first second third fourth all x (suc zero) h k =
    second (and_parts a b (and_parts (a && b) (c && d) all).0).1 x h
four_rows Holds a b c d first second third fourth all x (suc (suc zero)) h k =
    third (and_parts c d (and_parts (a && b) (c && d) all).1).0 x h
four_rows Holds a b c d first second third fourth all x (suc (suc (suc zero))) h k =
    fourth (and_parts c d (and_parts (a && b) (c && d) all).1).1 x h
four_rows Holds a b c d first second third fourth all x (suc (suc (suc (suc y)))) h k =
    absurd (omega arith)

-- ---- rows
pub four_entries : (f : ℕ → ℤ) (a b c d : ℤ) → a ≡ f 0 → b ≡ f 1 → c ≡ f 2 → d ≡ f 3 →
    (x : ℕ) → x < 4 → get_or (a ∷ b ∷ c ∷ d ∷ []) x (pos 0) ≡ f x
four_entries f a b c d ea eb ec ed zero h = ea
four_entries f a b c d ea eb ec ed (suc zero) h = eb
four_entries f a b c d ea eb ec ed (suc (suc zero)) h = ec
four_entries f a b c d ea eb ec ed (suc (suc (suc zero))) h = ed
four_entries f a b c d ea eb ec ed (suc (suc (suc (suc x)))) h = absurd (omega arith)

pub gaps_at : (f : ℕ → ℕ → ℤ) (a b c d : List ℤ) →
    ((x : ℕ) → x < 4 → get_or a x (pos 0) ≡ f x 0) → ((x : ℕ) → x < 4 → get_or b x (pos 0) ≡ f x 1) →
    ((x : ℕ) → x < 4 → get_or c x (pos 0) ≡ f x 2) → ((x : ℕ) → x < 4 → get_or d x (pos 0) ≡ f x 3) →
    (x y : ℕ) → x < 4 → y < 4 → get_or (with_gaps a b c d) (8 * y + x) (pos 0) ≡ f x y
gaps_at f a b c d ea eb ec ed zero zero h k = ea 0 h
gaps_at f a b c d ea eb ec ed (suc zero) zero h k = ea 1 h
gaps_at f a b c d ea eb ec ed (suc (suc zero)) zero h k = ea 2 h
gaps_at f a b c d ea eb ec ed (suc (suc (suc zero))) zero h k = ea 3 h
gaps_at f a b c d ea eb ec ed (suc (suc (suc (suc x)))) zero h k = absurd (omega arith)
gaps_at f a b c d ea eb ec ed zero (suc zero) h k = eb 0 h
gaps_at f a b c d ea eb ec ed (suc zero) (suc zero) h k = eb 1 h
gaps_at f a b c d ea eb ec ed (suc (suc zero)) (suc zero) h k = eb 2 h
gaps_at f a b c d ea eb ec ed (suc (suc (suc zero))) (suc zero) h k = eb 3 h
gaps_at f a b c d ea eb ec ed (suc (suc (suc (suc x)))) (suc zero) h k = absurd (omega arith)
gaps_at f a b c d ea eb ec ed zero (suc (suc zero)) h k = ec 0 h
gaps_at f a b c d ea eb ec ed (suc zero) (suc (suc zero)) h k = ec 1 h
gaps_at f a b c d ea eb ec ed (suc (suc zero)) (suc (suc zero)) h k = ec 2 h
gaps_at f a b c d ea eb ec ed (suc (suc (suc zero))) (suc (suc zero)) h k = ec 3 h
gaps_at f a b c d ea eb ec ed (suc (suc (suc (suc x)))) (suc (suc zero)) h k = absurd (omega arith)
gaps_at f a b c d ea eb ec ed zero (suc (suc (suc zero))) h k = ed 0 h
gaps_at f a b c d ea eb ec ed (suc zero) (suc (suc (suc zero))) h k = ed 1 h
gaps_at f a b c d ea eb ec ed (suc (suc zero)) (suc (suc (suc zero))) h k = ed 2 h
gaps_at f a b c d ea eb ec ed (suc (suc (suc zero))) (suc (suc (suc zero))) h k = ed 3 h
gaps_at f a b c d ea eb ec ed (suc (suc (suc (suc x)))) (suc (suc (suc zero))) h k = absurd (omega arith)
gaps_at f a b c d ea eb ec ed x (suc (suc (suc (suc y)))) h k = absurd (omega arith)
