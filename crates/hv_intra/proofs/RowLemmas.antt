-- Blocks that are filled by rows.
use Rattle.std.proofs.Common.{◌≡◌, ℕ, zero, suc, ◌+◌, ◌-◌, ◌*◌, ◌^◌, ◌<◌, ◌≤◌, List, [], ◌∷◌, ◌++◌, length, take, drop, get_or, refl, sym, ap, ap₂, ◌∙◌, arith, subst, inl, inr, mul-le-mul_right}
use Rattle.std.specs.Prelude.{◌⊎◌}
use Rattle.std.specs.List.{flat_map}
use Rattle.std.proofs.lemmas.Bool.{cases_lt}
use Rattle.std.proofs.lemmas.List.{get_or_append_left, get_or-append_right, get_or-take, get_or-drop, length-take-le, length-take, length-drop, length-append, take-append-drop}
use borrow.Rule.Slice.PartMut.{put_mid, post_of}
use Rattle.hv_lemmas.specs.Lists.{tabulate}
use Rattle.hv_sample_model.specs.Blocks.{square}
use Rattle.hv_intra.specs.Blocks.{IsRow, HasRows}

pub row_below : (y z n : ℕ) → y < z → y * n + n ≤ z * n
row_below y z n h =
    let m : suc y * n ≤ z * n = mul-le-mul_right n h in omega (arith, m)

-- a row written behind those that are right
pub rows_more : (n y k : ℕ) (block row : List ℕ) (f : ℕ → ℕ → ℕ) → length row ≡ n →
    y * n + n ≤ length block → HasRows n y f block → IsRow n (λ x. f x y) row →
    HasRows n (y + 1) f (put_mid (y * n) k block row)
rows_more n y k block row f count room rows right = λ x z inside below. go x z inside below (cases_lt z y)
  where
    front : length (take (y * n) block) ≡ y * n
    front = length-take-le (y * n) block (omega arith)

    go : (x z : ℕ) → x < n → z < y + 1 → (z < y) ⊎ (y ≤ z) →
        get_or (put_mid (y * n) k block row) (z * n + x) 0 ≡ f x z
    go x z inside below (inl h) =
        let m = row_below z y n h in
        get_or_append_left (take (y * n) block) (row ++ post_of (y * n) k block) 0 (z * n + x)
        (omega (arith, front, m)) ∙
        get_or-take (y * n) block (z * n + x) 0 (omega (arith, m)) ∙ rows x z inside h
    go x z inside below (inr h) =
        let same : z ≡ y = omega arith in
        let at : z * n + x - y * n ≡ x = rw same (omega arith) in
        get_or-append_right (take (y * n) block) (row ++ post_of (y * n) k block) (y * n) (z * n + x) 0
        front (rw same (omega arith)) ∙
        ap (λ (i : ℕ). get_or (row ++ post_of (y * n) k block) i 0) at ∙
        get_or_append_left row (post_of (y * n) k block) 0 x (omega arith) ∙
        right x inside ∙ ap (f x) (sym same)

-- the length of a row of a block
pub length-row : (n m y : ℕ) (block : List ℕ) → m ≡ n → y < m → n * n ≤ length block →
    length (take (y * m + m - y * m) (drop (y * m) block)) ≡ n
length-row n m y block e below all =
    let h : y < n = omega arith in
    let room : y * n + n ≤ length block = omega (arith, row_below y n n h, all) in
    length-take (y * m + m - y * m) (drop (y * m) block) ∙
    rw (length-drop (y * m) block, e) (omega (arith, room))

-- the same, where the code computed the side
pub rows_written : (n m y : ℕ) (block row : List ℕ) (f : ℕ → ℕ → ℕ) → m ≡ n → y < m →
    n * n ≤ length block →
    length row ≡ length (take (y * m + m - y * m) (drop (y * m) block)) → HasRows n y f block →
    IsRow n (λ x. f x y) row → HasRows n (y + 1) f (put_mid (y * m) (y * m + m - y * m) block row)
rows_written n m y block row f e below all count rows right =
    let h : y < n = omega arith in
    let room : y * n + n ≤ length block = omega (arith, row_below y n n h, all) in
    let side : length row ≡ n = count ∙ length-row n m y block e below all in
    subst (λ (j : ℕ). HasRows n (y + 1) f (put_mid (y * j) (y * m + m - y * m) block row)) (sym e)
    (rows_more n y (y * m + m - y * m) block row f side room rows right)

-- ---- whole blocks
row_is : (n : ℕ) (f : ℕ → ℕ) (row : List ℕ) → length row ≡ n → IsRow n f row → row ≡ tabulate n f
unfolding tabulate
row_is zero f [] count right = refl
row_is zero f (x ∷ row) count right = absurd (omega arith)
row_is (suc n) f [] count right = absurd (omega arith)
row_is (suc n) f (x ∷ row) count right =
    ap₂ (λ (y : ℕ) (ys : List ℕ). y ∷ ys) (right 0 (omega arith))
    (row_is n (λ i. f (suc i)) row (omega arith) (λ i h. right (suc i) (omega arith)))

rows_are : (n rows : ℕ) (f : ℕ → ℕ → ℕ) (block : List ℕ) → length block ≡ rows * n →
    HasRows n rows f block →
    block ≡ flat_map (λ row. row) (tabulate rows (λ y. tabulate n (λ x. f x y)))
unfolding tabulate
rows_are n zero f [] count right = refl
rows_are n zero f (x ∷ block) count right = absurd (omega arith)
rows_are n (suc rows) f block count right =
    let room : n ≤ length block = omega arith in
    let head : take n block ≡ tabulate n (λ x. f x 0) =
    row_is n (λ x. f x 0) (take n block) (length-take-le n block room)
    (λ x h. get_or-take n block x 0 h ∙
    ap (λ (i : ℕ). get_or block i 0) (omega arith) ∙ right x 0 h (omega arith)) in
    let rest : drop n block ≡ flat_map (λ row. row) (tabulate rows (λ y. tabulate n (λ x. f x (suc y)))) =
    rows_are n rows (λ x y. f x (suc y)) (drop n block) (omega (arith, length-drop n block))
    (λ x y h k. get_or-drop n block (y * n + x) 0 ∙
    ap (λ (i : ℕ). get_or block i 0) (omega arith) ∙ right x (suc y) h (omega arith)) in
    sym (take-append-drop n block) ∙ ap₂ (λ (xs ys : List ℕ). xs ++ ys) head rest

-- a block with every row right
pub block_is : (log2 : ℕ) (f : ℕ → ℕ → ℕ) (block : List ℕ) → length block ≡ 2 ^ log2 * 2 ^ log2 →
    HasRows (2 ^ log2) (2 ^ log2) f block → block ≡ square log2 f
block_is log2 f block count right = rows_are (2 ^ log2) (2 ^ log2) f block count right

pub rows_same : (n rows : ℕ) (f g : ℕ → ℕ → ℕ) (block : List ℕ) →
    ((x y : ℕ) → x < n → y < rows → f x y ≡ g x y) → HasRows n rows f block → HasRows n rows g block
rows_same n rows f g block same right = λ x y h k. right x y h k ∙ same x y h k

-- ---- rows that are written part by part
pub row_part : (a m k : ℕ) (f : ℕ → ℕ) (row part : List ℕ) → a ≤ length row → length part ≡ m →
    IsRow a f row → IsRow m (λ i. f (a + i)) part → IsRow (a + m) f (put_mid a k row part)
row_part a m k f row part inside long old new = λ x below. go x below (cases_lt x a)
  where
    front : length (take a row) ≡ a
    front = length-take-le a row inside

    go : (x : ℕ) → x < a + m → (x < a) ⊎ (a ≤ x) → get_or (put_mid a k row part) x 0 ≡ f x
    go x below (inl h) =
        get_or_append_left (take a row) (part ++ post_of a k row) 0 x (omega (arith, front)) ∙
        get_or-take a row x 0 h ∙ old x h
    go x below (inr h) =
        get_or-append_right (take a row) (part ++ post_of a k row) a x 0 front h ∙
        get_or_append_left part (post_of a k row) 0 (x - a) (omega (arith, long)) ∙
        new (x - a) (omega arith) ∙ ap f (omega arith)

pub in_part : (a m x : ℕ) (row : List ℕ) → x < m → get_or (take m (drop a row)) x 0 ≡ get_or row (a + x) 0
in_part a m x row below = get_or-take m (drop a row) x 0 below ∙ get_or-drop a row x 0

-- a part of the length that its bounds say
pub length-part : (a m : ℕ) (row : List ℕ) → a + m ≤ length row → length (take m (drop a row)) ≡ m
length-part a m row inside = length-take-le m (drop a row) (omega (arith, length-drop a row))

put_mid_long : (a k : ℕ) (row part : List ℕ) → a ≤ length row → a + length part ≤ length (put_mid a k row part)
put_mid_long a k row part inside =
    let front : length (take a row) ≡ a = length-take-le a row inside in
    omega (arith, front, length-append (take a row) (part ++ post_of a k row), length-append part (post_of a k row))

-- two parts, one behind the other
pub row_parts : (a m k l b : ℕ) (f : ℕ → ℕ) (row part more : List ℕ) → b ≡ a + m → a ≤ length row →
    length part ≡ m → length more ≡ m → IsRow a f row → IsRow m (λ i. f (a + i)) part →
    IsRow m (λ i. f (a + m + i)) more → IsRow (a + m + m) f (put_mid b l (put_mid a k row part) more)
row_parts a m k l b f row part more e inside long longer old new newer =
    subst (λ (c : ℕ). IsRow (a + m + m) f (put_mid c l (put_mid a k row part) more)) (sym e)
    (row_part (a + m) m l f (put_mid a k row part) more
    (omega (arith, put_mid_long a k row part inside, long)) longer
    (row_part a m k f row part inside long old new) newer)

-- what a part leaves
pub length-parted : (a k : ℕ) (row part : List ℕ) → a + k ≤ length row → length part ≡ k →
    length (put_mid a k row part) ≡ length row
length-parted a k row part inside long =
    let front : length (take a row) ≡ a = length-take-le a row (omega arith) in
    omega (arith, front, long, inside, length-append (take a row) (part ++ post_of a k row), length-append part (post_of a k row), length-drop k (drop a row), length-drop a row)

pub before_part : (a k x : ℕ) (row part : List ℕ) → a ≤ length row → x < a →
    get_or (put_mid a k row part) x 0 ≡ get_or row x 0
before_part a k x row part inside below =
    let front : length (take a row) ≡ a = length-take-le a row inside in
    get_or_append_left (take a row) (part ++ post_of a k row) 0 x (omega (arith, front)) ∙ get_or-take a row x 0 below

pub inside_part : (a k x : ℕ) (row part : List ℕ) → a ≤ length row → x < length part →
    get_or (put_mid a k row part) (a + x) 0 ≡ get_or part x 0
inside_part a k x row part inside below =
    let front : length (take a row) ≡ a = length-take-le a row inside in
    get_or-append_right (take a row) (part ++ post_of a k row) a (a + x) 0 front (omega arith) ∙
    ap (λ (i : ℕ). get_or (part ++ post_of a k row) i 0) (omega arith) ∙
    get_or_append_left part (post_of a k row) 0 x below
