-- What a store of a vector leaves.
use Rattle.std.proofs.Common.{◌≡◌, ℕ, ◌+◌, ◌-◌, ◌<◌, ◌≤◌, List, ◌++◌, length, take, drop, get_or, arith, sym, ap, ◌∙◌, length-take-le, zero-add, subst}
use Rattle.std.proofs.Math.Seq.{take-append_seam}
use mathlib.Core.Logic.{◌⊎◌, inl, inr}
use Rattle.std.proofs.lemmas.Bool.{cases_lt}
use Rattle.std.specs.Simd.Lanes.{put_chunk}
use borrow.Rule.Slice.PartMut.{put_mid, mid_of}
use Rattle.std.proofs.lemmas.List.{drop-take, drop-append-le, get_or-take, get_or-drop}
use Rattle.std.proofs.lemmas.Slice.{take-put_mid, take-put_mid_below}
use Rattle.std.proofs.lemmas.Simd.{put_chunk_whole, length-chunk}

pub stored : (a e k : ℕ) (xs ys : List ℕ) → e ≡ a + k → length ys ≡ k → a + k ≤ length xs → put_mid a (e - a) xs (put_chunk 0 (mid_of a (e - a) xs) ys) ≡ put_mid a k xs ys
stored a e k xs ys f g h =
    let n : e - a ≡ k = omega arith in
    rw n (ap (put_mid a k xs) (put_chunk_whole (mid_of a k xs) ys (length-chunk a k xs h ∙ sym g)))

-- a part of what was cut off
pub part_of_take : (i n : ℕ) (xs : List ℕ) → take n (drop i xs) ≡ drop i (take (i + n) xs)
part_of_take i n xs = sym (drop-take i n xs)

pub stored_before : (a k i n : ℕ) (xs ys : List ℕ) → i + n ≤ a → a ≤ length xs → take n (drop i (put_mid a k xs ys)) ≡ take n (drop i xs)
stored_before a k i n xs ys h g =
    part_of_take i n (put_mid a k xs ys) ∙ ap (drop i) (take-put_mid_below a k xs ys (i + n) h g) ∙ drop-take i n xs

drop_joined : (i n : ℕ) (xs ys : List ℕ) → i + n ≤ length xs → drop i (take (i + n) xs ++ ys) ≡ take n (drop i xs) ++ ys
drop_joined i n xs ys h =
    let long : i ≤ length (take (i + n) xs) = omega (arith, length-take-le (i + n) xs h) in
    drop-append-le i (take (i + n) xs) ys long ∙ ap (λ zs. zs ++ ys) (drop-take i n xs)

pub stored_joined : (a k i n : ℕ) (xs ys : List ℕ) → i + n ≡ a → a + k ≤ length xs → length ys ≡ k → take (n + k) (drop i (put_mid a k xs ys)) ≡ take n (drop i xs) ++ ys
stored_joined a k i n xs ys e h g =
    let end : i + (n + k) ≡ a + length ys = omega arith in
    part_of_take i (n + k) (put_mid a k xs ys) ∙ ap (drop i) (take-put_mid a k xs ys (i + (n + k)) end (omega arith)) ∙
    rw (← e) (drop_joined i n xs ys (omega arith))

pub stored_at : (a k : ℕ) (xs ys : List ℕ) → a + k ≤ length xs → length ys ≡ k → take k (drop a (put_mid a k xs ys)) ≡ ys
stored_at a k xs ys h g = subst (λ m. take m (drop a (put_mid a k xs ys)) ≡ ys) (zero-add k) (stored_joined a k a 0 xs ys (omega arith) h g)

-- what holds below n and at n holds below n + 1
pub below_more : (P : ℕ → Type 0) (n : ℕ) → ((p : ℕ) → p < n → P p) → P n → (p : ℕ) → p < n + 1 → P p
below_more P n before last p h = choose (cases_lt p n)
  where
    choose : (p < n) ⊎ (n ≤ p) → P p
    choose (inl less) = before p less
    choose (inr more) = let e : n ≡ p = omega arith in subst P e last

-- a lane that was stored, and what stands before
pub stored_lane : (a k j : ℕ) (xs ys : List ℕ) → a + k ≤ length xs → length ys ≡ k → j < k →
    get_or (put_mid a k xs ys) (a + j) 0 ≡ get_or ys j 0
stored_lane a k j xs ys room e below =
    let at : get_or (take k (drop a (put_mid a k xs ys))) j 0 ≡ get_or (put_mid a k xs ys) (a + j) 0 =
    get_or-take k (drop a (put_mid a k xs ys)) j 0 below ∙ get_or-drop a (put_mid a k xs ys) j 0 in
    sym at ∙ ap (λ l. get_or l j 0) (stored_at a k xs ys room e)

pub kept_lane : (a k i : ℕ) (xs ys : List ℕ) → i < a → a ≤ length xs →
    get_or (put_mid a k xs ys) i 0 ≡ get_or xs i 0
kept_lane a k i xs ys before room =
    let one : take 1 (drop i (put_mid a k xs ys)) ≡ take 1 (drop i xs) =
    stored_before a k i 1 xs ys (omega (arith, before)) room in
    let at : (zs : List ℕ) → get_or (take 1 (drop i zs)) 0 0 ≡ get_or zs i 0 =
    λ zs. get_or-take 1 (drop i zs) 0 0 (omega arith) ∙ get_or-drop i zs 0 0 ∙ ap (λ m. get_or zs m 0) (omega arith) in
    sym (at (put_mid a k xs ys)) ∙ ap (λ l. get_or l 0 0) one ∙ at xs

-- a list that was put at the front of a longer one
pub front_of : (xs ys : List ℕ) (n : ℕ) → length xs ≡ n → take n (xs ++ ys) ≡ xs
front_of xs ys n e = ap (λ m. take m (xs ++ ys)) (sym e) ∙ take-append_seam xs ys
