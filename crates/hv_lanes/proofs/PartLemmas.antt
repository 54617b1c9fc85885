-- Lists that are written part by part, and lanes that are woven.
use Rattle.std.proofs.Common.{List, [], ap, ap₂, arith, drop, length, map, negsuc, pos, refl, subst, suc, sym, take, zero, ℕ, ℤ, ◌++◌, ◌+◌, ◌-◌, ◌<◌, ◌∙◌, ◌∷◌, ◌≡◌, ◌≤◌, ◌*◌}
use Rattle.std.proofs.lemmas.List.{ext_get_or, get_or-append_right, get_or-drop, get_or-map, get_or-take, get_or_append_left, get_or_past, length-map, length-take, length-take-le}
use lib.ListN.{get_or}
use borrow.Rule.Slice.PartMut.{post_of, put_mid}
use Rattle.std.proofs.lemmas.Bool.{cases_lt}
use mathlib.Core.Logic.{⊎_elim}
use Rattle.hv_lanes.specs.Passes.{HasFirst}
use Rattle.hv_lanes.specs.Lanes.{Numbers, at, woven}
use Rattle.std.proofs.lemmas.Int.{clamps, ints, to_z-of_z}
use mir.Syntax.{w16}
use mir.Val.{SFits, of_z, to_z}
use Rattle.hv_lanes.specs.Ranges.{Have16Bits}
use lib.Seq.{take_all}
use Rattle.std.proofs.lemmas.Simd.{put_chunk_whole}
use lib.Lanes.{put_chunk}
use Rattle.hv_lemmas.specs.Clipping.{clip16}

before : (a k j : ℕ) (xs ys : List ℤ) → a ≤ length xs → j < a → get_or (put_mid a k xs ys) j (pos 0) ≡ get_or xs j (pos 0)
before a k j xs ys inside below =
    let long : length (take a xs) ≡ a = length-take-le a xs inside in
    get_or_append_left (take a xs) (ys ++ post_of a k xs) (pos 0) j (omega arith) ∙ get_or-take a xs j (pos 0) below

within : (a k j : ℕ) (xs ys : List ℤ) → a ≤ length xs → j < length ys → get_or (put_mid a k xs ys) (a + j) (pos 0) ≡ get_or ys j (pos 0)
within a k j xs ys inside below =
    let long : length (take a xs) ≡ a = length-take-le a xs inside in
    get_or-append_right (take a xs) (ys ++ post_of a k xs) a (a + j) (pos 0) long (omega arith)
    ∙ ap (λ i. get_or (ys ++ post_of a k xs) i (pos 0)) (omega arith)
    ∙ get_or_append_left ys (post_of a k xs) (pos 0) j below

-- one more part
pub HasFirst-put : (a m k : ℕ) (f : ℕ → ℤ) (xs ys : List ℤ) → a ≤ length xs → length ys ≡ m → HasFirst a f xs → ((n : ℕ) → n < m → at ys n ≡ f (a + n)) → HasFirst (a + m) f (put_mid a k xs ys)
HasFirst-put a m k f xs ys inside long old new j below =
    ⊎_elim
    (λ (less : j < a). before a k j xs ys inside less ∙ old j less)
    (λ (more : a ≤ j).
    let e : a + (j - a) ≡ j = omega (arith, more) in
    subst (λ i. get_or (put_mid a k xs ys) i (pos 0) ≡ f i) e
    (within a k (j - a) xs ys inside (omega (arith, long, below, more)) ∙ new (j - a) (omega (arith, below, more))))
    (cases_lt j a)

-- a part of a list
pub at_part : (a m n : ℕ) (xs : List ℤ) → n < m → at (take m (drop a xs)) n ≡ at xs (a + n)
at_part a m n xs below = get_or-take m (drop a xs) n (pos 0) below ∙ get_or-drop a xs n (pos 0)

pub Numbers-part : (a m : ℕ) (xs : List ℤ) → Numbers xs → Numbers (take m (drop a xs))
Numbers-part a m xs f n =
    ⊎_elim
    (λ (below : n < m). subst (SFits w16) (sym (at_part a m n xs below)) (f (a + n)))
    (λ (past : m ≤ n). subst (SFits w16) (sym (get_or_past (take m (drop a xs)) n (pos 0) (omega (arith, past, length-take m (drop a xs))))) (record { sfits = omega (arith, ints) }))
    (cases_lt n m)

pub numbers_of_bits : (xs : List ℤ) → Have16Bits xs → Numbers xs
numbers_of_bits xs h k =
    ⊎_elim
    (λ (below : k < length xs). h k (pos 0) below)
    (λ (past : length xs ≤ k). subst (SFits w16) (sym (get_or_past xs k (pos 0) past)) (record { sfits = omega (arith, ints) }))
    (cases_lt k (length xs))

abbrev lane_of : List ℤ → List ℤ → ℕ → ℤ
lane_of xs ys i = to_z w16 (get_or (map (of_z w16) (take 8 xs) ++ map (of_z w16) (take 8 ys)) i 0)

lane_left : (xs ys : List ℤ) (i : ℕ) → length xs ≡ 8 → Numbers xs → i < 8 → lane_of xs ys i ≡ at xs i
lane_left xs ys i l f below =
    let all : take 8 xs ≡ xs = take_all 8 xs (omega (arith, l)) in
    let lane : get_or (map (of_z w16) (take 8 xs) ++ map (of_z w16) (take 8 ys)) i 0 ≡ of_z w16 (at xs i) =
    ap (λ v. get_or (map (of_z w16) v ++ map (of_z w16) (take 8 ys)) i 0) all ∙
    get_or_append_left (map (of_z w16) xs) (map (of_z w16) (take 8 ys)) 0 i (omega (arith, below, l, length-map xs (of_z w16))) ∙
    get_or-map (of_z w16) xs i (pos 0) 0 (omega (arith, below, l)) in
    ap (to_z w16) lane ∙ to_z-of_z w16 (at xs i) (f i)

lane_right : (xs ys : List ℤ) (i j : ℕ) → length xs ≡ 8 → length ys ≡ 8 → Numbers ys → i < 8 → j ≡ 8 + i → lane_of xs ys j ≡ at ys i
lane_right xs ys i j l m f below e =
    let first : take 8 xs ≡ xs = take_all 8 xs (omega (arith, l)) in
    let second : take 8 ys ≡ ys = take_all 8 ys (omega (arith, m)) in
    let other : j - 8 ≡ i = omega (arith, e) in
    let lane : get_or (map (of_z w16) (take 8 xs) ++ map (of_z w16) (take 8 ys)) j 0 ≡ of_z w16 (at ys i) =
    ap₂ (λ v w. get_or (map (of_z w16) v ++ map (of_z w16) w) j 0) first second ∙
    get_or-append_right (map (of_z w16) xs) (map (of_z w16) ys) 8 j 0 (length-map xs (of_z w16) ∙ l) (omega (arith, e)) ∙
    ap (λ k. get_or (map (of_z w16) ys) k 0) other ∙
    get_or-map (of_z w16) ys i (pos 0) 0 (omega (arith, below, m)) in
    ap (to_z w16) lane ∙ to_z-of_z w16 (at ys i) (f i)

abbrev eight_in_turn : (ℕ → ℤ) → List ℤ
eight_in_turn g = g 0 ∷ g 4 ∷ g 1 ∷ g 5 ∷ g 2 ∷ g 6 ∷ g 3 ∷ g 7 ∷ []

halves_in_turn : (g : ℕ → ℤ) (i h : ℕ) → i < 4 → h < 2 → at (eight_in_turn g) (2 * i + h) ≡ g (4 * h + i)
halves_in_turn g zero zero p q = refl
halves_in_turn g zero (suc zero) p q = refl
halves_in_turn g (suc zero) zero p q = refl
halves_in_turn g (suc zero) (suc zero) p q = refl
halves_in_turn g (suc (suc zero)) zero p q = refl
halves_in_turn g (suc (suc zero)) (suc zero) p q = refl
halves_in_turn g (suc (suc (suc zero))) zero p q = refl
halves_in_turn g (suc (suc (suc zero))) (suc zero) p q = refl
halves_in_turn g (suc (suc (suc (suc i)))) h p q = absurd (omega (arith, p))
halves_in_turn g i (suc (suc h)) p q = absurd (omega (arith, q))

-- two rows of four, in turn
pub two_rows_are : (xs : List ℤ) → length xs ≡ 8 → Numbers xs → (i h : ℕ) → i < 4 → h < 2 → at (eight_in_turn (lane_of xs xs)) (2 * i + h) ≡ at xs (4 * h + i)
two_rows_are xs l f i h p q =
    halves_in_turn (lane_of xs xs) i h p q ∙ lane_left xs xs (4 * h + i) l f (omega (arith, p, q))

abbrev sixteen : (ℕ → ℤ) → List ℤ
sixteen g = g 0 ∷ g 8 ∷ g 1 ∷ g 9 ∷ g 2 ∷ g 10 ∷ g 3 ∷ g 11 ∷ g 4 ∷ g 12 ∷ g 5 ∷ g 13 ∷ g 6 ∷ g 14 ∷ g 7 ∷ g 15 ∷ []

turns : (xs ys : List ℤ) → length xs ≡ 8 → length ys ≡ 8 → Numbers xs → Numbers ys → (k : ℕ) → k < 16 → at (sixteen (lane_of xs ys)) k ≡ woven xs ys k
turns xs ys l m f g zero p = lane_left xs ys 0 l f (omega arith)
turns xs ys l m f g (suc zero) p = lane_right xs ys 0 8 l m g (omega arith) (omega arith)
turns xs ys l m f g (suc (suc zero)) p = lane_left xs ys 1 l f (omega arith)
turns xs ys l m f g (suc (suc (suc zero))) p = lane_right xs ys 1 9 l m g (omega arith) (omega arith)
turns xs ys l m f g (suc (suc (suc (suc zero)))) p = lane_left xs ys 2 l f (omega arith)
turns xs ys l m f g (suc (suc (suc (suc (suc zero))))) p = lane_right xs ys 2 10 l m g (omega arith) (omega arith)
turns xs ys l m f g (suc (suc (suc (suc (suc (suc zero)))))) p = lane_left xs ys 3 l f (omega arith)
turns xs ys l m f g (suc (suc (suc (suc (suc (suc (suc zero))))))) p = lane_right xs ys 3 11 l m g (omega arith) (omega arith)
turns xs ys l m f g (suc (suc (suc (suc (suc (suc (suc (suc zero)))))))) p = lane_left xs ys 4 l f (omega arith)
turns xs ys l m f g (suc (suc (suc (suc (suc (suc (suc (suc (suc zero))))))))) p = lane_right xs ys 4 12 l m g (omega arith) (omega arith)
turns xs ys l m f g (suc (suc (suc (suc (suc (suc (suc (suc (suc (suc zero)))))))))) p = lane_left xs ys 5 l f (omega arith)
turns xs ys l m f g (suc (suc (suc (suc (suc (suc (suc (suc (suc (suc (suc zero))))))))))) p = lane_right xs ys 5 13 l m g (omega arith) (omega arith)
turns xs ys l m f g (suc (suc (suc (suc (suc (suc (suc (suc (suc (suc (suc (suc zero)))))))))))) p = lane_left xs ys 6 l f (omega arith)
turns xs ys l m f g (suc (suc (suc (suc (suc (suc (suc (suc (suc (suc (suc (suc (suc zero))))))))))))) p = lane_right xs ys 6 14 l m g (omega arith) (omega arith)
turns xs ys l m f g (suc (suc (suc (suc (suc (suc (suc (suc (suc (suc (suc (suc (suc (suc zero)))))))))))))) p = lane_left xs ys 7 l f (omega arith)
turns xs ys l m f g (suc (suc (suc (suc (suc (suc (suc (suc (suc (suc (suc (suc (suc (suc (suc zero))))))))))))))) p = lane_right xs ys 7 15 l m g (omega arith) (omega arith)
turns xs ys l m f g (suc (suc (suc (suc (suc (suc (suc (suc (suc (suc (suc (suc (suc (suc (suc (suc k)))))))))))))))) p = absurd (omega (arith, p))

pub woven_is : (out xs ys : List ℤ) → length xs ≡ 8 → length ys ≡ 8 → length out ≡ 16 → Numbers xs → Numbers ys → (k : ℕ) → k < 16 → at (put_chunk 0 out (sixteen (lane_of xs ys))) k ≡ woven xs ys k
woven_is out xs ys l m n f g k below =
    ap (λ v. at v k) (put_chunk_whole out (sixteen (lane_of xs ys)) n) ∙ turns xs ys l m f g k below

pub same_list : (xs ys : List ℤ) → length ys ≡ length xs → HasFirst (length xs) (at xs) ys → ys ≡ xs
same_list xs ys l each = ext_get_or (pos 0) ys xs l (λ k below. each k (omega (arith, below, l)))

pub zero_fits : SFits w16 (pos 0)
zero_fits = record { sfits = omega (arith, ints) }

-- a list whose first numbers are all, and have 16 bits
pub numbers_by : (n : ℕ) (f : ℕ → ℤ) (xs : List ℤ) → length xs ≤ n → HasFirst n f xs → ((k : ℕ) → SFits w16 (f k)) → Numbers xs
numbers_by n f xs whole each fits k =
    ⊎_elim
    (λ (below : k < n). subst (SFits w16) (sym (each k below)) (fits k))
    (λ (past : n ≤ k). subst (SFits w16) (sym (get_or_past xs k (pos 0) (omega (arith, past, whole)))) zero_fits)
    (cases_lt k n)

pub clip_fits : (z : ℤ) → SFits w16 (clip16 z)
clip_fits z = fits_of (clip16 z) z refl
  where
    fits_of : (y z : ℤ) → y ≡ clip16 z → SFits w16 y
    fits_of (pos n) z e = record { sfits = omega (arith, ints, clamps, e) }
    fits_of (negsuc n) z e = record { sfits = omega (arith, ints, clamps, e) }

pub none_yet : (f : ℕ → ℤ) (out : List ℤ) → HasFirst 0 f out
none_yet f out k below = absurd (omega (arith, below))
