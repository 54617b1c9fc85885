-- Two lists in turn.
use Rattle.std.proofs.Common.{◌≡◌, ℕ, ◌+◌, ◌*◌, ◌≤◌, zero, suc, List, [], ◌∷◌, ◌++◌, length, take, drop, refl, arith, sym, ap, ◌∙◌, take-add}
use Rattle.std.specs.List.{range_with_len}
use Rattle.std.specs.Simd.Lanes.{pick_l, chunk}
use Rattle.std.proofs.lemmas.Simd.{pick_l-range_with_len, length-chunk}
use Rattle.std.proofs.lemmas.List.{drop-drop}
use Rattle.hv_lemmas.proofs.ListLemmas.{part_of_front}
use Rattle.std.proofs.lemmas.Grind.{common_steps}
use Rattle.hv_kernel.specs.Differences.{sad_of}
use Rattle.hv_search.specs.Nodes.{weave, woven_rows, column_at, row_at}

pub pick_weave : (zs ks ms : List ℕ) → pick_l 0 zs (weave ks ms) ≡ weave (pick_l 0 zs ks) (pick_l 0 zs ms)
pick_weave zs [] ms = refl
pick_weave zs (k ∷ ks) [] = refl
pick_weave zs (k ∷ ks) (m ∷ ms) = rw (pick_weave zs ks ms) refl

chunk_first : (xs ys : List ℕ) (n : ℕ) → length xs ≡ n → chunk 0 n (xs ++ ys) ≡ xs
chunk_first xs ys n e = rw (← e) (grind (arith, common_steps))

chunk_second : (xs ys : List ℕ) (n : ℕ) → length xs ≡ n → length ys ≡ n → chunk n n (xs ++ ys) ≡ ys
chunk_second xs ys n e f = grind (arith, common_steps)

-- the places of two vectors in turn
pub woven : (xs ys : List ℕ) (n : ℕ) → length xs ≡ n → length ys ≡ n → pick_l 0 (xs ++ ys) (weave (range_with_len 0 n) (range_with_len n n)) ≡ weave xs ys
woven xs ys n e f =
    let long : length (xs ++ ys) ≡ n + n = grind (arith, common_steps) in
    rw (pick_weave (xs ++ ys) (range_with_len 0 n) (range_with_len n n), pick_l-range_with_len 0 (xs ++ ys) 0 n (omega arith), pick_l-range_with_len 0 (xs ++ ys) n n (omega arith), chunk_first xs ys n e, chunk_second xs ys n e f) refl

-- the differences of woven lists
pub sad_weave : (aa bs cs ds : List ℕ) → length aa ≡ length bs → length aa ≡ length cs → length aa ≡ length ds → sad_of (weave aa bs) (weave cs ds) ≡ sad_of aa cs + sad_of bs ds
sad_weave [] [] cs ds e f g = refl
sad_weave [] (b ∷ bs) cs ds e f g = absurd (omega arith)
sad_weave (a ∷ aa) [] cs ds e f g = absurd (omega arith)
sad_weave (a ∷ aa) (b ∷ bs) [] ds e f g = absurd (omega arith)
sad_weave (a ∷ aa) (b ∷ bs) (c ∷ cs) [] e f g = absurd (omega arith)
sad_weave (a ∷ aa) (b ∷ bs) (c ∷ cs) (d ∷ ds) e f g = omega (arith, sad_weave aa bs cs ds (omega arith) (omega arith) (omega arith))

-- a part of woven lists is woven of parts
pub part_of_weave : (xs ys : List ℕ) (i n : ℕ) → i + n ≤ length xs → i + n ≤ length ys → take (2 * n) (drop (2 * i) (weave xs ys)) ≡ weave (take n (drop i xs)) (take n (drop i ys))
part_of_weave xs ys zero zero p q = refl
part_of_weave [] ys zero (suc n) p q = absurd (omega arith)
part_of_weave (x ∷ xs) [] zero (suc n) p q = absurd (omega arith)
part_of_weave (x ∷ xs) (y ∷ ys) zero (suc n) p q =
    let e : 2 * suc n ≡ suc (suc (2 * n)) = omega arith in
    rw (e, part_of_weave xs ys zero n (omega arith) (omega arith)) refl
part_of_weave [] ys (suc i) n p q = absurd (omega arith)
part_of_weave (x ∷ xs) [] (suc i) n p q = absurd (omega arith)
part_of_weave (x ∷ xs) (y ∷ ys) (suc i) n p q =
    let e : 2 * suc i ≡ suc (suc (2 * i)) = omega arith in
    rw e (part_of_weave xs ys i n (omega arith) (omega arith))

pub weave_append : (ps ys qs zs : List ℕ) → length ps ≡ length qs → weave (ps ++ ys) (qs ++ zs) ≡ weave ps qs ++ weave ys zs
weave_append [] ys [] zs e = refl
weave_append [] ys (q ∷ qs) zs e = absurd (omega arith)
weave_append (p ∷ ps) ys [] zs e = absurd (omega arith)
weave_append (p ∷ ps) ys (q ∷ qs) zs e = rw (weave_append ps ys qs zs (omega arith)) refl

-- the first samples of a row, and 16 more
run_more : (r : List ℕ) (s m : ℕ) → take (m + 16) (drop (s + 0) r) ≡ take m (drop (s + 0) r) ++ take 16 (drop (s + m) r)
run_more r s m =
    let e : s + 0 + m ≡ s + m = omega arith in
    take-add m 16 (drop (s + 0) r) ∙ ap (λ zs. take m (drop (s + 0) r) ++ take 16 zs) (drop-drop m (s + 0) r ∙ ap (λ k. drop k r) e)

pub row_more : (r old new row us vs : List ℕ) (s0 s1 m m' k k' i : ℕ) → m' ≡ m + 16 → k' ≡ k + 32 → take (k + 32) (drop i new) ≡ take k (drop i old) ++ row → take k (drop i old) ≡ weave (take m (drop (s0 + 0) r)) (take m (drop (s1 + 0) r)) → row ≡ weave us vs → us ≡ take 16 (drop (s0 + m) r) → vs ≡ take 16 (drop (s1 + m) r) → s0 + m ≤ length r → s1 + m ≤ length r → take k' (drop i new) ≡ weave (take m' (drop (s0 + 0) r)) (take m' (drop (s1 + 0) r))
row_more r old new row us vs s0 s1 m m' k k' i e f joined before is uis vis p q =
    let first = length-chunk (s0 + 0) m r (omega arith) in
    let second = length-chunk (s1 + 0) m r (omega arith) in
    rw (e, f, joined, before, is, uis, vis, run_more r s0 m, run_more r s1 m)
    (sym (weave_append (take m (drop (s0 + 0) r)) (take 16 (drop (s0 + m) r)) (take m (drop (s1 + 0) r)) (take 16 (drop (s1 + m) r)) (first ∙ sym second)))

-- a square's part of a row
pub square_in_row : (r w : List ℕ) (s0 s1 i x : ℕ) → x + 8 ≤ 80 → s0 + 80 ≤ length r → s1 + 80 ≤ length r → take 160 (drop i w) ≡ weave (take 80 (drop (s0 + 0) r)) (take 80 (drop (s1 + 0) r)) → take 16 (drop (i + 2 * x) w) ≡ weave (take 8 (drop (s0 + x) r)) (take 8 (drop (s1 + x) r))
square_in_row r w s0 s1 i x h p q whole =
    let row0 : List ℕ = take 80 (drop (s0 + 0) r) in
    let row1 : List ℕ = take 80 (drop (s1 + 0) r) in
    let long0 : length row0 ≡ 80 = length-chunk (s0 + 0) 80 r (omega arith) in
    let long1 : length row1 ≡ 80 = length-chunk (s1 + 0) 80 r (omega arith) in
    ap (take 16) (sym (drop-drop (2 * x) i w)) ∙ sym (part_of_front (2 * x) 16 160 (drop i w) (omega arith)) ∙ ap (λ zs. take 16 (drop (2 * x) zs)) whole ∙
    part_of_weave row0 row1 x 8 (omega (arith, long0)) (omega (arith, long1)) ∙
    ap (λ zs. weave zs (take 8 (drop x row1))) (within s0 x h) ∙ ap (weave (take 8 (drop (s0 + x) r))) (within s1 x h)
  where
    within : (s x : ℕ) → x + 8 ≤ 80 → take 8 (drop x (take 80 (drop (s + 0) r))) ≡ take 8 (drop (s + x) r)
    within s x h =
        let e : s + 0 + x ≡ s + x = omega arith in
        part_of_front x 8 80 (drop (s + 0) r) h ∙ ap (take 8) (drop-drop x (s + 0) r ∙ ap (λ k. drop k r) e)

-- two rows of a square, as they were loaded
pub woven_is : (s : List ℕ) (stride p q col y y1 : ℕ) (rows us vs : List ℕ) → rows ≡ weave us vs → us ≡ take 8 (drop (y * stride + col) s) → vs ≡ take 8 (drop (y1 * stride + col) s) → col ≡ 8 * column_at p → y ≡ 8 * row_at p + 2 * q → y1 ≡ 8 * row_at p + (2 * q + 1) → rows ≡ woven_rows s stride p q
woven_is s stride p q col y y1 rows us vs is uis vis ce ye y1e = rw (is, uis, vis, ce, ye, y1e) refl
