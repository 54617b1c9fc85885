-- Emulation prevention (7.3.1.1), a stretch at a time, for `put_escaped` and `put_stripped`: the
-- bytes out are followed by those from `from` up to the place i, and by what is made of the others.
use Rattle.std.proofs.Common.{◌≡◌, ◌≢◌, ℕ, ◌+◌, ◌-◌, ◌<◌, ◌≤◌, Bool, false, ◌&&◌, List, [], ◌∷◌, ◌++◌, length, get_or, take, drop, refl, sym, ap, subst, ◌∙◌, arith, lt-ltb, le-ltb, eq-eqb, append_assoc, append-nil, length-drop}
use Rattle.std.specs.Prelude.{nat_lt, nat_eq}
use Rattle.std.proofs.lemmas.Bool.{and_left, and_right, cond-true, cond-false, cond_both, ne_eqb}
use Rattle.std.proofs.lemmas.List.{take_more, drop_more, get_or-drop}
use Rattle.hv_stream_model.specs.ZeroRuns.{run_after, needs_three, escape_after, is_emulation_byte, strip_after}

pub run_zero : (run byte : ℕ) → byte ≡ 0 → run_after run byte ≡ run + 1
run_zero run byte e = cond-true (nat_eq byte 0) (run + 1) 0 (eq-eqb byte 0 e)

pub run_other : (run byte : ℕ) → byte ≢ 0 → run_after run byte ≡ 0
run_other run byte h = cond-false (nat_eq byte 0) (run + 1) 0 (ne_eqb byte 0 h)

pub run_after-le : (run byte : ℕ) → run_after run byte ≤ run + 1
run_after-le run byte = cond_both (nat_eq byte 0) (run + 1) 0 (λ n. n ≤ run + 1) (λ e. omega arith)
    (λ e. omega arith)

pub short_run : (run : ℕ) (other : Bool) → run ≤ 1 → (nat_lt 1 run && other) ≡ false
short_run run other h = and_left (nat_lt 1 run) other (le-ltb 1 run h)

pub large_byte : (run byte : ℕ) → 4 ≤ byte → needs_three run byte ≡ false
large_byte run byte h = and_right (nat_lt 1 run) (nat_lt byte 4) (le-ltb byte 4 h)

pub other_byte : (run byte : ℕ) → byte ≢ 3 → is_emulation_byte run byte ≡ false
other_byte run byte h = and_right (nat_lt 1 run) (nat_eq byte 3) (ne_eqb byte 3 h)

-- the bytes up to the next place
stretch_more : (bytes : List ℕ) (from i : ℕ) → from ≤ i → i < length bytes →
    take (i + 1 - from) (drop from bytes) ≡
    take (i - from) (drop from bytes) ++ get_or bytes i 0 ∷ []
stretch_more bytes from i h l =
    let n : ℕ = i - from in
    let count : i + 1 - from ≡ n + 1 = omega arith in
    let place : from + n ≡ i = omega arith in
    ap (λ k. take k (drop from bytes)) count ∙
    take_more (drop from bytes) n 0 (omega (arith, length-drop from bytes)) ∙
    ap (λ x. take n (drop from bytes) ++ x ∷ []) (get_or-drop from bytes n 0 ∙
    ap (λ k. get_or bytes k 0) place)

one_more : (out stretch rest : List ℕ) (x : ℕ) →
    out ++ (stretch ++ x ∷ []) ++ rest ≡ out ++ stretch ++ x ∷ rest
one_more out stretch rest x = simp append_assoc

-- ---- writing

escape_kept_case : (run byte : ℕ) (rest : List ℕ) → needs_three run byte ≡ false →
    escape_after run (byte ∷ rest) ≡ byte ∷ escape_after (run_after run byte) rest
escape_kept_case run byte rest h = rw h refl

escape_put_case : (run byte : ℕ) (rest : List ℕ) → 1 < run → byte < 4 →
    escape_after run (byte ∷ rest) ≡ 3 ∷ byte ∷ escape_after (run_after 0 byte) rest
escape_put_case run byte rest a b = rw (lt-ltb 1 run a, lt-ltb byte 4 b) refl

pub escape_kept : (bytes out all : List ℕ) (from i run : ℕ) → from ≤ i → i < length bytes →
    needs_three run (get_or bytes i 0) ≡ false →
    out ++ take (i - from) (drop from bytes) ++ escape_after run (drop i bytes) ≡ all →
    out ++ take (i + 1 - from) (drop from bytes) ++ escape_after (run_after run (get_or bytes i 0))
    (drop (i + 1) bytes) ≡ all
escape_kept bytes out all from i run h l kept e =
    let x : ℕ = get_or bytes i 0 in
    let rest : List ℕ = escape_after (run_after run x) (drop (i + 1) bytes) in
    let here : escape_after run (drop i bytes) ≡ x ∷ rest =
    ap (escape_after run) (drop_more bytes i 0 l) ∙
    escape_kept_case run x (drop (i + 1) bytes) kept in
    ap (λ w. out ++ w ++ rest) (stretch_more bytes from i h l) ∙
    one_more out (take (i - from) (drop from bytes)) rest x ∙
    ap (λ w. out ++ take (i - from) (drop from bytes) ++ w) (sym here) ∙ e

pub escape_put : (bytes out all : List ℕ) (from i run : ℕ) → i < length bytes → 1 < run →
    get_or bytes i 0 < 4 →
    out ++ take (i - from) (drop from bytes) ++ escape_after run (drop i bytes) ≡ all →
    out ++ take (i - from) (drop from bytes) ++ 3 ∷ [] ++ take (i + 1 - i) (drop i bytes) ++
    escape_after (run_after 0 (get_or bytes i 0)) (drop (i + 1) bytes) ≡ all
escape_put bytes out all from i run l a b e =
    let x : ℕ = get_or bytes i 0 in
    let before : List ℕ = out ++ take (i - from) (drop from bytes) in
    let rest : List ℕ = escape_after (run_after 0 x) (drop (i + 1) bytes) in
    let here : escape_after run (drop i bytes) ≡ 3 ∷ x ∷ rest =
    ap (escape_after run) (drop_more bytes i 0 l) ∙
    escape_put_case run x (drop (i + 1) bytes) a b in
    let none : take (i - i) (drop i bytes) ≡ [] = let count : i - i ≡ 0 = omega arith in
    ap (λ n. take n (drop i bytes)) count in
    let stretch : take (i + 1 - i) (drop i bytes) ≡ x ∷ [] =
    stretch_more bytes i i (omega arith) l ∙ ap (λ w. w ++ x ∷ []) none in
    let joined : before ++ 3 ∷ [] ++ x ∷ [] ++ rest ≡ before ++ 3 ∷ x ∷ rest = simp append_assoc in
    ap (λ w. before ++ 3 ∷ [] ++ w ++ rest) stretch ∙ joined ∙ ap (λ w. before ++ w) (sym here) ∙ e

-- ---- reading

strip_kept_case : (run byte : ℕ) (rest : List ℕ) → is_emulation_byte run byte ≡ false →
    strip_after run (byte ∷ rest) ≡ byte ∷ strip_after (run_after run byte) rest
strip_kept_case run byte rest h = rw h refl

strip_left_case : (run byte : ℕ) (rest : List ℕ) → 1 < run → byte ≡ 3 →
    strip_after run (byte ∷ rest) ≡ strip_after 0 rest
strip_left_case run byte rest a b = rw (lt-ltb 1 run a, eq-eqb byte 3 b) refl

pub strip_kept : (bytes out all : List ℕ) (from i run after : ℕ) → from ≤ i → i < length bytes →
    is_emulation_byte run (get_or bytes i 0) ≡ false → after ≡ run_after run (get_or bytes i 0) →
    out ++ take (i - from) (drop from bytes) ++ strip_after run (drop i bytes) ≡ all →
    out ++ take (i + 1 - from) (drop from bytes) ++ strip_after after (drop (i + 1) bytes) ≡ all
strip_kept bytes out all from i run after h l kept r e =
    let x : ℕ = get_or bytes i 0 in
    let rest : List ℕ = strip_after after (drop (i + 1) bytes) in
    let here : strip_after run (drop i bytes) ≡ x ∷ rest =
    ap (strip_after run) (drop_more bytes i 0 l) ∙ strip_kept_case run x (drop (i + 1) bytes) kept ∙
    ap (λ n. x ∷ strip_after n (drop (i + 1) bytes)) (sym r) in
    ap (λ w. out ++ w ++ rest) (stretch_more bytes from i h l) ∙
    one_more out (take (i - from) (drop from bytes)) rest x ∙
    ap (λ w. out ++ take (i - from) (drop from bytes) ++ w) (sym here) ∙ e

pub strip_left : (bytes out all : List ℕ) (from i run : ℕ) → i < length bytes → 1 < run →
    get_or bytes i 0 ≡ 3 →
    out ++ take (i - from) (drop from bytes) ++ strip_after run (drop i bytes) ≡ all →
    out ++ take (i - from) (drop from bytes) ++ take (i + 1 - (i + 1)) (drop (i + 1) bytes) ++
    strip_after 0 (drop (i + 1) bytes) ≡ all
strip_left bytes out all from i run l a b e =
    let before : List ℕ = out ++ take (i - from) (drop from bytes) in
    let here : strip_after run (drop i bytes) ≡ strip_after 0 (drop (i + 1) bytes) =
    ap (strip_after run) (drop_more bytes i 0 l) ∙
    strip_left_case run (get_or bytes i 0) (drop (i + 1) bytes) a b in
    let none : take (i + 1 - (i + 1)) (drop (i + 1) bytes) ≡ [] =
    let count : i + 1 - (i + 1) ≡ 0 = omega arith in ap (λ n. take n (drop (i + 1) bytes)) count in
    ap (λ w. before ++ w ++ strip_after 0 (drop (i + 1) bytes)) none ∙
    ap (λ w. w ++ strip_after 0 (drop (i + 1) bytes)) (append-nil before) ∙
    ap (λ w. before ++ w) (sym here) ∙ e

-- ---- three bytes at once, of which the third is large

pub escape_three_kept : (bytes out all : List ℕ) (from i run : ℕ) → from ≤ i → i + 3 < length bytes →
    run ≡ 0 → 4 ≤ get_or bytes (i + 2) 0 →
    out ++ take (i - from) (drop from bytes) ++ escape_after run (drop i bytes) ≡ all →
    out ++ take (i + 3 - from) (drop from bytes) ++ escape_after run (drop (i + 3) bytes) ≡ all
escape_three_kept bytes out all from i run h l none large e =
    let x : ℕ = get_or bytes i 0 in
    let y : ℕ = get_or bytes (i + 1) 0 in
    let z : ℕ = get_or bytes (i + 1 + 1) 0 in
    let one : ℕ = run_after run x in
    let two : ℕ = run_after one y in
    let third : i + 2 ≡ i + 1 + 1 = omega arith in
    let last : i + 1 + 1 + 1 ≡ i + 3 = omega arith in
    let large_z : 4 ≤ z = subst (λ k. 4 ≤ get_or bytes k 0) third large in
    let after : run_after two z ≡ run = run_other two z (λ zero. absurd (omega (arith, zero))) ∙ sym none in
    let e1 = escape_kept bytes out all from i run h (omega arith)
    (short_run run (nat_lt x 4) (omega arith)) e in
    let e2 = escape_kept bytes out all from (i + 1) one (omega arith) (omega arith)
    (short_run one (nat_lt y 4) (omega (arith, run_after-le run x))) e1 in
    let e3 = escape_kept bytes out all from (i + 1 + 1) two (omega arith) (omega arith)
    (large_byte two z large_z) e2 in
    let e4 = subst (λ r. out ++ take (i + 1 + 1 + 1 - from) (drop from bytes) ++
    escape_after r (drop (i + 1 + 1 + 1) bytes) ≡ all) after e3 in
    subst (λ m. out ++ take (m - from) (drop from bytes) ++ escape_after run (drop m bytes) ≡ all) last e4

pub strip_three_kept : (bytes out all : List ℕ) (from i run : ℕ) → from ≤ i → i + 3 < length bytes →
    run ≡ 0 → 4 ≤ get_or bytes (i + 2) 0 →
    out ++ take (i - from) (drop from bytes) ++ strip_after run (drop i bytes) ≡ all →
    out ++ take (i + 3 - from) (drop from bytes) ++ strip_after run (drop (i + 3) bytes) ≡ all
strip_three_kept bytes out all from i run h l none large e =
    let x : ℕ = get_or bytes i 0 in
    let y : ℕ = get_or bytes (i + 1) 0 in
    let z : ℕ = get_or bytes (i + 1 + 1) 0 in
    let one : ℕ = run_after run x in
    let two : ℕ = run_after one y in
    let third : i + 2 ≡ i + 1 + 1 = omega arith in
    let last : i + 1 + 1 + 1 ≡ i + 3 = omega arith in
    let large_z : 4 ≤ z = subst (λ k. 4 ≤ get_or bytes k 0) third large in
    let after : run ≡ run_after two z = none ∙ sym (run_other two z (λ zero. absurd (omega (arith, zero)))) in
    let e1 = strip_kept bytes out all from i run one h (omega arith)
    (short_run run (nat_eq x 3) (omega arith)) refl e in
    let e2 = strip_kept bytes out all from (i + 1) one two (omega arith) (omega arith)
    (short_run one (nat_eq y 3) (omega (arith, run_after-le run x))) refl e1 in
    let e3 = strip_kept bytes out all from (i + 1 + 1) two run (omega arith) (omega arith)
    (other_byte two z (λ three. absurd (omega (arith, three)))) after e2 in
    subst (λ m. out ++ take (m - from) (drop from bytes) ++ strip_after run (drop m bytes) ≡ all) last e3
