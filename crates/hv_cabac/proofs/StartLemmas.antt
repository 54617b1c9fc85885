-- The numbers from which context variables start.
use Rattle.std.proofs.Common.{◌≡◌, ℕ, ◌+◌, ◌*◌, ◌<◌, ◌≤◌, List, [], ◌∷◌, ◌++◌, length, take, get_or, sym, ap, ap₂, ◌∙◌, arith}
use Rattle.std.specs.Prelude.{ℤ, pos, negsuc, ◌+ℤ◌, ◌*ℤ◌, map, slice_set}
use Rattle.std.specs.Int.{int_shr}
use Rattle.std.specs.Int.RustNames.{unsigned_abs}
use Rattle.std.proofs.Math.Nat.{mul-le-mul}
use Rattle.std.proofs.lemmas.Int.{unsigned_abs-mul}
use Rattle.std.proofs.lemmas.List.{take_more, take_more_set, take_all, map-append}
use lib.Signed.{shr_z}
use Rattle.hv_lemmas.proofs.SignedLemmas.{passed, passed_small, size_of_sum}
use Rattle.hv_tables.specs.declared.bins.SliceKind.{SliceKind}
use Rattle.hv_tables.specs.ContextTables.{values_of_kind}
use Rattle.hv_entropy_model.specs.Contexts.{ContextVariable, first_variable, first_variables}
use Rattle.hv_cabac.specs.Variables.{variable_of}

-- ---- signed numbers
shifted_small : (z : ℤ) → unsigned_abs (shr_z z 16) ≤ unsigned_abs z
shifted_small (pos a) = omega arith
shifted_small (negsuc a) = omega arith

-- a variable's start, from what the code computed
pub start_is : (s q o : ℤ) (k : ℕ) → unsigned_abs s ≤ 45 → unsigned_abs o ≤ 104 → q ≡ pos k →
    k < 256 →
    passed (passed (shr_z (passed (passed s *ℤ passed q)) 16) +ℤ passed o) ≡
    int_shr (s *ℤ pos k) 4 +ℤ o
start_is s q o k hs ho e hk =
    let few : k ≤ 255 = omega arith in
    let m : unsigned_abs (s *ℤ q) ≡ unsigned_abs s * k =
    unsigned_abs-mul s q ∙ ap (λ (x : ℤ). unsigned_abs s * unsigned_abs x) e in
    let b : unsigned_abs (s *ℤ q) ≤ 11475 = rw m (mul-le-mul hs few) in
    let h = shifted_small (s *ℤ q) in
    let t = size_of_sum (shr_z (s *ℤ q) 16) o in
    let fs = passed_small s (omega arith) in
    let fq : passed q ≡ q = passed_small q (rw e (omega arith)) in
    let fo = passed_small o (omega arith) in
    let fm = passed_small (s *ℤ q) (omega arith) in
    let fh = passed_small (shr_z (s *ℤ q) 16) (omega arith) in
    let ft = passed_small (shr_z (s *ℤ q) 16 +ℤ o) (omega arith) in
    rw (fs, fq, fo, fm, fh, ft) (ap (λ (x : ℤ). shr_z (s *ℤ x) 16 +ℤ o) e)

-- ---- all variables
-- one more variable has its start
pub first_more : (states values : List ℕ) (i state : ℕ) (f : ℕ → ContextVariable) →
    i < length states → i < length values →
    map variable_of (take i states) ≡ map f (take i values) →
    variable_of state ≡ f (get_or values i 0) →
    map variable_of (take (i + 1) (slice_set states i state)) ≡ map f (take (i + 1) values)
first_more states values i state f h k e g =
    let a : map variable_of (take (i + 1) (slice_set states i state)) ≡
    map variable_of (take i states) ++ variable_of state ∷ [] =
    ap (map variable_of) (take_more_set states i state h) ∙
    map-append variable_of (take i states) (state ∷ []) in
    let b : map f (take (i + 1) values) ≡ map f (take i values) ++ f (get_or values i 0) ∷ [] =
    ap (map f) (take_more values i 0 k) ∙ map-append f (take i values) (get_or values i 0 ∷ []) in
    a ∙ ap₂ (λ (xs : List ContextVariable) (x : ContextVariable). xs ++ x ∷ []) e g ∙ sym b

-- where all have it
pub all_first : (states values : List ℕ) (i : ℕ) (kind : SliceKind) (qp : ℕ) → length states ≤ i →
    length values ≤ i → values ≡ values_of_kind kind →
    map variable_of (take i states) ≡ map (first_variable qp) (take i values) →
    map variable_of states ≡ first_variables kind qp
unfolding values_of_kind first_variables
all_first states values i kind qp h k e g =
    ap (map variable_of) (sym (take_all i states h)) ∙ g ∙
    ap (map (first_variable qp)) (take_all i values k ∙ e)
