-- The levels of a sub-block that aren't 0, gathered one after another.
use Rattle.std.proofs.Common.{◌&&◌, not, nat_eq, length-drop, ◌≡◌, ◌≤◌, ◌<◌, ◌+◌, List, [], ◌∷◌, ◌++◌, ℕ, Bool, true, false, cond, ℤ, pos, arith, sym, refl, ap, ◌∙◌, length, drop, take, set, get_or, append_assoc, append-nil, add-zero, drop_of_length-le}
use Rattle.std.specs.Int.{is_negative}
use Rattle.std.specs.Int.RustNames.{unsigned_abs}
use Rattle.std.proofs.lemmas.List.{take-set, take_more_set}
use Rattle.std.proofs.Math.Dec.{eqb-suc-zero}
use Rattle.hv_residual_model.specs.UnitBins.{UnitQuestion, unit_bin}
use Rattle.hv_residual_model.specs.ResidualBins.{magnitudes, signs, only_if_so, sig_coeff_bins}
use Rattle.hv_plan.specs.Levels.{is_significant}
use Rattle.hv_residual.specs.Levels.{one_sig_bins}
use Rattle.hv_residual.proofs.FlagLemmas.{split_at}

-- an entry more, or none
pub one_or_none : {A : Type 0} (xs : List A) (n : ℕ) (a : A) (rest : List A) (b : Bool) → n < length xs →
    take (n + cond b 1 0) (set xs n a) ++ rest ≡ take n xs ++ only_if_so b a rest
one_or_none xs n a rest true h = rw (take_more_set xs n a h) (append_assoc (take n xs) (a ∷ []) rest)
one_or_none xs n a rest false h = rw (add-zero, take-set xs n a) refl

next_magnitude : (levels : List ℤ) (i : ℕ) → i < length levels →
    magnitudes (drop i levels) ≡ only_if_so (is_significant (get_or levels i (pos 0)))
    (unsigned_abs (get_or levels i (pos 0))) (magnitudes (drop (i + 1) levels))
next_magnitude levels i h = rw (split_at levels i (pos 0) h) refl

next_sign : (levels : List ℤ) (i : ℕ) → i < length levels →
    signs (drop i levels) ≡ only_if_so (is_significant (get_or levels i (pos 0)))
    (is_negative (get_or levels i (pos 0))) (signs (drop (i + 1) levels))
next_sign levels i h = rw (split_at levels i (pos 0) h) refl

-- by the values that the code computed
pub magnitude_step : (all : List ℕ) (n i one m : ℕ) (levels : List ℤ) (b : Bool) →
    n < length all → i < length levels → one ≡ cond b 1 0 →
    b ≡ is_significant (get_or levels i (pos 0)) → m ≡ unsigned_abs (get_or levels i (pos 0)) →
    take n all ++ magnitudes (drop i levels) ≡ magnitudes levels →
    take (n + one) (set all n m) ++ magnitudes (drop (i + 1) levels) ≡ magnitudes levels
magnitude_step all n i one m levels b room inside eo eb em before =
    let rest : List ℕ = magnitudes (drop (i + 1) levels) in
    let more : magnitudes (drop i levels) ≡ only_if_so b m rest =
    rw (eb, em) (next_magnitude levels i inside) in
    rw eo (one_or_none all n m rest b room ∙ ap (λ (t : List ℕ). take n all ++ t) (sym more) ∙ before)

pub sign_step : (all : List Bool) (n i one : ℕ) (levels : List ℤ) (b v : Bool) →
    n < length all → i < length levels → one ≡ cond b 1 0 →
    b ≡ is_significant (get_or levels i (pos 0)) → v ≡ is_negative (get_or levels i (pos 0)) →
    take n all ++ signs (drop i levels) ≡ signs levels →
    take (n + one) (set all n v) ++ signs (drop (i + 1) levels) ≡ signs levels
sign_step all n i one levels b v room inside eo eb ev before =
    let rest : List Bool = signs (drop (i + 1) levels) in
    let more : signs (drop i levels) ≡ only_if_so b v rest =
    rw (eb, ev) (next_sign levels i inside) in
    rw eo (one_or_none all n v rest b room ∙ ap (λ (t : List Bool). take n all ++ t) (sym more) ∙ before)

pub no_magnitude : (levels : List ℤ) (i : ℕ) (xs : List ℕ) → length levels ≤ i →
    xs ++ magnitudes (drop i levels) ≡ xs
no_magnitude levels i xs h =
    let d : drop i levels ≡ [] = drop_of_length-le levels h in rw d (append-nil xs)

pub no_sign_left : (levels : List ℤ) (i : ℕ) (xs : List Bool) → length levels ≤ i →
    xs ++ signs (drop i levels) ≡ xs
no_sign_left levels i xs h =
    let d : drop i levels ≡ [] = drop_of_length-le levels h in rw d (append-nil xs)

-- ---- sig_coeff_flag
first_coded : (q : ℕ → UnitQuestion) (level : ℤ) (levels : List ℤ) (sure : Bool) →
    sig_coeff_bins q (level ∷ levels) sure ≡
    one_sig_bins q (length levels) sure (is_significant level) ++
    sig_coeff_bins q levels (sure && not (is_significant level))
unfolding sig_coeff_bins one_sig_bins
first_coded q level [] true = refl
first_coded q level [] false = refl
first_coded q level (next ∷ levels) true = rw (eqb-suc-zero (length levels)) refl
first_coded q level (next ∷ levels) false = refl

-- by the values that the code computed
pub sig_step : (q : ℕ → UnitQuestion) (levels : List ℤ) (i left : ℕ) (sure flag next : Bool) →
    i < length levels → left + (i + 1) ≡ length levels →
    flag ≡ is_significant (get_or levels i (pos 0)) → next ≡ (sure && not flag) →
    sig_coeff_bins q (drop i levels) sure ≡
    one_sig_bins q left sure flag ++ sig_coeff_bins q (drop (i + 1) levels) next
sig_step q levels i left sure flag next h el ef en =
    let d : drop i levels ≡ get_or levels i (pos 0) ∷ drop (i + 1) levels = split_at levels i (pos 0) h in
    let n : length (drop (i + 1) levels) ≡ left = length-drop (i + 1) levels ∙ omega (arith, el) in
    let c = first_coded q (get_or levels i (pos 0)) (drop (i + 1) levels) sure in
    rw (d, en, ef) (rw n at c)

sig_none : (q : ℕ → UnitQuestion) (sure : Bool) → sig_coeff_bins q [] sure ≡ []
unfolding sig_coeff_bins
sig_none q sure = refl

pub sig_end : (q : ℕ → UnitQuestion) (levels : List ℤ) (i : ℕ) (sure : Bool) → length levels ≤ i →
    sig_coeff_bins q (drop i levels) sure ≡ []
sig_end q levels i sure h =
    let d : drop i levels ≡ [] = drop_of_length-le levels h in rw d (sig_none q sure)

pub left_out_bins : (q : ℕ → UnitQuestion) (i : ℕ) (sure flag out : Bool) →
    out ≡ (sure && nat_eq i 0) → out ≡ true → one_sig_bins q i sure flag ≡ []
unfolding one_sig_bins
left_out_bins q i sure flag out e t = let s : (sure && nat_eq i 0) ≡ true = sym e ∙ t in rw s refl

pub coded_bins : (q : ℕ → UnitQuestion) (i : ℕ) (sure flag out : Bool) →
    out ≡ (sure && nat_eq i 0) → out ≡ false → one_sig_bins q i sure flag ≡ unit_bin (q i) flag ∷ []
unfolding one_sig_bins
coded_bins q i sure flag out e t = let s : (sure && nat_eq i 0) ≡ false = sym e ∙ t in rw s refl
