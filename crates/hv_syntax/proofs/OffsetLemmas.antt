-- The bins of sample adaptive offsets (7.3.8.3), part by part.
use Rattle.std.proofs.Common.{◌≡◌, ℕ, zero, suc, Bool, true, false, nat_lt, min, List, [], ◌∷◌, ◌++◌, length, get_or, refl, ap, sym, ◌∙◌, subst, append-nil, arith, ℤ, pos}
use Rattle.std.proofs.lemmas.Int.{to_z-of_z}
use mir.Syntax.{w8}
use mir.Val.{to_z, of_z, SFits}
use Rattle.std.specs.Int.RustNames.{unsigned_abs}
use Rattle.hv_plan.specs.declared.offsets.SaoParam.{SaoParam}
use Rattle.hv_tables.specs.declared.bins.CtxTable.TheVariants.{SaoMerge}
use Rattle.hv_residual_model.specs.UnitBins.{UnitQuestion, UnitBin, unit_bin, PutsUnit}
use Rattle.hv_residual_model.specs.Binarization.{bypass_at, truncated_unary_bins}
use Rattle.hv_residual_model.specs.ResidualBins.{signs, sign_bins}
use Rattle.hv_plan.specs.Levels.{is_significant}
use Rattle.hv_tree_model.specs.Sites.{Site, ctb_column, ctb_row}
use Rattle.hv_unit_model.specs.Bins.{bin, where_coded, offset_abs_bins, offsets_abs_bins, sao_type_bins, component_bins, cr_bins, sao_bins}
use Rattle.hv_residual.proofs.PuttingLemmas.{Stands, puts_same}
use Rattle.hv_syntax.specs.Parts.{offset_sign_bins}
use Rattle.hv_syntax.proofs.ChainLemmas.{puts_4, puts_7}

-- ---- four offsets that are passed on
abbrev pub passed : ℤ → ℤ
passed z = to_z w8 (of_z w8 z)

abbrev pub nth : List ℤ → ℕ → ℤ
nth xs i = get_or xs i (pos 0)

four_of : (xs : List ℤ) → length xs ≡ 4 → nth xs 0 ∷ nth xs 1 ∷ nth xs 2 ∷ nth xs 3 ∷ [] ≡ xs
four_of [] e = absurd (omega (arith, e))
four_of (a ∷ []) e = absurd (omega (arith, e))
four_of (a ∷ b ∷ []) e = absurd (omega (arith, e))
four_of (a ∷ b ∷ c ∷ []) e = absurd (omega (arith, e))
four_of (a ∷ b ∷ c ∷ d ∷ []) e = refl
four_of (a ∷ b ∷ c ∷ d ∷ x ∷ xs) e = absurd (omega (arith, e))

pub four_passed : (xs : List ℤ) → length xs ≡ 4 → SFits w8 (nth xs 0) → SFits w8 (nth xs 1) →
    SFits w8 (nth xs 2) → SFits w8 (nth xs 3) →
    passed (nth xs 0) ∷ passed (nth xs 1) ∷ passed (nth xs 2) ∷ passed (nth xs 3) ∷ [] ≡ xs
four_passed xs e f g h k =
    rw (
      to_z-of_z w8 (nth xs 0) f,
      to_z-of_z w8 (nth xs 1) g,
      to_z-of_z w8 (nth xs 2) h,
      to_z-of_z w8 (nth xs 3) k,
    ) (four_of xs e)

-- ---- sao_offset_abs
pub unary_most : (q : ℕ → UnitQuestion) (c i v : ℕ) →
    truncated_unary_bins q c i (min v c) ≡ truncated_unary_bins q c i v
unfolding truncated_unary_bins
unary_most q zero i v = refl
unary_most q (suc c) i zero = let e : min 0 (suc c) ≡ 0 = omega arith in rw e refl
unary_most q (suc c) i (suc v) =
    let e : min (suc v) (suc c) ≡ suc (min v c) = omega arith in
    rw e (ap (λ (bins : List UnitBin). unit_bin (q i) true ∷ bins) (unary_most q c (suc i) v))

pub magnitude_bins : (x : ℤ) (m : ℕ) → m ≡ min (unsigned_abs x) 7 →
    truncated_unary_bins bypass_at 7 0 m ≡ offset_abs_bins x
magnitude_bins x m e =
    ap (λ (n : ℕ). truncated_unary_bins bypass_at 7 0 n) e ∙ unary_most bypass_at 7 0 (unsigned_abs x)

pub puts_magnitudes : {S : Type 0} (s : Stands S) (a b c d e : S) (u v w x : ℤ) →
    PutsUnit s a b (offset_abs_bins u) → PutsUnit s b c (offset_abs_bins v) →
    PutsUnit s c d (offset_abs_bins w) → PutsUnit s d e (offset_abs_bins x) →
    PutsUnit s a e (offsets_abs_bins (u ∷ v ∷ w ∷ x ∷ []))
puts_magnitudes s a b c d e u v w x p1 p2 p3 p4 =
    puts_same s a e _ _ (ap (λ (l : List UnitBin). offset_abs_bins u ++ (offset_abs_bins v ++
    (offset_abs_bins w ++ l))) (sym (append-nil (offset_abs_bins x))))
    (puts_4 s a b c d e (offset_abs_bins u) (offset_abs_bins v) (offset_abs_bins w)
    (offset_abs_bins x) p1 p2 p3 p4)

-- ---- sao_offset_sign
sign_by : (x : ℤ) (xs : List ℤ) (b : Bool) → is_significant x ≡ b →
    offset_sign_bins x ++ sign_bins (signs xs) ≡ sign_bins (signs (x ∷ xs))
sign_by x xs true e = rw e refl
sign_by x xs false e = rw e refl

sign_cons : (x : ℤ) (xs : List ℤ) →
    offset_sign_bins x ++ sign_bins (signs xs) ≡ sign_bins (signs (x ∷ xs))
sign_cons x xs = sign_by x xs (is_significant x) refl

four_signs : (u v w x : ℤ) →
    offset_sign_bins u ++ (offset_sign_bins v ++ (offset_sign_bins w ++ offset_sign_bins x)) ≡
    sign_bins (signs (u ∷ v ∷ w ∷ x ∷ []))
four_signs u v w x =
    let last : offset_sign_bins x ≡ sign_bins (signs (x ∷ [])) =
    sym (append-nil (offset_sign_bins x)) ∙ sign_cons x [] in
    ap (λ (l : List UnitBin). offset_sign_bins u ++ (offset_sign_bins v ++ (offset_sign_bins w ++ l))) last ∙
    ap (λ (l : List UnitBin). offset_sign_bins u ++ (offset_sign_bins v ++ l)) (sign_cons w (x ∷ [])) ∙
    ap (λ (l : List UnitBin). offset_sign_bins u ++ l) (sign_cons v (w ∷ x ∷ [])) ∙
    sign_cons u (v ∷ w ∷ x ∷ [])

pub puts_signs : {S : Type 0} (s : Stands S) (a b c d e : S) (u v w x : ℤ) →
    PutsUnit s a b (offset_sign_bins u) → PutsUnit s b c (offset_sign_bins v) →
    PutsUnit s c d (offset_sign_bins w) → PutsUnit s d e (offset_sign_bins x) →
    PutsUnit s a e (sign_bins (signs (u ∷ v ∷ w ∷ x ∷ [])))
puts_signs s a b c d e u v w x p1 p2 p3 p4 =
    puts_same s a e _ _ (four_signs u v w x)
    (puts_4 s a b c d e (offset_sign_bins u) (offset_sign_bins v) (offset_sign_bins w)
    (offset_sign_bins x) p1 p2 p3 p4)

-- ---- sao (7.3.8.3)
pub puts_sao : {S : Type 0} (s : Stands S) (a b c d e f g h : S) (site : Site) (sao : SaoParam)
    (column row : ℕ) → column ≡ ctb_column site → row ≡ ctb_row site →
    PutsUnit s a b (where_coded (nat_lt 0 column) (bin SaoMerge 0 false)) →
    PutsUnit s b c (where_coded (nat_lt 0 row) (bin SaoMerge 0 false)) →
    PutsUnit s c d (sao_type_bins sao.luma.kind) →
    PutsUnit s d e (component_bins sao.luma.kind sao.luma.offsets) →
    PutsUnit s e f (sao_type_bins sao.cb.kind) →
    PutsUnit s f g (component_bins sao.cb.kind sao.cb.offsets) →
    PutsUnit s g h (cr_bins sao.cr.kind sao.cr.offsets) → PutsUnit s a h (sao_bins site sao)
unfolding sao_bins
puts_sao s a b c d e f g h site sao column row is_column is_row p1 p2 p3 p4 p5 p6 p7 =
    puts_7 s a b c d e f g h
    (where_coded (nat_lt 0 (ctb_column site)) (bin SaoMerge 0 false))
    (where_coded (nat_lt 0 (ctb_row site)) (bin SaoMerge 0 false))
    (sao_type_bins sao.luma.kind) (component_bins sao.luma.kind sao.luma.offsets)
    (sao_type_bins sao.cb.kind) (component_bins sao.cb.kind sao.cb.offsets)
    (cr_bins sao.cr.kind sao.cr.offsets)
    (subst (λ (n : ℕ). PutsUnit s a b (where_coded (nat_lt 0 n) (bin SaoMerge 0 false))) is_column p1)
    (subst (λ (n : ℕ). PutsUnit s b c (where_coded (nat_lt 0 n) (bin SaoMerge 0 false))) is_row p2)
    p3 p4 p5 p6 p7
