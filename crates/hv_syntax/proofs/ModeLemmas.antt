-- The most probable luma modes (8.4.2), and the bins of a mode by them.
use mir.Val.{bool_byte}
use Rattle.std.proofs.Common.{add-zero, ◌≡◌, ◌≢◌, ℕ, ◌+◌, ◌-◌, ◌%◌, ◌<◌, ◌≤◌, true, false, nat_lt, nat_eq, [], ◌∷◌, refl, ◌∙◌, arith}
use Rattle.std.proofs.lemmas.Bool.Decides.{nat_tests}
use Rattle.hv_lemmas.proofs.ComparisonLemmas.{lt_below, lt_not_below}
use Rattle.hv_tables.specs.declared.bins.CtxTable.TheVariants.{PrevIntra}
use Rattle.hv_residual_model.specs.Binarization.{bypass_at, truncated_unary_bins, fixed_length_bins}
use Rattle.hv_tree_model.specs.MostProbableModes.{candModeList, third_mode, remaining_of}
use Rattle.hv_unit_model.specs.Bins.{bin, luma_mode_bins}
use Rattle.hv_lemmas.proofs.BooleanLemmas.{one_of}

eq_same : (a b : ℕ) → a ≡ b → nat_eq a b ≡ true
eq_same a b h = grind (arith, nat_tests)

eq_apart : (a b : ℕ) → a ≢ b → nat_eq a b ≡ false
eq_apart a b h = grind (arith, nat_tests)

-- ---- candModeList
pub list_apart : (a b t : ℕ) → a ≢ b → t ≡ third_mode a b → a ∷ b ∷ t ∷ [] ≡ candModeList a b
unfolding candModeList
list_apart a b t h e = rw (eq_apart a b h, e) refl

pub list_low : (a b : ℕ) → a ≡ b → a < 2 → 0 ∷ 1 ∷ 26 ∷ [] ≡ candModeList a b
unfolding candModeList
list_low a b h k = rw (eq_same a b h) (rw (lt_below a 2 k) refl)

pub list_high : (a b x : ℕ) → a ≡ b → 2 ≤ a → x ≡ a →
    a ∷ (2 + (x + 29) % 32) ∷ (2 + (a - 1) % 32) ∷ [] ≡ candModeList a b
unfolding candModeList
list_high a b x h k l =
    let e : a - 2 + 1 ≡ a - 1 = omega (arith, k) in
    rw (eq_same a b h) (rw (lt_not_below a 2 k) (rw (e, l) refl))

-- ---- the bins of a mode
pub first_bins : (a b c m : ℕ) → m ≡ a →
    bin PrevIntra 0 true ∷ truncated_unary_bins bypass_at 2 0 0 ≡ luma_mode_bins (a ∷ b ∷ c ∷ []) m
unfolding luma_mode_bins
first_bins a b c m h = rw (eq_same m a h) refl

pub second_bins : (a b c m : ℕ) → m ≢ a → m ≡ b →
    bin PrevIntra 0 true ∷ truncated_unary_bins bypass_at 2 0 1 ≡ luma_mode_bins (a ∷ b ∷ c ∷ []) m
unfolding luma_mode_bins
second_bins a b c m h k = rw (eq_apart m a h, eq_same m b k) refl

pub third_bins : (a b c m : ℕ) → m ≢ a → m ≢ b → m ≡ c →
    bin PrevIntra 0 true ∷ truncated_unary_bins bypass_at 2 0 2 ≡ luma_mode_bins (a ∷ b ∷ c ∷ []) m
unfolding luma_mode_bins
third_bins a b c m h k l = rw (eq_apart m a h, eq_apart m b k, eq_same m c l) refl

pub other_bins : (a b c m : ℕ) → m ≢ a → m ≢ b → m ≢ c →
    bin PrevIntra 0 false ∷ fixed_length_bins 5 (remaining_of (a ∷ b ∷ c ∷ []) m) ≡
    luma_mode_bins (a ∷ b ∷ c ∷ []) m
unfolding luma_mode_bins
other_bins a b c m h k l = rw (eq_apart m a h, eq_apart m b k, eq_apart m c l) refl

pub remaining_is : (a b c m x y z : ℕ) → x ≡ bool_byte (nat_lt a m) → y ≡ bool_byte (nat_lt b m) →
    z ≡ bool_byte (nat_lt c m) → m - (x + (y + z)) ≡ remaining_of (a ∷ b ∷ c ∷ []) m
unfolding remaining_of
remaining_is a b c m x y z e f g =
    rw (e ∙ one_of (nat_lt a m), f ∙ one_of (nat_lt b m), g ∙ one_of (nat_lt c m), add-zero) refl
