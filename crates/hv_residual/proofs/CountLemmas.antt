-- How many bins the parts of a transform block have (7.3.8.11).
use Rattle.std.proofs.Common.{◌≡◌, ℕ, zero, suc, ◌+◌, ◌-◌, ◌*◌, ◌/◌, ◌^◌, ◌<◌, ◌≤◌, Bool, true, false, cond, not, nat_lt, nat_le, ◌&&◌, min, List, [], ◌∷◌, ◌++◌, ℤ, length, refl, ap, sym, ◌∙◌, arith, pow-suc, pow_pos, add-zero, add-one, length-append}
use Rattle.std.proofs.Math.Pow.{pow_mono}
use Rattle.std.specs.Int.Count.{count_leading_zeros}
use Rattle.std.proofs.lemmas.Nat.{leading_top}
use Rattle.std.proofs.lemmas.List.{length-map}
use Rattle.std.proofs.lemmas.Bool.{leb-true, leb-false}
use Rattle.hv_lemmas.proofs.ComparisonLemmas.{lt_below, lt_not_below, zero_lt_suc}
use Rattle.hv_residual_model.proofs.LevelLemmas.{as_many_signs}
use Rattle.hv_tables.specs.declared.bins.CtxTable.TheVariants.{LastX, LastY}
use Rattle.hv_residual_model.specs.UnitBins.{UnitQuestion, InBypass, UnitBin, unit_bin}
use Rattle.hv_residual_model.specs.Binarization.{fixed_length_bins, truncated_unary_bins, exp_golomb_bins, bypass_at, remaining_bins}
use Rattle.hv_residual_model.specs.ScanOrder.{Position, block_position}
use Rattle.hv_residual_model.specs.ResidualContexts.{TransformBlock, ctxSet}
use Rattle.hv_residual_model.specs.ResidualSyntax.{Earlier, nothing_earlier, sig_coeff_of, any, bases, positions, suffix_length, first_of_prefix, swapped_in}
use Rattle.hv_residual_model.specs.ResidualBins.{magnitudes, signs, only_if_so, sig_coeff_bins, greater1_bins, greater2_bins, sign_bins, all_remaining_bins, bases_of, greater1_values, first_above_1, level_bins, levels_below, coded_sub_block_value, coded_sub_block_bins, sub_block_bins, behind_levels, sub_blocks_bins, last_sub_block_bins, downwards, last_bins, last_suffix_bins, last_prefix_bins, prefix_of, level_at, last_significant, residual_bins}
use Rattle.hv_plan.specs.Levels.{is_significant}
use Rattle.hv_residual.specs.Levels.{zeros_before}
use Rattle.hv_residual.specs.Counts.{sig_count, level_count, coded_count, flag_count, sub_block_count, sub_blocks_count}
use Rattle.hv_residual.proofs.BinLemmas.{below, low_level, high_level}
use Rattle.hv_residual.proofs.EarlierLemmas.{any_is, length-downwards}
use Rattle.hv_residual.proofs.LastLemmas.{parts_of_last}
use Rattle.hv_residual.proofs.ResidualLemmas.{residual_parts}

-- ---- binarizations
pub fixed_count : (n v : ℕ) → length (fixed_length_bins n v) ≡ n
fixed_count zero v = refl
fixed_count (suc n) v = ap suc (fixed_count n v)

pub unary_count : (q : ℕ → UnitQuestion) (c i v : ℕ) → v ≤ c →
    length (truncated_unary_bins q c i v) ≡ min (v + 1) c
unfolding truncated_unary_bins
unary_count q zero i v h = omega arith
unary_count q (suc c) i zero h = omega arith
unary_count q (suc c) i (suc v) h =
    let later = unary_count q c (suc i) v (omega arith) in
    let e : suc (min (v + 1) c) ≡ min (suc v + 1) (suc c) = omega arith in
    ap suc later ∙ e

-- the fuel isn't used up, and there are p ones
pub golomb_count : (p fuel k v : ℕ) → p < fuel → 2 ^ (k + p) ≤ v + 2 ^ k →
    v + 2 ^ k < 2 ^ suc (k + p) → length (exp_golomb_bins fuel k v) ≡ 2 * p + 1 + k
unfolding exp_golomb_bins
golomb_count p zero k v f least most = absurd (omega arith)
golomb_count zero (suc fuel) k v f least most =
    let m : v + 2 ^ k < 2 ^ suc k = rw add-zero at most in
    let below : v < 2 ^ k = omega (arith, pow-suc 2 k, m) in
    rw (lt_below v (2 ^ k) below) (ap suc (fixed_count k v) ∙ omega arith)
golomb_count (suc p) (suc fuel) k v f least most =
    let up : 2 ^ suc k ≤ 2 ^ (k + suc p) = pow_mono {i = suc k} {j = k + suc p} (omega arith) in
    let above : 2 ^ k ≤ v = omega (arith, pow-suc 2 k, up, least) in
    let same : v - 2 ^ k + 2 ^ suc k ≡ v + 2 ^ k = omega (arith, pow-suc 2 k, above) in
    let order : suc k + p ≡ k + suc p = omega arith in
    let least2 : 2 ^ (suc k + p) ≤ v - 2 ^ k + 2 ^ suc k = rw (order, same) least in
    let most2 : v - 2 ^ k + 2 ^ suc k < 2 ^ suc (suc k + p) = rw (order, same) most in
    let later = golomb_count p fuel (suc k) (v - 2 ^ k) (omega arith) least2 most2 in
    rw (lt_not_below v (2 ^ k) above) (ap suc later ∙ omega arith)

-- by the highest digit of value + 2^k
pub golomb_top : (k v j : ℕ) → k ≤ 8 → v < 524288 → 2 ^ j ≤ v + 2 ^ k → v + 2 ^ k < 2 ^ suc j →
    (length (exp_golomb_bins 32 k v) ≡ 2 * j + 1 - k) × (k ≤ j) × (j ≤ 19)
golomb_top k v j few h least most =
    let kj : k ≤ j = order k j (omega (arith, most)) in
    let small : 2 ^ k ≤ 256 = pow_mono {i = k} {j = 8} few in
    let top : j ≤ 19 = order j 19 (omega (arith, least, small, h)) in
    let e : k + (j - k) ≡ j = omega (arith, kj) in
    let c = golomb_count (j - k) 32 k v (omega (arith, top)) (rw e least) (rw e most) in
    (c ∙ omega (arith, kj), kj, top)
  where
    order : (a b : ℕ) → 2 ^ a < 2 ^ suc b → a ≤ b
    order a b h = let l = below a (suc b) h in omega (arith, l)

-- by its leading zeros
pub golomb_code : (k v : ℕ) → k ≤ 8 → v < 524288 →
    (length (exp_golomb_bins 32 k v) ≡ 2 * (31 - count_leading_zeros 32 (v + 2 ^ k)) + 1 - k) ×
    (k ≤ 31 - count_leading_zeros 32 (v + 2 ^ k)) ×
    (31 - count_leading_zeros 32 (v + 2 ^ k) ≤ 19)
golomb_code k v few h =
    let small : 2 ^ k ≤ 256 = pow_mono {i = k} {j = 8} few in
    let t = leading_top 32 (v + 2 ^ k) (omega (arith, pow_pos k)) (omega (arith, small, h)) in
    let e : 31 - count_leading_zeros 32 (v + 2 ^ k) ≡ t.0 = omega (arith, t.1) in
    rw e (golomb_top k v t.0 few h t.2 t.3)

pub low_count : (k v : ℕ) → v / 2 ^ k < 4 → length (remaining_bins k v) ≡ v / 2 ^ k + 1 + k
low_count k v h =
    ap length (low_level k v h) ∙
    length-append (truncated_unary_bins bypass_at 4 0 (v / 2 ^ k)) (fixed_length_bins k v) ∙
    omega (arith, unary_count bypass_at 4 0 (v / 2 ^ k) (omega arith), fixed_count k v, h)

pub high_count : (k v : ℕ) → 4 ≤ v / 2 ^ k →
    length (remaining_bins k v) ≡ 4 + length (exp_golomb_bins 32 (suc k) (v - 4 * 2 ^ k))
high_count k v h =
    ap length (high_level k v h) ∙
    length-append (truncated_unary_bins bypass_at 4 0 4)
    (exp_golomb_bins 32 (suc k) (v - 4 * 2 ^ k)) ∙
    omega (arith, unary_count bypass_at 4 0 4 (omega arith))

-- ---- sig_coeff_flag
pub sig_length : (q : ℕ → UnitQuestion) (levels : List ℤ) (sure : Bool) →
    length (sig_coeff_bins q levels sure) ≡ sig_count levels sure
unfolding sig_coeff_bins
sig_length q [] sure = refl
sig_length q (level ∷ []) true = refl
sig_length q (level ∷ []) false = refl
sig_length q (level ∷ next ∷ levels) true =
    ap suc (sig_length q (next ∷ levels) (not (is_significant level)))
sig_length q (level ∷ next ∷ levels) false = ap suc (sig_length q (next ∷ levels) false)

pub sig_unsure : (levels : List ℤ) → sig_count levels false ≡ length levels
sig_unsure [] = refl
sig_unsure (level ∷ []) = refl
sig_unsure (level ∷ next ∷ levels) = ap suc (sig_unsure (next ∷ levels))

inferred_case : (level next : ℤ) (levels : List ℤ) (t : Bool) → is_significant level ≡ t →
    length (level ∷ next ∷ levels) ≤ zeros_before (level ∷ next ∷ levels) + 1 →
    (length (next ∷ levels) ≤ zeros_before (next ∷ levels) + 1 →
    sig_count (next ∷ levels) true ≡ length (next ∷ levels) - 1) →
    sig_count (level ∷ next ∷ levels) true ≡ length (level ∷ next ∷ levels) - 1
inferred_case level next levels true e h later = absurd (omega (arith, rw e at h))
inferred_case level next levels false e h later =
    rw e (ap suc (later (omega (arith, rw e at h))) ∙ omega arith)

pub sig_inferred : (levels : List ℤ) → length levels ≤ zeros_before levels + 1 →
    sig_count levels true ≡ length levels - 1
sig_inferred [] h = omega arith
sig_inferred (level ∷ []) h = omega arith
sig_inferred (level ∷ next ∷ levels) h =
    inferred_case level next levels (is_significant level) refl h (sig_inferred (next ∷ levels))

all_case : (level next : ℤ) (levels : List ℤ) (t : Bool) → is_significant level ≡ t →
    zeros_before (level ∷ next ∷ levels) + 1 < length (level ∷ next ∷ levels) →
    (zeros_before (next ∷ levels) + 1 < length (next ∷ levels) →
    sig_count (next ∷ levels) true ≡ length (next ∷ levels)) →
    sig_count (level ∷ next ∷ levels) true ≡ length (level ∷ next ∷ levels)
all_case level next levels true e h later = rw e (ap suc (sig_unsure (next ∷ levels)))
all_case level next levels false e h later = rw e (ap suc (later (omega (arith, rw e at h))))

pub sig_all : (levels : List ℤ) → zeros_before levels + 1 < length levels →
    sig_count levels true ≡ length levels
sig_all [] h = absurd (omega arith)
sig_all (level ∷ []) h = absurd (omega arith)
sig_all (level ∷ next ∷ levels) h =
    all_case level next levels (is_significant level) refl h (sig_all (next ∷ levels))

pub inferred_count : (levels : List ℤ) (sure : Bool) →
    (sure && nat_le (length levels) (zeros_before levels + 1)) ≡ true →
    sig_count levels sure ≡ length levels - 1
inferred_count levels true h = sig_inferred levels (leb-true _ _ h)
inferred_count levels false h = absurd cc

pub full_count : (levels : List ℤ) (sure : Bool) →
    (sure && nat_le (length levels) (zeros_before levels + 1)) ≡ false →
    sig_count levels sure ≡ length levels
full_count levels true h = sig_all levels (leb-false _ _ h)
full_count levels false h = sig_unsure levels

-- ---- what follows the significance
greater1_count : (b : TransformBlock) (set k : ℕ) (ms : List ℕ) (p : ℕ) →
    length (greater1_bins b set k ms p) ≡ min k (length ms)
unfolding greater1_bins
greater1_count b set zero ms p = omega arith
greater1_count b set (suc k) [] p = omega arith
greater1_count b set (suc k) (m ∷ ms) p =
    ap suc (greater1_count b set k ms _) ∙ omega arith

greater2_case : (b : TransformBlock) (set : ℕ) (ms : List ℕ) (t : Bool) →
    any (greater1_values 8 ms) ≡ t → length (greater2_bins b set ms) ≡ cond t 1 0
greater2_case b set ms true e = rw e refl
greater2_case b set ms false e = rw e refl

signs_case : (b : Bool) (m : ℕ) (v : Bool) (ms : List ℕ) (vs : List Bool) → length vs ≡ length ms →
    length (only_if_so b v vs) ≡ length (only_if_so b m ms)
signs_case true m v ms vs e = ap suc e
signs_case false m v ms vs e = e

pub level_length : (b : TransformBlock) (set : ℕ) (levels : List ℤ) →
    length (level_bins b set levels) ≡ level_count levels
unfolding level_bins level_count
level_length b set levels =
    let m : List ℕ = magnitudes levels in
    let first : List UnitBin = greater1_bins b set 8 m 1 in
    let second : List UnitBin = greater2_bins b set m in
    let third : List UnitBin = sign_bins (signs levels) in
    let fourth : List UnitBin = all_remaining_bins (bases_of m) m 0 in
    let a = length-append first (second ++ (third ++ fourth)) in
    let c = length-append second (third ++ fourth) in
    let d = length-append third fourth in
    let n1 : length first ≡ min 8 (length m) = greater1_count b set 8 m 1 in
    let n2 : length second ≡ cond (any (greater1_values 8 m)) 1 0 =
    greater2_case b set m (any (greater1_values 8 m)) refl in
    let n3 : length third ≡ length m = length-map (signs levels) (unit_bin InBypass) ∙ as_many_signs levels in
    rw (a, c, d, n1, n2, n3) refl

-- by what the code computed
pub level_count_parts : (levels : List ℤ) (m : List ℕ) (count first lowest some remaining : ℕ) →
    m ≡ magnitudes levels → count ≡ length (magnitudes levels) → first ≡ first_above_1 8 m →
    lowest ≡ min 8 count → some ≡ cond (nat_lt 1 first) 1 0 →
    remaining ≡ length (all_remaining_bins
    (bases true (nat_lt 2 first) (greater1_values 8 m) (length m)) m 0) →
    lowest + (some + (count + remaining)) ≡ level_count levels
unfolding level_count
level_count_parts levels m count first lowest some remaining em ec ef el es er =
    let M : List ℕ = magnitudes levels in
    let f : first ≡ first_above_1 8 M = ef ∙ ap (λ (xs : List ℕ). first_above_1 8 xs) em in
    let s : some ≡ cond (any (greater1_values 8 M)) 1 0 =
    es ∙ ap (λ (n : ℕ). cond (nat_lt 1 n) 1 0) f ∙
    ap (λ (b : Bool). cond b 1 0) (sym (any_is 8 M)) in
    let r : remaining ≡ length (all_remaining_bins (bases_of M) M 0) =
    er ∙ rw (em, f) refl in
    rw (el, s, r, ec) refl

-- ---- sub-blocks
flag_length : (b : TransformBlock) (s : ℕ) (e : Earlier) (levels : List ℤ) →
    length (coded_sub_block_bins b s e levels) ≡ flag_count s
flag_length b zero e levels = refl
flag_length b (suc s) e levels = refl

coded_length : (b : TransformBlock) (s : ℕ) (e : Earlier) (flag : Bool) (levels : List ℤ) →
    length (sub_block_bins b s e flag levels) ≡ coded_count s flag levels
coded_length b s e false levels = refl
coded_length b zero e true levels =
    length-append (sig_coeff_bins (sig_coeff_of b 0 e) levels (nat_lt 0 0))
    (level_bins b (ctxSet b 0 e.had_greater1) levels) ∙
    rw (
      sig_length (sig_coeff_of b 0 e) levels false,
      level_length b (ctxSet b 0 e.had_greater1) levels,
    ) refl
coded_length b (suc s) e true levels =
    length-append (sig_coeff_bins (sig_coeff_of b (suc s) e) levels (nat_lt 0 (suc s)))
    (level_bins b (ctxSet b (suc s) e.had_greater1) levels) ∙
    rw (
      zero_lt_suc s,
      sig_length (sig_coeff_of b (suc s) e) levels true,
      level_length b (ctxSet b (suc s) e.had_greater1) levels,
    ) refl

pub sub_blocks_length : (b : TransformBlock) (levels : List ℤ) (s : ℕ) (e : Earlier) →
    length (sub_blocks_bins b levels s e) ≡ sub_blocks_count b levels s
unfolding sub_blocks_bins sub_blocks_count
sub_blocks_length b levels zero e = refl
sub_blocks_length b levels (suc s) e =
    let these : List ℤ = levels_below b levels s positions in
    let flag : Bool = coded_sub_block_value s these in
    let first : List UnitBin = coded_sub_block_bins b s e these in
    let second : List UnitBin = sub_block_bins b s e flag these in
    let rest : List UnitBin = sub_blocks_bins b levels s (behind_levels b s e flag these) in
    let a = length-append first (second ++ rest) in
    let c = length-append second rest in
    let n1 : length first ≡ flag_count s = flag_length b s e these in
    let n2 : length second ≡ coded_count s flag these = coded_length b s e flag these in
    let n3 : length rest ≡ sub_blocks_count b levels s =
    sub_blocks_length b levels s (behind_levels b s e flag these) in
    a ∙ ap (λ (n : ℕ). length first + n) c ∙ omega (arith, n1, n2, n3)

pub next_count : (b : TransformBlock) (levels : List ℤ) (s : ℕ) → 0 < s →
    sub_blocks_count b levels s ≡
    sub_block_count (s - 1) (levels_below b levels (s - 1) positions) +
    sub_blocks_count b levels (s - 1)
unfolding sub_blocks_count
next_count b levels zero h = absurd (omega arith)
next_count b levels (suc s) h = let e : suc s - 1 ≡ s = omega arith in rw e refl

pub no_count : (b : TransformBlock) (levels : List ℤ) (s : ℕ) → s ≤ 0 → sub_blocks_count b levels s ≡ 0
unfolding sub_blocks_count
no_count b levels s h = let e : s ≡ 0 = omega arith in rw e refl

last_of : (b : TransformBlock) (s : ℕ) (level : ℤ) (levels : List ℤ) →
    length (last_sub_block_bins b s (level ∷ levels)) ≡ length levels + level_count (level ∷ levels)
last_of b s level levels =
    length-append (sig_coeff_bins (sig_coeff_of b s nothing_earlier) levels false)
    (level_bins b (ctxSet b s false) (level ∷ levels)) ∙
    rw (
      sig_length (sig_coeff_of b s nothing_earlier) levels false,
      sig_unsure levels,
      level_length b (ctxSet b s false) (level ∷ levels),
    ) refl

pub last_length : (b : TransformBlock) (levels : List ℤ) (s i : ℕ) →
    length (last_sub_block_bins b s (levels_below b levels s (i + 1))) ≡
    i + level_count (levels_below b levels s (i + 1))
unfolding levels_below downwards
last_length b levels s i =
    let f : ℕ → ℤ = λ n. level_at b levels (16 * s + n) in
    rw add-one (last_of b s (f i) (downwards i f) ∙
    ap (λ (n : ℕ). n + level_count (f i ∷ downwards i f)) (length-downwards f i))

-- ---- the last position
pub suffix_count : (coordinate : ℕ) →
    length (last_suffix_bins coordinate) ≡ suffix_length (prefix_of coordinate)
suffix_count coordinate =
    fixed_count (suffix_length (prefix_of coordinate))
    (coordinate - first_of_prefix (prefix_of coordinate))

pub last_count : (b : TransformBlock) (n : ℕ) (p : Position) →
    p ≡ swapped_in b.scanIdx (block_position b.scanIdx b.log2TrafoSize n) →
    length (last_bins b n) ≡
    (length (last_prefix_bins LastX b p.x) + suffix_length (prefix_of p.x)) +
    (length (last_prefix_bins LastY b p.y) + suffix_length (prefix_of p.y))
last_count b n p e =
    let x : List UnitBin = last_prefix_bins LastX b p.x in
    let y : List UnitBin = last_prefix_bins LastY b p.y in
    let u : List UnitBin = last_suffix_bins p.x in
    let v : List UnitBin = last_suffix_bins p.y in
    sym (ap length (parts_of_last b n p e)) ∙ length-append x (y ++ (u ++ v)) ∙
    ap (λ (m : ℕ). length x + m) (length-append y (u ++ v)) ∙
    omega (arith, length-append u v, suffix_count p.x, suffix_count p.y)

-- ---- the block
pub three_parts : (first second third : List UnitBin) →
    length (first ++ (second ++ third)) ≡ length first + length second + length third
three_parts first second third =
    length-append first (second ++ third) ∙ omega (arith, length-append second third)

pub block_count : (b : TransformBlock) (levels : List ℤ) (s i : ℕ) → i < 16 →
    last_significant b levels ≡ 16 * s + i →
    length (last_bins b (16 * s + i)) +
    (i + level_count (levels_below b levels s (i + 1))) + sub_blocks_count b levels s ≡
    length (residual_bins b levels)
block_count b levels s i h e =
    let these : List ℤ = levels_below b levels s (i + 1) in
    let after : Earlier = behind_levels b s nothing_earlier true these in
    let parts = three_parts (last_bins b (16 * s + i)) (last_sub_block_bins b s these)
    (sub_blocks_bins b levels s after) in
    omega (
      arith,
      parts,
      ap length (residual_parts b levels s i h e),
      last_length b levels s i,
      sub_blocks_length b levels s after,
    )
