-- The bins of the levels of a transform block (7.3.8.11), as they are written.
use Rattle.std.specs.Prelude.{ℕ, zero, suc, ◌+◌, ◌-◌, ◌*◌, ◌/◌, ◌%◌, ◌^◌, Bool, true, false, cond, not, nat_lt, ◌&&◌, ◌||◌, List, [], ◌∷◌, ◌++◌, length, map, slice_index_or, ℤ, pos, negsuc}
use Rattle.std.specs.Int.{is_negative}
use Rattle.std.specs.Int.RustNames.{unsigned_abs}
use Rattle.hv_tables.specs.declared.bins.CtxTable.{CtxTable}
use Rattle.hv_tables.specs.declared.bins.CtxTable.TheVariants.{LastX, LastY}
use Rattle.hv_plan.specs.Levels.{is_significant, any_significant}
use Rattle.hv_residual_model.specs.UnitBins.{UnitQuestion, InBypass, UnitBin, unit_bin}
use Rattle.hv_residual_model.specs.Binarization.{fixed_length_bins, truncated_unary_bins, remaining_bins}
use Rattle.hv_residual_model.specs.ScanOrder.{block_position}
use Rattle.hv_residual_model.specs.ResidualContexts.{TransformBlock, last_prefix_at, coded_sub_block_at, ctxSet, next_greater1Ctx, greater1_at, greater2_at}
use Rattle.hv_residual_model.specs.ResidualSyntax.{suffix_length, first_of_prefix, swapped_in, Earlier, nothing_earlier, sub_block_at, right_flag, below_flag, any, behind_sub_block, sig_coeff_of, Base, bases, next_cRiceParam, most_greater1_flags, positions}

-- ---- the levels of a block by rows, by their numbers in the scan

unfoldable pub level_at : TransformBlock → List ℤ → ℕ → ℤ
level_at b levels n =
    let p = block_position b.scanIdx b.log2TrafoSize n in
    slice_index_or levels (p.y * 2 ^ b.log2TrafoSize + p.x) (pos 0)

-- f (n - 1), .., f 1, f 0
unfoldable pub downwards : {A : Type 0} → ℕ → (ℕ → A) → List A
downwards zero f = []
downwards (suc n) f = f n ∷ downwards n f

-- the lowest n levels of sub-block s, from the highest position down
unfoldable pub levels_below : TransformBlock → List ℤ → ℕ → ℕ → List ℤ
levels_below b levels s n = downwards n (λ i. level_at b levels (16 * s + i))

-- the number of the last level that isn't 0, of those below n
abbrev pub last_below : TransformBlock → List ℤ → ℕ → ℕ
last_below b levels zero = 0
last_below b levels (suc n) = cond (is_significant (level_at b levels n)) n (last_below b levels n)

unfoldable pub last_significant : TransformBlock → List ℤ → ℕ
last_significant b levels = last_below b levels (2 ^ b.log2TrafoSize * 2 ^ b.log2TrafoSize)

-- ---- the last significant position

-- the greatest prefix of those up to n whose first position is not above this one
abbrev pub prefix_up_to : ℕ → ℕ → ℕ
prefix_up_to zero coordinate = 0
prefix_up_to (suc n) coordinate =
    cond (nat_lt coordinate (first_of_prefix (suc n))) (prefix_up_to n coordinate) (suc n)

-- no block has a prefix above 9
unfoldable pub prefix_of : ℕ → ℕ
prefix_of coordinate = prefix_up_to 9 coordinate

abbrev pub last_prefix_bins : CtxTable → TransformBlock → ℕ → List UnitBin
last_prefix_bins table b coordinate =
    truncated_unary_bins (last_prefix_at table b) (2 * b.log2TrafoSize - 1) 0 (prefix_of coordinate)

abbrev pub last_suffix_bins : ℕ → List UnitBin
last_suffix_bins coordinate =
    let prefix = prefix_of coordinate in
    fixed_length_bins (suffix_length prefix) (coordinate - first_of_prefix prefix)

-- of the position of number n
unfoldable pub last_bins : TransformBlock → ℕ → List UnitBin
last_bins b n =
    let p = swapped_in b.scanIdx (block_position b.scanIdx b.log2TrafoSize n) in
    last_prefix_bins LastX b p.x ++
    (last_prefix_bins LastY b p.y ++ (last_suffix_bins p.x ++ last_suffix_bins p.y))

-- ---- sig_coeff_flag of these levels, the lowest of them at position 0; of the last one only where
-- it isn't sure

unfoldable pub sig_coeff_bins : (ℕ → UnitQuestion) → List ℤ → Bool → List UnitBin
sig_coeff_bins question [] sure = []
sig_coeff_bins question (level ∷ []) true = []
sig_coeff_bins question (level ∷ levels) sure =
    unit_bin (question (length levels)) (is_significant level) ∷
    sig_coeff_bins question levels (sure && not (is_significant level))

-- ---- the levels that aren't 0: their magnitudes and signs

abbrev pub only_if_so : {A : Type 0} → Bool → A → List A → List A
only_if_so true a list = a ∷ list
only_if_so false a list = list

abbrev pub magnitudes : List ℤ → List ℕ
magnitudes [] = []
magnitudes (level ∷ levels) =
    only_if_so (is_significant level) (unsigned_abs level) (magnitudes levels)

abbrev pub signs : List ℤ → List Bool
signs [] = []
signs (level ∷ levels) = only_if_so (is_significant level) (is_negative level) (signs levels)

-- coeff_abs_level_greater1_flag of the first k
abbrev pub greater1_values : ℕ → List ℕ → List Bool
greater1_values zero magnitudes = []
greater1_values (suc k) [] = []
greater1_values (suc k) (m ∷ magnitudes) = nat_lt 1 m ∷ greater1_values k magnitudes

unfoldable pub greater1_bins : TransformBlock → ℕ → ℕ → List ℕ → ℕ → List UnitBin
greater1_bins b set zero magnitudes greater1Ctx = []
greater1_bins b set (suc k) [] greater1Ctx = []
greater1_bins b set (suc k) (m ∷ magnitudes) greater1Ctx =
    unit_bin (greater1_at b set greater1Ctx) (nat_lt 1 m) ∷
    greater1_bins b set k magnitudes (next_greater1Ctx greater1Ctx (nat_lt 1 m))

-- the first magnitude above 1 of the first k, or 0
abbrev pub first_above_1 : ℕ → List ℕ → ℕ
first_above_1 zero magnitudes = 0
first_above_1 (suc k) [] = 0
first_above_1 (suc k) (m ∷ magnitudes) = cond (nat_lt 1 m) m (first_above_1 k magnitudes)

abbrev pub greater2_value : List ℕ → Bool
greater2_value magnitudes = nat_lt 2 (first_above_1 most_greater1_flags magnitudes)

abbrev pub greater2_bins : TransformBlock → ℕ → List ℕ → List UnitBin
greater2_bins b set magnitudes =
    cond (any (greater1_values most_greater1_flags magnitudes))
    (unit_bin (greater2_at b set) (greater2_value magnitudes) ∷ [])
    []

-- coeff_sign_flag
abbrev pub sign_bins : List Bool → List UnitBin
sign_bins signs = map (unit_bin InBypass) signs

-- coeff_abs_level_remaining of all that have it
abbrev pub all_remaining_bins : List Base → List ℕ → ℕ → List UnitBin
all_remaining_bins [] magnitudes cRiceParam = []
all_remaining_bins (b ∷ bases) [] cRiceParam = []
all_remaining_bins (b ∷ bases) (m ∷ magnitudes) cRiceParam =
    cond b.has_remaining
    (remaining_bins cRiceParam (m - b.baseLevel) ++
    all_remaining_bins bases magnitudes (next_cRiceParam cRiceParam m))
    (all_remaining_bins bases magnitudes cRiceParam)

abbrev pub bases_of : List ℕ → List Base
bases_of magnitudes =
    bases true (greater2_value magnitudes) (greater1_values most_greater1_flags magnitudes)
    (length magnitudes)

-- what follows the significance of these levels
unfoldable pub level_bins : TransformBlock → ℕ → List ℤ → List UnitBin
level_bins b set levels =
    let m = magnitudes levels in
    greater1_bins b set most_greater1_flags m 1 ++
    (greater2_bins b set m ++ (sign_bins (signs levels) ++ all_remaining_bins (bases_of m) m 0))

-- ---- sub-blocks

abbrev pub greater1_of : List ℤ → List Bool
greater1_of levels = greater1_values most_greater1_flags (magnitudes levels)

-- coded_sub_block_flag, with the value that it has or is inferred to have
abbrev pub coded_sub_block_value : ℕ → List ℤ → Bool
coded_sub_block_value zero levels = true
coded_sub_block_value (suc s) levels = any_significant levels

abbrev pub coded_sub_block_bins : TransformBlock → ℕ → Earlier → List ℤ → List UnitBin
coded_sub_block_bins b zero e levels = []
coded_sub_block_bins b (suc s) e levels =
    let S = sub_block_at b (suc s) in
    unit_bin (coded_sub_block_at b (right_flag e S) (below_flag e S)) (any_significant levels) ∷ []

abbrev pub sub_block_bins : TransformBlock → ℕ → Earlier → Bool → List ℤ → List UnitBin
sub_block_bins b s e false levels = []
sub_block_bins b s e true levels =
    sig_coeff_bins (sig_coeff_of b s e) levels (nat_lt 0 s) ++
    level_bins b (ctxSet b s e.had_greater1) levels

abbrev pub greater1_if : Bool → List ℤ → List Bool
greater1_if false levels = []
greater1_if true levels = greater1_of levels

-- behind sub-block s with these levels
abbrev pub behind_levels : TransformBlock → ℕ → Earlier → Bool → List ℤ → Earlier
behind_levels b s e flag levels = behind_sub_block b s e flag (greater1_if flag levels)

-- the sub-blocks below s
unfoldable pub sub_blocks_bins : TransformBlock → List ℤ → ℕ → Earlier → List UnitBin
sub_blocks_bins b levels zero e = []
sub_blocks_bins b levels (suc s) e =
    let these = levels_below b levels s positions in
    let flag = coded_sub_block_value s these in
    coded_sub_block_bins b s e these ++
    (sub_block_bins b s e flag these ++
    sub_blocks_bins b levels s (behind_levels b s e flag these))

-- the sub-block of the last significant position, which is i there
abbrev pub last_sub_block_bins : TransformBlock → ℕ → List ℤ → List UnitBin
last_sub_block_bins b s [] = []
last_sub_block_bins b s (level ∷ levels) =
    sig_coeff_bins (sig_coeff_of b s nothing_earlier) levels false ++
    level_bins b (ctxSet b s false) (level ∷ levels)

-- ---- the block

-- from the last significant position on
unfoldable pub bins_from : TransformBlock → List ℤ → ℕ → ℕ → List UnitBin
bins_from b levels s i =
    let these = levels_below b levels s (i + 1) in
    last_sub_block_bins b s these ++
    sub_blocks_bins b levels s (behind_levels b s nothing_earlier true these)

-- residual_coding (7.3.8.11), of a block that isn't all 0
unfoldable pub residual_bins : TransformBlock → List ℤ → List UnitBin
residual_bins b levels =
    let last = last_significant b levels in
    last_bins b last ++ bins_from b levels (last / 16) (last % 16)
