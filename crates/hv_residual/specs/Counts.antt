-- How many bins the parts of a transform block have, by their levels alone (7.3.8.11).
use Rattle.std.specs.Prelude.{ℕ, zero, suc, ◌+◌, Bool, true, false, cond, not, ◌&&◌, min, max, List, [], ◌∷◌, ℤ, length}
use Rattle.std.specs.Int.RustNames.{unsigned_abs}
use Rattle.hv_residual_model.specs.ResidualContexts.{TransformBlock}
use Rattle.hv_residual_model.specs.ResidualSyntax.{any, positions}
use Rattle.hv_residual_model.specs.ResidualBins.{magnitudes, greater1_values, bases_of, all_remaining_bins, levels_below, coded_sub_block_value}
use Rattle.hv_plan.specs.Levels.{is_significant}

-- sig_coeff_flag
abbrev pub sig_count : List ℤ → Bool → ℕ
sig_count [] sure = 0
sig_count (level ∷ []) true = 0
sig_count (level ∷ levels) sure = suc (sig_count levels (sure && not (is_significant level)))

-- what follows the significance of these levels
unfoldable pub level_count : List ℤ → ℕ
level_count levels =
    let m = magnitudes levels in
    min 8 (length m) + (cond (any (greater1_values 8 m)) 1 0 +
    (length m + length (all_remaining_bins (bases_of m) m 0)))

-- what follows coded_sub_block_flag
abbrev pub coded_count : ℕ → Bool → List ℤ → ℕ
coded_count s false levels = 0
coded_count zero true levels = sig_count levels false + level_count levels
coded_count (suc s) true levels = sig_count levels true + level_count levels

-- coded_sub_block_flag
abbrev pub flag_count : ℕ → ℕ
flag_count zero = 0
flag_count (suc s) = 1

abbrev pub sub_block_count : ℕ → List ℤ → ℕ
sub_block_count s levels = flag_count s + coded_count s (coded_sub_block_value s levels) levels

-- the sub-blocks below s
unfoldable pub sub_blocks_count : TransformBlock → List ℤ → ℕ → ℕ
sub_blocks_count b levels zero = 0
sub_blocks_count b levels (suc s) =
    sub_block_count s (levels_below b levels s positions) + sub_blocks_count b levels s

-- ---- levels of magnitudes up to 3

unfoldable pub greatest_magnitude : List ℤ → ℕ
greatest_magnitude [] = 0
greatest_magnitude (level ∷ levels) = max (unsigned_abs level) (greatest_magnitude levels)

-- each that isn't 0 has as many bins as its magnitude, and its sign
unfoldable pub small_count : List ℤ → ℕ
small_count [] = 0
small_count (level ∷ levels) =
    unsigned_abs level + (cond (is_significant level) 1 0 + small_count levels)
