-- The syntax of the levels of a transform block, residual_coding (7.3.8.11), as a script. The flags
-- of this profile that change it are 0: transform_skip_enabled_flag and
-- sign_data_hiding_enabled_flag.
use Rattle.std.specs.Prelude.{ℕ, zero, suc, ◌+◌, ◌-◌, ◌*◌, ◌/◌, ◌%◌, ◌^◌, Bool, true, false, cond, not, nat_eq, nat_lt, ◌&&◌, min, List, [], ◌∷◌, ◌++◌, length, replicate, slice_index_or, ℤ, pos, negsuc, neg_ℤ}
use Rattle.hv_tables.specs.declared.bins.CtxTable.{CtxTable}
use Rattle.hv_tables.specs.declared.bins.CtxTable.TheVariants.{LastX, LastY}
use Rattle.hv_plan.specs.declared.prediction.Scan.{Scan}
use Rattle.hv_plan.specs.declared.prediction.Scan.TheVariants.{Diagonal, Horizontal, Vertical}
use Rattle.hv_lemmas.specs.Lists.{tabulate}
use Rattle.hv_stream_model.specs.Scripts.{Done, Ask, ask, only_if, ◌>>=◌}
use Rattle.hv_plan.specs.Levels.{has_16_bits}
use Rattle.hv_residual_model.specs.UnitBins.{UnitQuestion, InBypass, UnitScript}
use Rattle.hv_residual_model.specs.Binarization.{fixed_length, truncated_unary, coeff_abs_level_remaining}
use Rattle.hv_residual_model.specs.ScanOrder.{Position, at, position_at, block_number}
use Rattle.hv_residual_model.specs.ResidualContexts.{TransformBlock, last_prefix_at, coded_sub_block_at, sig_coeff_at, ctxSet, next_greater1Ctx, greater1_at, greater2_at}

-- ---- the last significant position: last_sig_coeff_x_prefix, last_sig_coeff_y_prefix,
-- last_sig_coeff_x_suffix, last_sig_coeff_y_suffix

abbrev pub last_sig_coeff_prefix : CtxTable → TransformBlock → UnitScript ℕ
last_sig_coeff_prefix table b =
    truncated_unary (last_prefix_at table b) (2 * b.log2TrafoSize - 1) 0

-- how many bins the suffix behind a prefix has
abbrev pub suffix_length : ℕ → ℕ
suffix_length prefix = prefix / 2 - 1

abbrev pub last_sig_coeff_suffix : ℕ → UnitScript ℕ
last_sig_coeff_suffix prefix = fixed_length (suffix_length prefix)

-- LastSignificantCoeffX, LastSignificantCoeffY: the first position of a prefix, and the suffix
abbrev pub first_of_prefix : ℕ → ℕ
first_of_prefix prefix =
    cond (nat_lt 3 prefix) (2 ^ suffix_length prefix * (2 + prefix % 2)) prefix

-- the coordinates change places in the vertical scan
abbrev pub swapped_in : Scan → Position → Position
swapped_in Diagonal p = p
swapped_in Horizontal p = p
swapped_in Vertical p = at p.y p.x

-- its number in the scan of the whole block
unfoldable pub last_sig_coeff : TransformBlock → UnitScript ℕ
last_sig_coeff b =
    last_sig_coeff_prefix LastX b >>= λ x_prefix.
    last_sig_coeff_prefix LastY b >>= λ y_prefix.
    last_sig_coeff_suffix x_prefix >>= λ x_suffix.
    last_sig_coeff_suffix y_prefix >>= λ y_suffix.
    Done (block_number b.scanIdx b.log2TrafoSize
    (swapped_in b.scanIdx
    (at (first_of_prefix x_prefix + x_suffix) (first_of_prefix y_prefix + y_suffix))))

-- ---- what earlier sub-blocks tell later ones: coded_sub_block_flag by column and row, and whether
-- coeff_abs_level_greater1_flag was 1 in the last sub-block that had such flags

pub record Earlier : Type 0 where
  pub coded_sub_block_flag : ℕ → ℕ → Bool
  pub had_greater1 : Bool

abbrev pub nothing_earlier : Earlier
nothing_earlier = record { coded_sub_block_flag = λ x y. false; had_greater1 = false }

-- the sub-block of this number
abbrev pub sub_block_at : TransformBlock → ℕ → Position
sub_block_at b s = position_at b.scanIdx (b.log2TrafoSize - 2) s

abbrev pub right_flag : Earlier → Position → Bool
right_flag e S = e.coded_sub_block_flag (S.x + 1) S.y

abbrev pub below_flag : Earlier → Position → Bool
below_flag e S = e.coded_sub_block_flag S.x (S.y + 1)

abbrev pub any : List Bool → Bool
any [] = false
any (true ∷ flags) = true
any (false ∷ flags) = any flags

abbrev pub had_greater1_after : Bool → List Bool → Bool
had_greater1_after had [] = had
had_greater1_after had (flag ∷ flags) = any (flag ∷ flags)

-- behind sub-block s, which had this coded_sub_block_flag and these coeff_abs_level_greater1_flag
abbrev pub behind_sub_block : TransformBlock → ℕ → Earlier → Bool → List Bool → Earlier
behind_sub_block b s e flag greater1_flags =
    let S = sub_block_at b s in
    record {
      coded_sub_block_flag = λ x y.
          cond (nat_eq x S.x && nat_eq y S.y) flag (e.coded_sub_block_flag x y);
      had_greater1 = had_greater1_after e.had_greater1 greater1_flags;
    }

-- ---- sig_coeff_flag of the positions below i of sub-block s, from the highest on. `sure`: one of
-- them is 1, so that the last one isn't coded where all before it are 0 (inferSbDcSigCoeffFlag).

abbrev pub sig_coeff_of : TransformBlock → ℕ → Earlier → ℕ → UnitQuestion
sig_coeff_of b s e i =
    let S = sub_block_at b s in
    sig_coeff_at b (right_flag e S) (below_flag e S) S (position_at b.scanIdx 2 i)

unfoldable pub sig_coeff_flags : (ℕ → UnitQuestion) → ℕ → Bool → UnitScript (List Bool)
sig_coeff_flags question zero sure = Done []
sig_coeff_flags question (suc zero) true = Done (true ∷ [])
sig_coeff_flags question (suc i) sure =
    Ask (question i) (λ flag.
    sig_coeff_flags question i (sure && not flag) >>= λ flags. Done (flag ∷ flags))

-- ---- coeff_abs_level_greater1_flag of at most k of n significant positions

unfoldable pub greater1_flags : TransformBlock → ℕ → ℕ → ℕ → ℕ → UnitScript (List Bool)
greater1_flags b set zero n greater1Ctx = Done []
greater1_flags b set (suc k) zero greater1Ctx = Done []
greater1_flags b set (suc k) (suc n) greater1Ctx =
    Ask (greater1_at b set greater1Ctx) (λ flag.
    greater1_flags b set k n (next_greater1Ctx greater1Ctx flag) >>= λ flags.
    Done (flag ∷ flags))

-- ---- coeff_abs_level_greater2_flag of the first position whose greater1 flag is 1

abbrev pub greater2_flag : TransformBlock → ℕ → List Bool → UnitScript Bool
greater2_flag b set greater1_flags =
    cond (any greater1_flags) (ask (greater2_at b set)) (Done false)

-- ---- coeff_sign_flag of n positions

abbrev pub sign_flags : ℕ → UnitScript (List Bool)
sign_flags zero = Done []
sign_flags (suc n) = Ask InBypass (λ flag. sign_flags n >>= λ flags. Done (flag ∷ flags))

-- ---- coeff_abs_level_remaining

-- what the flags say of a level: its baseLevel, and whether coeff_abs_level_remaining follows
pub record Base : Type 0 where
  pub baseLevel : ℕ
  pub has_remaining : Bool

abbrev pub base : ℕ → Bool → Base
base level remaining = record { baseLevel = level; has_remaining = remaining }

-- Those of n levels in all, from the greater1 flags of the first of them and the greater2 flag of
-- the first whose greater1 flag is 1; `first` while there was none. Remaining follows where the
-- base is 3 with a greater2 flag, 2 without one, and 1 without a greater1 flag.
abbrev pub bases : Bool → Bool → List Bool → ℕ → List Base
bases first greater2 [] n = replicate n (base 1 true)
bases first greater2 (flag ∷ flags) zero = []
bases first greater2 (false ∷ flags) (suc n) = base 1 false ∷ bases first greater2 flags n
bases true greater2 (true ∷ flags) (suc n) =
    cond greater2 (base 3 true) (base 2 false) ∷ bases false greater2 flags n
bases false greater2 (true ∷ flags) (suc n) = base 2 true ∷ bases false greater2 flags n

-- cRiceParam behind a level
abbrev pub next_cRiceParam : ℕ → ℕ → ℕ
next_cRiceParam cRiceParam level =
    cond (nat_lt (3 * 2 ^ cRiceParam) level) (min 4 (cRiceParam + 1)) cRiceParam

-- the level of this coeff_sign_flag
abbrev pub with_sign : Bool → ℕ → ℤ
with_sign true level = neg_ℤ (pos level)
with_sign false level = pos level

-- the levels that aren't 0, with their signs
abbrev pub significant_levels : List Base → List Bool → ℕ → UnitScript (List ℤ)
significant_levels [] signs cRiceParam = Done []
significant_levels (b ∷ bases) [] cRiceParam = Done []
significant_levels (b ∷ bases) (sign ∷ signs) cRiceParam =
    cond b.has_remaining
    (coeff_abs_level_remaining cRiceParam >>= λ remaining.
    let level = b.baseLevel + remaining in
    only_if (has_16_bits (with_sign sign level))
    (significant_levels bases signs (next_cRiceParam cRiceParam level) >>= λ levels.
    Done (with_sign sign level ∷ levels)))
    (significant_levels bases signs cRiceParam >>= λ levels.
    Done (with_sign sign b.baseLevel ∷ levels))

-- ---- a sub-block

-- how many flags are 1
abbrev pub count : List Bool → ℕ
count [] = 0
count (true ∷ flags) = suc (count flags)
count (false ∷ flags) = count flags

-- the levels at all positions
abbrev pub with_zeros : List Bool → List ℤ → List ℤ
with_zeros [] levels = []
with_zeros (false ∷ flags) levels = pos 0 ∷ with_zeros flags levels
with_zeros (true ∷ flags) [] = []
with_zeros (true ∷ flags) (level ∷ levels) = level ∷ with_zeros flags levels

-- levels from the highest position down, and the greater1 flags that tell of them
pub record SubBlock : Type 0 where
  pub levels : List ℤ
  pub greater1_flags : List Bool

abbrev pub most_greater1_flags : ℕ
most_greater1_flags = 8

-- what follows these sig_coeff_flag of sub-block s
unfoldable pub levels_of_flags : TransformBlock → ℕ → List Bool → UnitScript SubBlock
levels_of_flags b set flags =
    greater1_flags b set most_greater1_flags (count flags) 1 >>= λ greater1.
    greater2_flag b set greater1 >>= λ greater2.
    sign_flags (count flags) >>= λ signs.
    significant_levels (bases true greater2 greater1 (count flags)) signs 0 >>= λ levels.
    Done (record { levels = with_zeros flags levels; greater1_flags = greater1 })

-- the sub-block of the last significant position, which is i there
abbrev pub last_sub_block : TransformBlock → ℕ → ℕ → UnitScript SubBlock
last_sub_block b s i =
    sig_coeff_flags (sig_coeff_of b s nothing_earlier) i false >>= λ flags.
    levels_of_flags b (ctxSet b s false) (true ∷ flags)

-- the number of positions of a sub-block
unfoldable pub positions : ℕ
positions = 16

-- that of sub-block 0 is inferred to be 1
abbrev pub coded_sub_block_flag : TransformBlock → ℕ → Earlier → UnitScript Bool
coded_sub_block_flag b zero e = Done true
coded_sub_block_flag b (suc s) e =
    let S = sub_block_at b (suc s) in ask (coded_sub_block_at b (right_flag e S) (below_flag e S))

abbrev pub sub_block : TransformBlock → ℕ → Earlier → Bool → UnitScript SubBlock
sub_block b s e false =
    Done (record { levels = replicate positions (pos 0); greater1_flags = [] })
sub_block b s e true =
    sig_coeff_flags (sig_coeff_of b s e) positions (nat_lt 0 s) >>= λ flags.
    levels_of_flags b (ctxSet b s e.had_greater1) flags

-- ---- the block

-- the levels of the sub-blocks below s, from the highest position down
unfoldable pub sub_blocks_below : TransformBlock → ℕ → Earlier → UnitScript (List ℤ)
sub_blocks_below b zero e = Done []
sub_blocks_below b (suc s) e =
    coded_sub_block_flag b s e >>= λ flag.
    sub_block b s e flag >>= λ this.
    sub_blocks_below b s (behind_sub_block b s e flag this.greater1_flags) >>= λ levels.
    Done (this.levels ++ levels)

-- TransCoeffLevel at the position of number n, from the levels down to number 0
abbrev pub level_of_number : List ℤ → ℕ → ℤ
level_of_number levels n =
    cond (nat_lt n (length levels)) (slice_index_or levels (length levels - 1 - n) (pos 0)) (pos 0)

-- TransCoeffLevel by rows
abbrev pub by_rows : TransformBlock → List ℤ → List ℤ
by_rows b levels =
    let side = 2 ^ b.log2TrafoSize in
    tabulate (side * side) (λ i.
    level_of_number levels
    (block_number b.scanIdx b.log2TrafoSize (at (i % side) (i / side))))

-- residual_coding (7.3.8.11): the levels of a block by rows
unfoldable pub residual_coding : TransformBlock → UnitScript (List ℤ)
residual_coding b =
    last_sig_coeff b >>= λ last.
    last_sub_block b (last / 16) (last % 16) >>= λ this.
    sub_blocks_below b (last / 16)
    (behind_sub_block b (last / 16) nothing_earlier true this.greater1_flags) >>= λ levels.
    Done (by_rows b (this.levels ++ levels))
