-- Worked values of the bins of levels (7.3.8.11), of their contexts (9.3.4.2.3 to 9.3.4.2.7) and of
-- scans (6.5.3 to 6.5.5), by hand.
use Rattle.std.proofs.Common.{◌≡◌, ℕ, Bool, true, false, List, [], ◌∷◌, ◌++◌, refl, replicate, pos, negsuc, map}
use Rattle.hv_tables.specs.declared.bins.CtxTable.{CtxTable}
use Rattle.hv_tables.specs.declared.bins.CtxTable.TheVariants.{LastX, LastY, CodedSub, Sig, Greater1, Greater2}
use Rattle.hv_plan.specs.declared.prediction.Pred.TheVariants.{Intra}
use Rattle.hv_plan.specs.declared.prediction.Scan.{Scan}
use Rattle.hv_plan.specs.declared.prediction.Scan.TheVariants.{Diagonal, Horizontal, Vertical}
use Rattle.hv_lemmas.specs.Lists.{tabulate}
use Rattle.hv_residual_model.specs.UnitBins.{UnitQuestion, UnitBin, InBypass, context, unit_bin}
use Rattle.hv_residual_model.specs.Binarization.{truncated_unary_bins, exp_golomb_bins, remaining_bins}
use Rattle.hv_residual_model.specs.ScanOrder.{Position, scan_order, at, block_position, scanIdx_of}
use Rattle.hv_residual_model.specs.ResidualContexts.{TransformBlock, last_prefix_at, coded_sub_block_at, sig_coeff_at}
use Rattle.hv_residual_model.specs.ResidualSyntax.{positions}
use Rattle.hv_residual_model.specs.ResidualBins.{residual_bins, level_at, last_significant, prefix_of, last_bins, bins_from, levels_below, downwards, sig_coeff_bins, level_bins, greater1_bins, sub_blocks_bins}

abbrev block : Scan → ℕ → Bool → TransformBlock
block scan log2 luma = record { scanIdx = scan; log2TrafoSize = log2; is_luma = luma }

abbrev bypass_of : List Bool → List UnitBin
bypass_of values = map (unit_bin InBypass) values

-- bins of one table and one value
abbrev each : CtxTable → List ℕ → Bool → List UnitBin
each table indexes value = map (λ i. unit_bin (context table i) value) indexes

-- ---- scans

diagonal_of_2 : scan_order Diagonal 1 ≡ at 0 0 ∷ at 0 1 ∷ at 1 0 ∷ at 1 1 ∷ []
unfolding scan_order tabulate
diagonal_of_2 = refl

diagonal_of_4 :
    scan_order Diagonal 2 ≡
    at 0 0 ∷ at 0 1 ∷ at 1 0 ∷ at 0 2 ∷ at 1 1 ∷ at 2 0 ∷ at 0 3 ∷ at 1 2 ∷ at 2 1 ∷ at 3 0 ∷
    at 1 3 ∷ at 2 2 ∷ at 3 1 ∷ at 2 3 ∷ at 3 2 ∷ at 3 3 ∷ []
unfolding scan_order tabulate
diagonal_of_4 = refl

horizontal_of_2 : scan_order Horizontal 1 ≡ at 0 0 ∷ at 1 0 ∷ at 0 1 ∷ at 1 1 ∷ []
unfolding scan_order tabulate
horizontal_of_2 = refl

vertical_of_2 : scan_order Vertical 1 ≡ at 0 0 ∷ at 0 1 ∷ at 1 0 ∷ at 1 1 ∷ []
unfolding scan_order tabulate
vertical_of_2 = refl

-- the scans of 4x4 chroma by the mode, at the ends of both ranges
scans_of_modes :
    map (λ mode. scanIdx_of (Intra mode) 2 false)
    (5 ∷ 6 ∷ 10 ∷ 14 ∷ 15 ∷ 21 ∷ 22 ∷ 26 ∷ 30 ∷ 31 ∷ []) ≡
    Diagonal ∷ Vertical ∷ Vertical ∷ Vertical ∷ Diagonal ∷
    Diagonal ∷ Horizontal ∷ Horizontal ∷ Horizontal ∷ Diagonal ∷ []
scans_of_modes = refl

-- mode 10 in luma of 8 and 16, and in chroma of 8
scans_of_sizes :
    scanIdx_of (Intra 10) 3 true ∷ scanIdx_of (Intra 10) 4 true ∷ scanIdx_of (Intra 10) 3 false ∷ []
    ≡ Vertical ∷ Diagonal ∷ Diagonal ∷ []
scans_of_sizes = refl

-- ---- contexts

abbrev last_contexts : ℕ → Bool → ℕ → List UnitQuestion
last_contexts log2 luma n = tabulate n (last_prefix_at LastX (block Diagonal log2 luma))

abbrev contexts : CtxTable → List ℕ → List UnitQuestion
contexts table indexes = map (context table) indexes

last_of_luma :
    last_contexts 2 true 3 ++ (last_contexts 3 true 5 ++ (last_contexts 4 true 7 ++
    last_contexts 5 true 9)) ≡
    contexts LastX
    (0 ∷ 1 ∷ 2 ∷ 3 ∷ 3 ∷ 4 ∷ 4 ∷ 5 ∷ 6 ∷ 6 ∷ 7 ∷ 7 ∷ 8 ∷ 8 ∷ 9 ∷
    10 ∷ 10 ∷ 11 ∷ 11 ∷ 12 ∷ 12 ∷ 13 ∷ 13 ∷ 14 ∷ [])
unfolding tabulate
last_of_luma = refl

last_of_chroma :
    last_contexts 2 false 3 ++ (last_contexts 3 false 5 ++ last_contexts 4 false 7) ≡
    contexts LastX
    (15 ∷ 16 ∷ 17 ∷ 15 ∷ 15 ∷ 16 ∷ 16 ∷ 17 ∷ 15 ∷ 15 ∷ 15 ∷ 15 ∷ 16 ∷ 16 ∷ 16 ∷ [])
unfolding tabulate
last_of_chroma = refl

prefixes :
    tabulate 32 prefix_of ≡
    0 ∷ 1 ∷ 2 ∷ 3 ∷ 4 ∷ 4 ∷ 5 ∷ 5 ∷ 6 ∷ 6 ∷ 6 ∷ 6 ∷ 7 ∷ 7 ∷ 7 ∷ 7 ∷ (replicate 8 8 ++ replicate 8 9)
unfolding tabulate prefix_of
prefixes = refl

coded_contexts :
    coded_sub_block_at (block Diagonal 4 true) false false ∷
    coded_sub_block_at (block Diagonal 4 true) true false ∷
    coded_sub_block_at (block Diagonal 4 true) false true ∷
    coded_sub_block_at (block Diagonal 4 true) true true ∷
    coded_sub_block_at (block Diagonal 4 false) false false ∷
    coded_sub_block_at (block Diagonal 4 false) true false ∷
    coded_sub_block_at (block Diagonal 4 false) true true ∷ [] ≡
    contexts CodedSub (0 ∷ 1 ∷ 1 ∷ 1 ∷ 2 ∷ 3 ∷ 3 ∷ [])
coded_contexts = refl

-- sig_coeff_flag of a sub-block, by rows
abbrev sig_contexts : TransformBlock → Bool → Bool → Position → List UnitQuestion
sig_contexts b right below S =
    sig_coeff_at b right below S (at 0 0) ∷ sig_coeff_at b right below S (at 1 0) ∷
    sig_coeff_at b right below S (at 2 0) ∷ sig_coeff_at b right below S (at 3 0) ∷
    sig_coeff_at b right below S (at 0 1) ∷ sig_coeff_at b right below S (at 1 1) ∷
    sig_coeff_at b right below S (at 2 1) ∷ sig_coeff_at b right below S (at 3 1) ∷
    sig_coeff_at b right below S (at 0 2) ∷ sig_coeff_at b right below S (at 1 2) ∷
    sig_coeff_at b right below S (at 2 2) ∷ sig_coeff_at b right below S (at 3 2) ∷
    sig_coeff_at b right below S (at 0 3) ∷ sig_coeff_at b right below S (at 1 3) ∷
    sig_coeff_at b right below S (at 2 3) ∷ sig_coeff_at b right below S (at 3 3) ∷ []

-- alone, in the first sub-block and in another
sig_alone :
    sig_contexts (block Diagonal 3 true) false false (at 0 0) ≡
    contexts Sig (0 ∷ 10 ∷ 10 ∷ 9 ∷ 10 ∷ 10 ∷ 9 ∷ 9 ∷ 10 ∷ 9 ∷ 9 ∷ 9 ∷ 9 ∷ 9 ∷ 9 ∷ 9 ∷ [])
sig_alone = refl

sig_alone_behind :
    sig_contexts (block Diagonal 3 true) false false (at 1 0) ≡
    contexts Sig
    (14 ∷ 13 ∷ 13 ∷ 12 ∷ 13 ∷ 13 ∷ 12 ∷ 12 ∷ 13 ∷ 12 ∷ 12 ∷ 12 ∷ 12 ∷ 12 ∷ 12 ∷ 12 ∷ [])
sig_alone_behind = refl

sig_with_right :
    sig_contexts (block Diagonal 3 true) true false (at 0 1) ≡
    contexts Sig
    (14 ∷ 14 ∷ 14 ∷ 14 ∷ 13 ∷ 13 ∷ 13 ∷ 13 ∷ 12 ∷ 12 ∷ 12 ∷ 12 ∷ 12 ∷ 12 ∷ 12 ∷ 12 ∷ [])
sig_with_right = refl

sig_with_below :
    sig_contexts (block Diagonal 3 true) false true (at 1 0) ≡
    contexts Sig
    (14 ∷ 13 ∷ 12 ∷ 12 ∷ 14 ∷ 13 ∷ 12 ∷ 12 ∷ 14 ∷ 13 ∷ 12 ∷ 12 ∷ 14 ∷ 13 ∷ 12 ∷ 12 ∷ [])
sig_with_below = refl

sig_with_both :
    sig_contexts (block Diagonal 4 true) true true (at 1 1) ≡ contexts Sig (replicate 16 26)
sig_with_both = refl

sig_of_other_scans :
    sig_contexts (block Horizontal 3 true) false false (at 0 0) ≡
    contexts Sig
    (0 ∷ 16 ∷ 16 ∷ 15 ∷ 16 ∷ 16 ∷ 15 ∷ 15 ∷ 16 ∷ 15 ∷ 15 ∷ 15 ∷ 15 ∷ 15 ∷ 15 ∷ 15 ∷ [])
sig_of_other_scans = refl

sig_of_vertical :
    sig_coeff_at (block Vertical 3 true) false false (at 1 1) (at 3 3) ≡ context Sig 18
sig_of_vertical = refl

sig_of_16 :
    sig_contexts (block Diagonal 4 true) false false (at 0 0) ≡
    contexts Sig
    (0 ∷ 22 ∷ 22 ∷ 21 ∷ 22 ∷ 22 ∷ 21 ∷ 21 ∷ 22 ∷ 21 ∷ 21 ∷ 21 ∷ 21 ∷ 21 ∷ 21 ∷ 21 ∷ [])
sig_of_16 = refl

sig_of_32 : sig_coeff_at (block Diagonal 5 true) true true (at 7 7) (at 0 0) ≡ context Sig 26
sig_of_32 = refl

sig_of_chroma_8 :
    sig_contexts (block Diagonal 3 false) true false (at 0 0) ≡
    contexts Sig
    (27 ∷ 38 ∷ 38 ∷ 38 ∷ 37 ∷ 37 ∷ 37 ∷ 37 ∷ 36 ∷ 36 ∷ 36 ∷ 36 ∷ 36 ∷ 36 ∷ 36 ∷ 36 ∷ [])
sig_of_chroma_8 = refl

sig_of_chroma_16 :
    sig_contexts (block Diagonal 4 false) false false (at 1 1) ≡
    contexts Sig
    (41 ∷ 40 ∷ 40 ∷ 39 ∷ 40 ∷ 40 ∷ 39 ∷ 39 ∷ 40 ∷ 39 ∷ 39 ∷ 39 ∷ 39 ∷ 39 ∷ 39 ∷ 39 ∷ [])
sig_of_chroma_16 = refl

sig_of_chroma_4 :
    sig_coeff_at (block Vertical 2 false) false false (at 0 0) (at 2 2) ≡ context Sig 35
sig_of_chroma_4 = refl

-- ---- blocks

-- the greatest level: the remaining part of 32,764 takes 32 bins
greatest_level :
    residual_bins (block Diagonal 2 true) (pos 32767 ∷ replicate 15 (pos 0)) ≡
    each LastX (0 ∷ []) false ++ (each LastY (0 ∷ []) false ++
    (each Greater1 (1 ∷ []) true ++ (each Greater2 (0 ∷ []) true ++ (bypass_of (false ∷ []) ++
    (bypass_of (replicate 4 true) ++ (bypass_of (replicate 13 true) ++ bypass_of
    (false ∷ true ∷ true ∷ true ∷ true ∷ true ∷ true ∷ true ∷ true ∷ true ∷ true ∷ true ∷
    false ∷ true ∷ false ∷ [])))))))
unfolding residual_bins level_at last_significant prefix_of tabulate last_bins truncated_unary_bins block_position scan_order bins_from levels_below downwards sig_coeff_bins level_bins greater1_bins remaining_bins exp_golomb_bins sub_blocks_bins
greatest_level = refl

-- all 16 positions are 1: eight greater1 flags, and eight levels with a remaining part of 0
all_ones :
    residual_bins (block Diagonal 2 true) (replicate 16 (pos 1)) ≡
    each LastX (0 ∷ 1 ∷ 2 ∷ []) true ++ (each LastY (0 ∷ 1 ∷ 2 ∷ []) true ++
    (each Sig (8 ∷ 8 ∷ 5 ∷ 8 ∷ 7 ∷ 5 ∷ 4 ∷ 6 ∷ 7 ∷ 4 ∷ 3 ∷ 6 ∷ 1 ∷ 2 ∷ 0 ∷ []) true ++
    (each Greater1 (1 ∷ 2 ∷ 3 ∷ 3 ∷ 3 ∷ 3 ∷ 3 ∷ 3 ∷ []) false ++
    (bypass_of (replicate 16 false) ++ bypass_of (replicate 8 false)))))
unfolding residual_bins level_at last_significant prefix_of tabulate last_bins truncated_unary_bins block_position scan_order bins_from levels_below downwards sig_coeff_bins level_bins greater1_bins remaining_bins exp_golomb_bins sub_blocks_bins
all_ones = refl

-- cRiceParam rises from 0 to 4 and stays there: levels 100, 7, 13, 25, 49, 49 in coding order
rising_parameter :
    residual_bins (block Diagonal 2 true)
    (pos 49 ∷ pos 25 ∷ pos 100 ∷ pos 0 ∷ pos 49 ∷ pos 7 ∷ pos 0 ∷ pos 0 ∷ pos 13 ∷
    replicate 7 (pos 0)) ≡
    each LastX (0 ∷ 1 ∷ []) true ++ (each LastX (2 ∷ []) false ++ (each LastY (0 ∷ []) false ++
    (each Sig (3 ∷ 6 ∷ 1 ∷ 2 ∷ 0 ∷ []) true ++
    (each Greater1 (1 ∷ 0 ∷ 0 ∷ 0 ∷ 0 ∷ 0 ∷ []) true ++ (each Greater2 (0 ∷ []) true ++
    (bypass_of (replicate 6 false) ++
    (bypass_of (replicate 4 true) ++ (bypass_of (replicate 5 true) ++ (bypass_of
    (false ∷ false ∷ true ∷ true ∷ true ∷ true ∷ true ∷ []) ++
    (bypass_of (true ∷ true ∷ false ∷ true ∷ []) ++
    (bypass_of (true ∷ true ∷ false ∷ true ∷ true ∷ []) ++
    (bypass_of (true ∷ true ∷ false ∷ true ∷ true ∷ true ∷ []) ++
    (bypass_of (true ∷ true ∷ false ∷ true ∷ true ∷ true ∷ true ∷ []) ++
    bypass_of (true ∷ true ∷ false ∷ true ∷ true ∷ true ∷ true ∷ []))))))))))))))
unfolding residual_bins level_at last_significant prefix_of tabulate last_bins truncated_unary_bins block_position scan_order bins_from levels_below downwards sig_coeff_bins level_bins greater1_bins remaining_bins exp_golomb_bins sub_blocks_bins
rising_parameter = refl

-- levels at a bound leave cRiceParam: 3, -3, 4, 6, 7, 12 in coding order
resting_parameter :
    residual_bins (block Diagonal 2 true)
    (pos 12 ∷ pos 6 ∷ pos 3 ∷ pos 0 ∷ pos 7 ∷ negsuc 2 ∷ pos 0 ∷ pos 0 ∷ pos 4 ∷
    replicate 7 (pos 0)) ≡
    each LastX (0 ∷ 1 ∷ []) true ++ (each LastX (2 ∷ []) false ++ (each LastY (0 ∷ []) false ++
    (each Sig (3 ∷ 6 ∷ 1 ∷ 2 ∷ 0 ∷ []) true ++
    (each Greater1 (1 ∷ 0 ∷ 0 ∷ 0 ∷ 0 ∷ 0 ∷ []) true ++ (each Greater2 (0 ∷ []) true ++
    (bypass_of (false ∷ true ∷ false ∷ false ∷ false ∷ false ∷ []) ++
    (bypass_of (false ∷ []) ++ (bypass_of (true ∷ false ∷ []) ++
    (bypass_of (true ∷ true ∷ false ∷ []) ++ (bypass_of (true ∷ true ∷ false ∷ false ∷ []) ++
    (bypass_of (true ∷ true ∷ false ∷ true ∷ []) ++
    bypass_of (true ∷ true ∷ false ∷ true ∷ false ∷ []))))))))))))
unfolding residual_bins level_at last_significant prefix_of tabulate last_bins truncated_unary_bins block_position scan_order bins_from levels_below downwards sig_coeff_bins level_bins greater1_bins remaining_bins exp_golomb_bins sub_blocks_bins
resting_parameter = refl

-- 8x8: 3 at (4, 4), -1 at (0, 4), 1 at (0, 0). The sub-block at the right of the first is empty; in
-- that below, the significance of its only level is inferred, and its greater1 set is one higher.
sub_blocks_of_8 :
    residual_bins (block Diagonal 3 true)
    (pos 1 ∷ (replicate 31 (pos 0) ++ (negsuc 0 ∷ pos 0 ∷ pos 0 ∷ pos 0 ∷ pos 3 ∷
    replicate 27 (pos 0)))) ≡
    each LastX (3 ∷ 3 ∷ 4 ∷ 4 ∷ []) true ++ (each LastX (5 ∷ []) false ++
    (each LastY (3 ∷ 3 ∷ 4 ∷ 4 ∷ []) true ++ (each LastY (5 ∷ []) false ++
    (bypass_of (false ∷ false ∷ []) ++
    (each Greater1 (9 ∷ []) true ++ (each Greater2 (2 ∷ []) true ++
    (bypass_of (false ∷ false ∷ []) ++
    (each CodedSub (1 ∷ []) false ++ (each CodedSub (1 ∷ []) true ++
    (each Sig (12 ∷ 12 ∷ 12 ∷ 13 ∷ 12 ∷ 12 ∷ 14 ∷ 13 ∷ 12 ∷ 12 ∷ 14 ∷ 13 ∷ 12 ∷ 14 ∷ 13 ∷ [])
    false ++
    (each Greater1 (13 ∷ []) false ++ (bypass_of (true ∷ []) ++
    (each Sig (9 ∷ 9 ∷ 9 ∷ 9 ∷ 9 ∷ 10 ∷ 9 ∷ 9 ∷ 10 ∷ 11 ∷ 9 ∷ 10 ∷ 11 ∷ 10 ∷ 11 ∷ []) false ++
    (each Sig (0 ∷ []) true ++ (each Greater1 (1 ∷ []) false ++
    bypass_of (false ∷ []))))))))))))))))
unfolding residual_bins level_at last_significant prefix_of tabulate last_bins truncated_unary_bins block_position scan_order bins_from levels_below downwards sig_coeff_bins level_bins greater1_bins remaining_bins exp_golomb_bins sub_blocks_bins positions
sub_blocks_of_8 = refl

-- 8x8 chroma: -2 at (5, 2), 1 at (0, 0)
chroma_of_8 :
    residual_bins (block Diagonal 3 false)
    (pos 1 ∷ (replicate 20 (pos 0) ++ (negsuc 1 ∷ replicate 42 (pos 0)))) ≡
    each LastX (15 ∷ 15 ∷ 16 ∷ 16 ∷ []) true ++ (each LastX (17 ∷ []) false ++
    (each LastY (15 ∷ 15 ∷ []) true ++ (each LastY (16 ∷ []) false ++
    (bypass_of (true ∷ []) ++
    (each Sig (36 ∷ 37 ∷ 37 ∷ 37 ∷ 37 ∷ 37 ∷ 38 ∷ []) false ++
    (each Greater1 (17 ∷ []) true ++ (each Greater2 (4 ∷ []) false ++ (bypass_of (true ∷ []) ++
    (each CodedSub (2 ∷ []) false ++
    (each Sig (36 ∷ 36 ∷ 36 ∷ 37 ∷ 36 ∷ 36 ∷ 38 ∷ 37 ∷ 36 ∷ 36 ∷ 38 ∷ 37 ∷ 36 ∷ 38 ∷ 37 ∷ [])
    false ++
    (each Sig (27 ∷ []) true ++ (each Greater1 (21 ∷ []) false ++
    bypass_of (false ∷ [])))))))))))))
unfolding residual_bins level_at last_significant prefix_of tabulate last_bins truncated_unary_bins block_position scan_order bins_from levels_below downwards sig_coeff_bins level_bins greater1_bins remaining_bins exp_golomb_bins sub_blocks_bins positions
chroma_of_8 = refl

-- 8x8 with 1 at (0, 1): the coordinates change places in the vertical scan
vertical_of_8 :
    residual_bins (block Vertical 3 true) (replicate 8 (pos 0) ++ (pos 1 ∷ replicate 55 (pos 0))) ≡
    each LastX (3 ∷ []) true ++ (each LastX (3 ∷ []) false ++ (each LastY (3 ∷ []) false ++
    (each Sig (0 ∷ []) false ++ (each Greater1 (1 ∷ []) false ++ bypass_of (false ∷ [])))))
unfolding residual_bins level_at last_significant prefix_of tabulate last_bins truncated_unary_bins block_position scan_order bins_from levels_below downwards sig_coeff_bins level_bins greater1_bins remaining_bins exp_golomb_bins sub_blocks_bins
vertical_of_8 = refl

horizontal_of_8 :
    residual_bins (block Horizontal 3 true)
    (replicate 8 (pos 0) ++ (pos 1 ∷ replicate 55 (pos 0))) ≡
    each LastX (3 ∷ []) false ++ (each LastY (3 ∷ []) true ++ (each LastY (3 ∷ []) false ++
    (each Sig (15 ∷ 16 ∷ 16 ∷ 0 ∷ []) false ++ (each Greater1 (1 ∷ []) false ++
    bypass_of (false ∷ [])))))
unfolding residual_bins level_at last_significant prefix_of tabulate last_bins truncated_unary_bins block_position scan_order bins_from levels_below downwards sig_coeff_bins level_bins greater1_bins remaining_bins exp_golomb_bins sub_blocks_bins
horizontal_of_8 = refl
