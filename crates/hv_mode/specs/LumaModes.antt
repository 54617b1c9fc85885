-- The luma mode of an intra unit, from the samples of its first block by rows and the neighbours of
-- that block, as code has them.
use Rattle.std.specs.Prelude.{◌≡◌, ℕ, ◌+◌, ◌*◌, true, cond, nat_lt, List, [], ◌∷◌, length, slice_index_or}
use Rattle.hv_sample_model.specs.IntraPrediction.{predicted, substituted}
use Rattle.hv_tree_model.specs.Trees.{log2TrafoSize}
use Rattle.hv_tree_model.specs.MostProbableModes.{planar, candidates}
use Rattle.hv_unit_model.specs.Bins.{luma_mode_bins}
use Rattle.hv_recon_model.specs.Reconstruction.{neighbours}
use Rattle.hv_filter_model.specs.Costs.{first_least}
use Rattle.hv_mode_model.specs.ModeDecision.{Given, Before, block_samples, first_block, further_modes, mode_bin_weight, luma_mode}
use Rattle.hv_kernel.specs.Differences.{sad_of}

-- the score of a mode
abbrev pub mode_score : ℕ → ℕ → List ℕ → List ℕ → List ℕ → ℕ → ℕ
mode_score log2 qp candModeList samples line mode =
    sad_of samples (predicted log2 mode true line) +
    length (luma_mode_bins candModeList mode) * mode_bin_weight qp

-- the first of least score
abbrev pub mode_of_block : ℕ → ℕ → ℕ → List ℕ → List ℕ → List ℕ → ℕ
mode_of_block log2 qp effort candModeList samples line =
    first_least (mode_score log2 qp candModeList samples line) planar (further_modes effort)

-- ---- the modes behind planar, by their numbers from 0

abbrev pub further_count : ℕ → ℕ
further_count effort = cond (nat_lt effort 2) 3 34

abbrev pub further_mode : ℕ → ℕ → ℕ
further_mode effort i = cond (nat_lt effort 2) (slice_index_or (1 ∷ 10 ∷ 26 ∷ []) i 0) (i + 1)

-- ---- law

-- the mode that is chosen for a unit is that of its first block
abbrev pub LumaModesAreThoseOfBlocks : Type 0
LumaModesAreThoseOfBlocks =
    (g : Given) (size address : ℕ) (before : Before) →
    luma_mode g size address before ≡
    mode_of_block (log2TrafoSize size) g.qp g.effort
    (candidates g.surroundings address before.earlier)
    (block_samples g.input.luma (first_block g size address))
    (substituted (neighbours before.decoded.luma (first_block g size address)))
