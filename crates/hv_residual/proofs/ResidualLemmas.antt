-- The parts of a block's bins, from its last level that isn't 0 on (7.3.8.11).
use Rattle.std.proofs.Common.{◌≡◌, ℕ, ◌+◌, ◌*◌, ◌<◌, true, List, ◌++◌, ℤ, refl}
use Rattle.hv_residual_model.specs.ResidualContexts.{TransformBlock}
use Rattle.hv_residual_model.specs.ResidualSyntax.{nothing_earlier}
use Rattle.hv_residual_model.specs.ResidualBins.{last_significant, last_bins, last_sub_block_bins, levels_below, sub_blocks_bins, behind_levels, bins_from, residual_bins}
use Rattle.hv_residual.proofs.GatheringLemmas.{quotient, remainder}

pub residual_parts : (b : TransformBlock) (levels : List ℤ) (s i : ℕ) → i < 16 →
    last_significant b levels ≡ 16 * s + i →
    last_bins b (16 * s + i) ++
    (last_sub_block_bins b s (levels_below b levels s (i + 1)) ++
    sub_blocks_bins b levels s
    (behind_levels b s nothing_earlier true (levels_below b levels s (i + 1)))) ≡
    residual_bins b levels
unfolding residual_bins bins_from
residual_parts b levels s i h e = rw (e, quotient s i h, remainder s i h) refl
