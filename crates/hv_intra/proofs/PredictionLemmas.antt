-- Predicted blocks.
use Rattle.std.proofs.Common.{◌≡◌, ℕ, ◌^◌, ◌≤◌, Bool, true, false, List, length, refl}
use Rattle.std.proofs.Common.{◌∙◌, cond, leb, not, ◌&&◌}
use Rattle.std.specs.Prelude.{nat_lt}
use Rattle.hv_sample_model.specs.IntraPrediction.{filtered, smoothed, intraHorVerDistThres}
use Rattle.hv_sample_model.specs.IntraPrediction.{minDistVerHor, by_mode, predicted}
use Rattle.hv_intra.specs.Blocks.{HasRows}
use Rattle.hv_intra.proofs.RowLemmas.{block_is}
use Rattle.hv_intra.proofs.SideLemmas.{square_of_side}

-- from the neighbours that a mode predicts from
pub predicted_is : (log2 mode : ℕ) (luma : Bool) (line used block : List ℕ) → 2 ≤ log2 →
    log2 ≤ 5 → used ≡ filtered log2 mode luma line → length block ≡ 4 ^ log2 →
    HasRows (2 ^ log2) (2 ^ log2) (by_mode log2 mode luma used) block →
    block ≡ predicted log2 mode luma line
unfolding predicted
predicted_is log2 mode luma line used block least most e count rows =
    block_is log2 (by_mode log2 mode luma used) block (count ∙ square_of_side log2 least most) rows ∙
    rw e refl

-- Intra_DC predicts from the neighbours as they are
pub dc_unfiltered : (log2 : ℕ) (luma : Bool) (line : List ℕ) → line ≡ filtered log2 1 luma line
dc_unfiltered log2 false line = refl
dc_unfiltered log2 true line = go (leb 3 log2)
  where
    go : (b : Bool) → line ≡
        cond (true && b && not true && nat_lt (intraHorVerDistThres log2) (minDistVerHor 1))
        (smoothed line) line
    go true = refl
    go false = refl
