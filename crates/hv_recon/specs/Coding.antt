-- The levels that a transform block of the input is given behind its prediction, and where they
-- stand among the levels of a coding tree block.
use Rattle.std.specs.Prelude.{ℕ, ◌+◌, Bool, true, List, [], ◌∷◌, ◌++◌, length, take, drop, Option, ℤ, pos, ◌-ℤ◌}
use Rattle.hv_types.specs.Samples.{Plane, sample_at}
use Rattle.hv_sample_model.specs.Blocks.{square}
use Rattle.hv_sample_model.specs.IntraPrediction.{predicted, substituted}
use Rattle.hv_sample_model.specs.Quantisation.{levels}
use Rattle.hv_recon_model.specs.SeenSamples.{seen_line, seen_block}
use Rattle.hv_recon.specs.Views.{around_of, spot_of}
use Rattle.hv_recon.specs.declared.around.View.{View}
use Rattle.hv_recon.specs.declared.shapes.Spot.{Spot}

-- what a plane has of the block of 2^log2 columns and rows in this column and row, by rows
abbrev pub input_block : Plane → ℕ → ℕ → ℕ → List ℕ
input_block plane x y log2 = square log2 (λ i j. sample_at plane (x + i) (y + j))

-- input minus prediction, by rows
abbrev pub differences : List ℕ → List ℕ → List ℤ
differences [] predicted = []
differences (a ∷ samples) [] = []
differences (a ∷ samples) (p ∷ predicted) = (pos a -ℤ pos p) ∷ differences samples predicted

-- the levels of an intra block of these samples, by rows, behind its neighbours
abbrev pub coded_levels : ℕ → ℕ → Bool → ℕ → List ℕ → List (Option ℕ) → List ℤ
coded_levels log2 mode is_luma qp samples line =
    levels log2 qp true (differences samples (predicted log2 mode is_luma (substituted line)))

-- with the levels of a block in the places from this one on
abbrev pub with_levels : List ℤ → ℕ → List ℤ → List ℤ
with_levels all from block = take from all ++ (block ++ drop (from + length block) all)

-- ---- by what the code sees from a coding tree block

-- the neighbours of a transform block
abbrev pub line_at : View → Spot → List ℕ → List (Option ℕ)
line_at v s own = seen_line (spot_of v) (around_of v.around) own s.address s.x s.y s.log2

-- its levels, for this input
abbrev pub levels_at : View → Spot → Plane → List ℕ → List ℤ
levels_at v s input own =
    coded_levels s.log2 s.mode s.luma s.qp (input_block input (v.left + s.x) (v.top + s.y) s.log2)
    (line_at v s own)

-- its samples, from these levels
abbrev pub block_at : View → Spot → List ℤ → List ℕ → List ℕ
block_at v s block own = seen_block s.log2 s.mode s.luma s.qp block (line_at v s own)
