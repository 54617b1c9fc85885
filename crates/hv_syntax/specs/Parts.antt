-- Parts of the bins of coding tree units, as they are put.
use Rattle.std.specs.Prelude.{ℕ, Bool, true, false, cond, List, [], ◌∷◌, ◌++◌, ℤ}
use Rattle.std.specs.Int.{is_negative}
use Rattle.hv_tables.specs.declared.bins.CtxTable.TheVariants.{PartMode, ChromaMode, RootCbf, CbfChroma}
use Rattle.hv_residual_model.specs.UnitBins.{InBypass, UnitBin, unit_bin}
use Rattle.hv_plan.specs.Levels.{is_significant, any_significant}
use Rattle.hv_tree_model.specs.Trees.{Motion, Prediction, Intra, Inter, TransformUnit, any_level}
use Rattle.hv_unit_model.specs.Bins.{bin, where_coded, luma_mode_bins, prediction_unit_bins, transform_unit_bins, transform_tree_bins, intra_part_bins}

-- sao_offset_sign of one offset
abbrev pub offset_sign_bins : ℤ → List UnitBin
offset_sign_bins offset =
    cond (is_significant offset) (unit_bin InBypass (is_negative offset) ∷ []) []

-- one block of 32x32 at depth 1, under these cbf_cb and cbf_cr
unfoldable pub quarter_bins : Prediction → Bool → Bool → TransformUnit → List UnitBin
quarter_bins prediction parent_cb parent_cr t =
    where_coded parent_cb (bin CbfChroma 1 (any_significant t.cb)) ++
    (where_coded parent_cr (bin CbfChroma 1 (any_significant t.cr)) ++
    transform_unit_bins prediction 5 1 t)

-- transform_tree behind rqt_root_cbf
abbrev pub rooted_bins : Prediction → ℕ → List TransformUnit → List UnitBin
rooted_bins prediction size units =
    cond (any_level units) (transform_tree_bins prediction size units) []

-- an intra unit by its most probable modes
unfoldable pub intra_bins : ℕ → List ℕ → ℕ → List TransformUnit → List UnitBin
intra_bins size candModeList mode units =
    intra_part_bins size ++
    (luma_mode_bins candModeList mode ++
    (bin ChromaMode 0 false ∷ transform_tree_bins (Intra mode) size units))

unfoldable pub inter_bins : ℕ → ℕ → Motion → List TransformUnit → List UnitBin
inter_bins references size motion units =
    bin PartMode 0 true ∷
    (prediction_unit_bins references motion ++
    (bin RootCbf 0 (any_level units) ∷ rooted_bins (Inter motion) size units))
