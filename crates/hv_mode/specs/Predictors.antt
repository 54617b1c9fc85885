-- The candidate by which the vector of a unit is coded.
use Rattle.std.specs.Prelude.{ℕ, List, [], ◌∷◌, length, slice_index_or}
use Rattle.hv_plan.specs.declared.prediction.Mv.{Mv}
use Rattle.hv_unit_model.specs.Bins.{mvd_bins}
use Rattle.hv_vector_model.specs.VectorPrediction.{no_vector}
use Rattle.hv_filter_model.specs.Costs.{first_least}
use Rattle.hv_mode_model.specs.Differences.{difference}

-- that of mvp_l0_flag
abbrev pub candidate_of : List Mv → ℕ → Mv
candidate_of candidates flag = slice_index_or candidates flag no_vector

-- mvp_l0_flag: the first of fewest bins
abbrev pub predictor_of : List Mv → Mv → ℕ
predictor_of candidates mv =
    first_least (λ flag. length (mvd_bins (difference mv (candidate_of candidates flag)))) 0
    (1 ∷ [])
