-- The vectors from a picture to another one of its group.
use Rattle.std.specs.Prelude.{◌≡◌, ℕ, ◌*◌, List, [], Option, Some, None}
use Rattle.std.specs.Option.{option_and_then}
use Rattle.hv_types.specs.GroupInput.{GroupInput}
use Rattle.hv_types.specs.Samples.{Plane}
use Rattle.hv_plan.specs.declared.prediction.Mv.{Mv}
use Rattle.hv_filter_model.specs.Blocks.{luma_side, blocks_over}
use Rattle.hv_search_model.specs.MotionSearch.{luma_of}
use Rattle.hv_search.specs.Vectors.{AreVectors}

-- those of all blocks, or none where the other one isn't there
abbrev pub AreVectorsTo : ℕ → Plane → Option Plane → List Mv → Type 0
AreVectorsTo effort input None vectors = vectors ≡ []
AreVectorsTo effort input (Some reference) vectors =
    AreVectors effort input reference
    (blocks_over luma_side input.width * blocks_over luma_side input.height) vectors

abbrev pub IsSearched : GroupInput → ℕ → Plane → Option ℕ → List Mv → Type 0
IsSearched group effort input reference vectors =
    AreVectorsTo effort input (option_and_then (luma_of group) reference) vectors
