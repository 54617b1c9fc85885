-- Where no unit can be predicted from another picture, distances and vectors are never asked for.
use Rattle.std.specs.Prelude.{◌≡◌, List}
use Rattle.hv_tables.specs.declared.bins.SliceKind.TheVariants.{I}
use Rattle.hv_tree_model.specs.Sites.{Site}
use Rattle.hv_tree_model.specs.EarlierUnits.{Square}
use Rattle.hv_vector_model.specs.VectorPrediction.{Distances}
use Rattle.hv_recon_model.specs.Reconstruction.{Decoded}
use Rattle.hv_mode_model.specs.ModeDecision.{FoundVectors, Task, nothing_found}
use Rattle.hv_mode_model.specs.NodeLaws.{ChooseTheSame}

-- in an I slice the choice for any blocks is the same by any distances and vectors
abbrev pub ISlicesAskForNoVectors : Type 0
ISlicesAskForNoVectors =
    (task : Task) (distances : Distances) (vectors : FoundVectors) (places : List Site)
    (done : List Square) (d : Decoded) → task.slice_type ≡ I →
    ChooseTheSame task (record task { distances = distances; vectors = vectors }) places done d

-- where motion search found nothing, by any distances
abbrev pub NothingFoundAsksForNoDistances : Type 0
NothingFoundAsksForNoDistances =
    (task : Task) (distances : Distances) (places : List Site) (done : List Square) (d : Decoded) →
    task.vectors ≡ nothing_found →
    ChooseTheSame task (record task { distances = distances }) places done d
