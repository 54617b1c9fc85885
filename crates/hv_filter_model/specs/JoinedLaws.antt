-- A plane that is put together from its blocks has their samples.
use Rattle.std.specs.Prelude.{◌≡◌, ℕ, ◌+◌, ◌*◌, ◌/◌, ◌%◌, ◌<◌, List, [], slice_index_or}
use Rattle.hv_types.specs.Samples.{sample_at}
use Rattle.hv_filter_model.specs.Blocks.{joined_plane}

-- column u of row v of a block, where the plane has that place
abbrev pub SamplesAreJoined : Type 0
SamplesAreJoined =
    (side across width height number u v : ℕ) (blocks : List (List ℕ)) →
    0 < across → u < side → v < side → side * (number % across) + u < width →
    side * (number / across) + v < height →
    sample_at (joined_plane side across width height blocks) (side * (number % across) + u)
    (side * (number / across) + v) ≡
    slice_index_or (slice_index_or blocks number []) (v * side + u) 0
