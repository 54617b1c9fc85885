-- The decoded picture of coding tree units, before the in-loop filters (8.4 to 8.6) and behind them
-- (8.7).
use Rattle.std.specs.Prelude.{ℕ, ◌+◌, ◌*◌, ◌/◌, ◌%◌, List, [], map, slice_index_or, Option, option_map, pos, ◌-ℤ◌}
use Rattle.hv_types.specs.declared.picture.Picture.{Picture}
use Rattle.hv_plan.specs.declared.prediction.Mv.{Mv}
use Rattle.hv_stream_model.specs.Headers.{SliceHeader}
use Rattle.hv_tree_model.specs.Trees.{Intra, Inter, Tree, Outside, CodingTreeUnit, greatest_size}
use Rattle.hv_tree_model.specs.Sites.{sites, blocks_over, address_of}
use Rattle.hv_tree_model.specs.EarlierUnits.{Square, Unavailable, Coded, squares_of}
use Rattle.hv_vector_model.specs.VectorPrediction.{Distances, no_vector}
use Rattle.hv_vector_model.specs.Vectors.{trees_with_vectors}
use Rattle.hv_recon_model.specs.Reconstruction.{unfiltered}
use Rattle.hv_deblock_model.specs.TreeSquares.{Vectors, squares_of_trees}
use Rattle.hv_deblock_model.specs.InLoopFilters.{filtered_picture as filtered_with}
use Rattle.hv_slice_model.specs.Slices.{count_of}

-- a decoded picture and its picture order count (8.3.1)
pub record DecodedPicture : Type 0 where
  pub PicOrderCntVal : ℕ
  pub picture : Picture

-- ---- the vectors of a picture with this slice header and this list 0

-- DiffPicOrderCnt of the picture and each entry of list 0 (8.3.1)
abbrev pub distances_of : SliceHeader → List DecodedPicture → Distances
distances_of header references =
    map (λ reference. pos (count_of header) -ℤ pos reference.PicOrderCntVal) references

-- the trees of its blocks, whose inter units have their vectors (8.5.3.2.1)
abbrev pub moved_trees :
    ℕ → ℕ → SliceHeader → List DecodedPicture → List CodingTreeUnit → List Tree
moved_trees width height header references units =
    trees_with_vectors (distances_of header references) (sites width height) []
    (map (λ unit. unit.tree) units)

-- no square has a vector
abbrev pub no_vectors : Vectors
no_vectors column row = no_vector

abbrev pub vector_of : Square → Mv
vector_of Unavailable = no_vector
vector_of (Coded depth (Intra mode)) = no_vector
vector_of (Coded depth (Inter motion)) = motion.MvdL0

-- those of the squares of trees that have them, in a picture so wide
abbrev pub vectors_of : ℕ → List Tree → Vectors
vectors_of width trees column row =
    let tree = slice_index_or trees (row / 8 * blocks_over width + column / 8) Outside in
    vector_of
    (slice_index_or (squares_of greatest_size tree) (address_of (column % 8) (row % 8)) Unavailable)

-- ---- its samples

-- Before the in-loop filters, of these sides; none where a unit names a picture that list 0 doesn't
-- have.
abbrev pub unfiltered_picture :
    ℕ → ℕ → SliceHeader → List DecodedPicture → List CodingTreeUnit → Option Picture
unfiltered_picture width height header references units =
    unfiltered width height header.qp (map (λ reference. reference.picture) references)
    (sites width height) (moved_trees width height header references units)

-- behind them, in a picture so wide, by its trees with vectors
abbrev pub filtered_picture :
    ℕ → SliceHeader → List Tree → List CodingTreeUnit → Picture → Picture
filtered_picture width header trees units picture =
    filtered_with header.qp (squares_of_trees width (vectors_of width trees) trees)
    (map (λ unit. unit.sao) units) picture

-- the picture of these sides that coding tree units stand for, as a decoder makes it
abbrev pub reconstructed :
    ℕ → ℕ → SliceHeader → List DecodedPicture → List CodingTreeUnit → Option Picture
reconstructed width height header references units =
    option_map
    (filtered_picture width header (moved_trees width height header references units) units)
    (unfiltered_picture width height header references units)
