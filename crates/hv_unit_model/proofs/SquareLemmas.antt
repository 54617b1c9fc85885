-- What is seen of units that may be coded has modes of intra prediction (8.4.2).
use Rattle.std.proofs.Common.{◌≡◌, length, length-append, ℕ, zero, suc, ◌+◌, ◌*◌, ◌<◌, Bool, true, false, cond, List, [], ◌∷◌, ◌++◌, replicate, arith}
use Rattle.std.specs.Prelude.{slice_index_or}
use Rattle.std.proofs.lemmas.List.{length-replicate}
use Rattle.hv_tables.specs.declared.bins.SliceKind.{SliceKind}
use Rattle.hv_tree_model.specs.Trees.{Prediction, Intra, Inter, Tree, Leaf, Split, Outside, depth_of}
use Rattle.hv_tree_model.specs.Sites.{Site, squares}
use Rattle.hv_tree_model.specs.EarlierUnits.{Square, Unavailable, Coded, squares_of, look_picture}
use Rattle.hv_tree_model.specs.MostProbableModes.{dc, candIntraPredMode}
use Rattle.hv_tree_model.specs.Validity.{IsPrediction, IsValidNode, HasMode, HaveModes, SeesModes, intra_modes}
use Rattle.hv_unit_model.specs.UnitLaws.{NodesHaveTheirSquares}

pub modes_then : (xs ys : List Square) → HaveModes xs → HaveModes ys → HaveModes (xs ++ ys)
modes_then [] ys h k = k
modes_then (x ∷ xs) ys h k = (h.0, modes_then xs ys h.1 k)

modes_of_same : (n : ℕ) (square : Square) → HasMode square → HaveModes (replicate n square)
modes_of_same zero square h = tt
modes_of_same (suc n) square h = (h, modes_of_same n square h)

mode_of_prediction : (kind : SliceKind) (references depth : ℕ) (prediction : Prediction) →
    IsPrediction kind references prediction → HasMode (Coded depth prediction)
mode_of_prediction kind references depth (Intra mode) valid = valid
mode_of_prediction kind references depth (Inter motion) valid = tt

-- the squares of a valid node
pub modes_of_node : (kind : SliceKind) (references : ℕ) (site : Site) (size address : ℕ)
    (tree : Tree) → IsValidNode kind references site size address tree →
    HaveModes (squares_of size tree)
unfolding IsValidNode
modes_of_node kind references site zero address Outside valid =
    modes_of_same (squares zero) Unavailable tt
modes_of_node kind references site (suc size) address Outside valid =
    modes_of_same (squares (suc size)) Unavailable tt
modes_of_node kind references site zero address (Leaf prediction units) valid =
    modes_of_same (squares zero) (Coded (depth_of zero) prediction)
    (mode_of_prediction kind references (depth_of zero) prediction valid.2)
modes_of_node kind references site (suc size) address (Leaf prediction units) valid =
    modes_of_same (squares (suc size)) (Coded (depth_of (suc size)) prediction)
    (mode_of_prediction kind references (depth_of (suc size)) prediction valid.2)
modes_of_node kind references site zero address (Split a b c d) valid = absurd valid
modes_of_node kind references site (suc size) address (Split a b c d) valid =
    let n : ℕ = squares size in
    modes_then (squares_of size a) _
    (modes_of_node kind references site size address a valid.1)
    (modes_then (squares_of size b) _
    (modes_of_node kind references site size (address + n) b valid.2)
    (modes_then (squares_of size c) _
    (modes_of_node kind references site size (address + 2 * n) c valid.3)
    (modes_of_node kind references site size (address + 3 * n) d valid.4)))

-- ---- how many they are

pub length-squares : NodesHaveTheirSquares
unfolding IsValidNode
length-squares kind references site zero address Outside valid =
    length-replicate (squares zero) Unavailable
length-squares kind references site (suc size) address Outside valid =
    length-replicate (squares (suc size)) Unavailable
length-squares kind references site zero address (Leaf prediction units) valid =
    length-replicate (squares zero) (Coded (depth_of zero) prediction)
length-squares kind references site (suc size) address (Leaf prediction units) valid =
    length-replicate (squares (suc size)) (Coded (depth_of (suc size)) prediction)
length-squares kind references site zero address (Split a b c d) valid = absurd valid
length-squares kind references site (suc size) address (Split a b c d) valid =
    let n : ℕ = squares size in
    let first : length (squares_of size a) ≡ n =
    length-squares kind references site size address a valid.1 in
    let second : length (squares_of size b) ≡ n =
    length-squares kind references site size (address + n) b valid.2 in
    let third : length (squares_of size c) ≡ n =
    length-squares kind references site size (address + 2 * n) c valid.3 in
    let fourth : length (squares_of size d) ≡ n =
    length-squares kind references site size (address + 3 * n) d valid.4 in
    rw (
      length-append (squares_of size a) (squares_of size b ++
          (squares_of size c ++ squares_of size d)),
      length-append (squares_of size b) (squares_of size c ++ squares_of size d),
      length-append (squares_of size c) (squares_of size d),
    ) (omega (arith, first, second, third, fourth))

-- ---- what is seen in a picture

mode_at : (list : List Square) (i : ℕ) → HaveModes list →
    HasMode (slice_index_or list i Unavailable)
mode_at [] i h = tt
mode_at (square ∷ list) zero h = h.0
mode_at (square ∷ list) (suc i) h = mode_at list i h.1

mode_where : (inside : Bool) (square : Square) → HasMode square →
    HasMode (cond inside square Unavailable)
mode_where true square h = h
mode_where false square h = tt

pub picture_sees : (site : Site) (done : List Square) → HaveModes done →
    SeesModes (look_picture site done)
unfolding look_picture
picture_sees site done h earlier k column row =
    mode_where _ _ (mode_at (done ++ earlier) _ (modes_then done earlier h k))

-- ---- the neighbours' modes

pub candidate_is_mode : (square : Square) → HasMode square →
    candIntraPredMode square < intra_modes
candidate_is_mode Unavailable h = omega arith
candidate_is_mode (Coded depth (Intra mode)) h = h
candidate_is_mode (Coded depth (Inter motion)) h = omega arith

pub mode_above_is_mode : (edge : Bool) (square : Square) → HasMode square →
    cond edge dc (candIntraPredMode square) < intra_modes
mode_above_is_mode true square h = omega arith
mode_above_is_mode false square h = candidate_is_mode square h
