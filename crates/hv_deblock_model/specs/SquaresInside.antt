-- Deblocking (8.7.2) asks only how the squares inside the picture are coded, and of them no
-- difference of a vector.
use Rattle.std.specs.Prelude.{◌≡◌, ℕ, ◌*◌, ◌%◌, ◌<◌}
use Rattle.hv_types.specs.declared.picture.Picture.{Picture}
use Rattle.hv_types.specs.Video.{IsPicture}
use Rattle.hv_inter_model.specs.UnitVectors.{unit_with_vector}
use Rattle.hv_deblock_model.specs.declared.coding.SquareCoding.{SquareCoding}
use Rattle.hv_deblock_model.specs.EdgeStrength.{Squares}
use Rattle.hv_deblock_model.specs.Deblocking.{deblocked_picture}

-- they are coded alike inside a picture of these luma sides
abbrev pub SameInside : ℕ → ℕ → Squares → Squares → Type 0
SameInside width height a b =
    (column row : ℕ) → 8 * column < width → 8 * row < height → a column row ≡ b column row

-- at any quantiser
abbrev pub OnlySquaresInsideCount : Type 0
OnlySquaresInsideCount =
    (qp width height : ℕ) (a b : Squares) (picture : Picture) →
    width % 8 ≡ 0 → height % 8 ≡ 0 → IsPicture width height picture → SameInside width height a b →
    deblocked_picture qp a picture ≡ deblocked_picture qp b picture

-- where each unit's vector stands in the place of its coded difference
abbrev pub square_with_vector : SquareCoding → SquareCoding
square_with_vector square = record square { unit = unit_with_vector square.unit }

abbrev pub squares_with_vectors : Squares → Squares
squares_with_vectors squares column row = square_with_vector (squares column row)

-- at any quantiser
abbrev pub DifferencesDoNotCount : Type 0
DifferencesDoNotCount =
    (qp width height : ℕ) (squares : Squares) (picture : Picture) →
    width % 8 ≡ 0 → height % 8 ≡ 0 → IsPicture width height picture →
    deblocked_picture qp (squares_with_vectors squares) picture ≡
    deblocked_picture qp squares picture
