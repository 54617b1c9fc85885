-- Which edges are filtered, and how strongly: transform block edges, which coding units' edges are
-- too, and bS, the boundary filtering strength (8.7.2).
use Rattle.std.specs.Prelude.{ℕ, ◌-◌, ◌%◌, ◌^◌, Bool, cond, not, nat_eq, nat_lt, nat_le, ◌&&◌, ◌||◌, unsigned_abs, ◌-ℤ◌}
use Rattle.hv_plan.specs.declared.prediction.Mv.{Mv}
use Rattle.hv_plan.specs.declared.prediction.Pred.{Pred}
use Rattle.hv_plan.specs.declared.prediction.Pred.TheVariants.{Intra, Inter}
use Rattle.hv_tree_model.specs.Trees.{log2TrafoSize, greatest_size}
use Rattle.hv_deblock_model.specs.declared.coding.SquareCoding.{SquareCoding}

-- ---- where edges are

-- log2 of the side of the transform blocks of a unit of this depth, in squares of 8x8 luma samples
abbrev pub log2_transform_squares : ℕ → ℕ
log2_transform_squares depth = log2TrafoSize (greatest_size - depth) - 3

-- Whether a transform block begins at this column (or row) of squares, in a unit of this depth.
-- Edges of coding units and of predictions, which are whole units, are among these edges.
abbrev pub is_transform_edge : ℕ → ℕ → Bool
is_transform_edge place depth = nat_eq (place % 2 ^ log2_transform_squares depth) 0

-- ---- the strength between two squares

-- whether two vectors differ by a whole luma sample or more in a component
abbrev pub vectors_differ : Mv → Mv → Bool
vectors_differ a b =
    nat_le 4 (unsigned_abs (a.x -ℤ b.x)) || nat_le 4 (unsigned_abs (a.y -ℤ b.y))

-- of two units: two where one is intra, else one where references or vectors differ. The entries of
-- list 0 are different pictures.
abbrev pub motion_strength : Pred → Pred → ℕ
motion_strength (Intra mode) _ = 2
motion_strength (Inter reference mv flag mvd) (Intra mode) = 2
motion_strength (Inter reference mv flag mvd) (Inter other vector other_flag other_mvd) =
    cond (not (nat_eq reference other) || vectors_differ mv vector) 1 0

-- with the levels of the transform blocks at both sides: nothing is less than one where there are
-- some
abbrev pub with_levels : Bool → ℕ → ℕ
with_levels has_levels strength = cond (has_levels && nat_eq strength 0) 1 strength

abbrev pub strength : SquareCoding → SquareCoding → ℕ
strength p q =
    with_levels (p.has_levels || q.has_levels) (motion_strength p.unit.pred q.unit.pred)

-- ---- bS of the vertical edge at the left of a square

-- how each square of a picture is coded, by column and row, both counted in squares
abbrev pub Squares : Type 0
Squares = ℕ → ℕ → SquareCoding

abbrev pub edge_strength : Squares → ℕ → ℕ → ℕ
edge_strength squares column row =
    cond (nat_lt 0 column && is_transform_edge column (squares column row).unit.depth)
    (strength (squares (column - 1) row) (squares column row))
    0
