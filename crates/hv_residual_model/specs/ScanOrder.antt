-- Scans of the positions of a square block (6.5.3 to 6.5.5).
use Rattle.std.specs.Prelude.{ℕ, suc, ◌+◌, ◌-◌, ◌*◌, ◌/◌, ◌%◌, ◌^◌, Bool, cond, nat_eq, nat_lt, nat_le, ◌&&◌, ◌||◌, List, [], ◌∷◌, filter, flat_map, slice_index_or}
use Rattle.hv_lemmas.specs.Lists.{tabulate}
use Rattle.hv_plan.specs.declared.prediction.Pred.{Pred}
use Rattle.hv_plan.specs.declared.prediction.Pred.TheVariants.{Intra, Inter}
use Rattle.hv_plan.specs.declared.prediction.Scan.{Scan}
use Rattle.hv_plan.specs.declared.prediction.Scan.TheVariants.{Diagonal, Horizontal, Vertical}

-- a column and a row
pub record Position : Type 0 where
  pub x : ℕ
  pub y : ℕ

abbrev pub at : ℕ → ℕ → Position
at x y = record { x = x; y = y }

abbrev pub same_position : Position → Position → Bool
same_position a b = nat_eq a.x b.x && nat_eq a.y b.y

-- ---- the orders, of a block of this side

abbrev pub is_inside : ℕ → Position → Bool
is_inside side p = nat_lt p.x side && nat_lt p.y side

-- up-right diagonal (6.5.3): one anti-diagonal after another, each from its lower left end on
abbrev pub anti_diagonal : ℕ → ℕ → List Position
anti_diagonal side d = filter (is_inside side) (tabulate (d + 1) (λ x. at x (d - x)))

abbrev pub up_right_diagonal : ℕ → List Position
up_right_diagonal side = flat_map (anti_diagonal side) (tabulate (2 * side - 1) (λ d. d))

-- horizontal (6.5.4): by rows
abbrev pub horizontal : ℕ → List Position
horizontal side = tabulate (side * side) (λ i. at (i % side) (i / side))

-- vertical (6.5.5): by columns
abbrev pub vertical : ℕ → List Position
vertical side = tabulate (side * side) (λ i. at (i / side) (i % side))

abbrev pub order_of : Scan → ℕ → List Position
order_of Diagonal side = up_right_diagonal side
order_of Horizontal side = horizontal side
order_of Vertical side = vertical side

-- ScanOrder, of a block of side 2^log2
unfoldable pub scan_order : Scan → ℕ → List Position
scan_order scan log2 = order_of scan (2 ^ log2)

-- ---- which of them a block has (7.4.9.11)

abbrev pub is_between : ℕ → ℕ → ℕ → Bool
is_between low high n = nat_le low n && nat_le n high

-- by predModeIntra
abbrev pub scan_of_mode : ℕ → Scan
scan_of_mode mode =
    cond (is_between 6 14 mode) Vertical (cond (is_between 22 30 mode) Horizontal Diagonal)

-- scanIdx. In 4:2:0 the mode of chroma is that of luma here, and blocks of 8x8 depend on it in luma
-- alone.
abbrev pub scanIdx_of : Pred → ℕ → Bool → Scan
scanIdx_of (Intra mode) log2TrafoSize is_luma =
    cond (nat_eq log2TrafoSize 2 || (nat_eq log2TrafoSize 3 && is_luma)) (scan_of_mode mode)
    Diagonal
scanIdx_of (Inter reference mv flag mvd) log2TrafoSize is_luma = Diagonal

-- ---- positions and their numbers

-- the position of this number
abbrev pub position_at : Scan → ℕ → ℕ → Position
position_at scan log2 i = slice_index_or (scan_order scan log2) i (at 0 0)

-- the number of a position in a list of them
abbrev pub number_in : List Position → Position → ℕ
number_in [] p = 0
number_in (q ∷ positions) p = cond (same_position q p) 0 (suc (number_in positions p))

abbrev pub number_of : Scan → ℕ → Position → ℕ
number_of scan log2 p = number_in (scan_order scan log2) p

-- ---- a transform block of side 2^log2: sub-blocks of side 4 by their scan, and the positions of
-- each by the same scan (7.3.8.11)

-- the position of this number in the whole block
unfoldable pub block_position : Scan → ℕ → ℕ → Position
block_position scan log2 n =
    let S = position_at scan (log2 - 2) (n / 16) in
    let P = position_at scan 2 (n % 16) in
    at (4 * S.x + P.x) (4 * S.y + P.y)

-- the number of a position of the whole block
unfoldable pub block_number : Scan → ℕ → Position → ℕ
block_number scan log2 p =
    16 * number_of scan (log2 - 2) (at (p.x / 4) (p.y / 4)) +
    number_of scan 2 (at (p.x % 4) (p.y % 4))
