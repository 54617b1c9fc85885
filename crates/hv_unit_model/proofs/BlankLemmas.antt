-- Where every unit has mode DC, and is split just as the picture's edge has it, no unit at the left
-- or above a unit lies deeper (9.3.4.2.2), and the candidates of its mode are those of DC (8.4.2).
use Rattle.std.proofs.Common.{◌≡◌, ℕ, zero, suc, ◌+◌, ◌-◌, ◌*◌, ◌/◌, ◌%◌, ◌<◌, ◌≤◌, Bool, true, false, cond, List, [], ◌∷◌, ◌++◌, length, replicate, refl, sym, ◌∙◌, subst, arith, inl, inr, pow_pos}
use Rattle.std.specs.Prelude.{nat_eq, nat_lt, nat_le, ◌&&◌, ◌⊎◌, slice_index_or}
use Rattle.std.proofs.lemmas.Nat.{mod-mul-add, div-mul-add}
use Rattle.std.proofs.Math.Nat.{mod-lt}
use Rattle.std.proofs.lemmas.List.{get_or_append_left, get_or-append_right}
use Rattle.std.proofs.lemmas.Bool.{cases_lt, and_parts, leb-true, true≢false}
use Rattle.hv_tables.specs.declared.bins.SliceKind.TheVariants.{I}
use Rattle.hv_lemmas.proofs.ComparisonLemmas.{lt_not_below}
use Rattle.hv_tree_model.specs.Trees.{Intra, depth_of, side}
use Rattle.hv_tree_model.specs.Sites.{site, blocks_over, address_of, column_of, row_of, squares, crosses}
use Rattle.hv_tree_model.specs.EarlierUnits.{Square, Unavailable, Coded, in_picture, place_of, square_at, look_picture, left_of, above_of, lies_deeper}
use Rattle.hv_tree_model.specs.MostProbableModes.{dc, candIntraPredMode, candModeList, candidates}
use Rattle.hv_unit_model.proofs.GeometryLemmas.{place_of_address, address_of_place}
use Rattle.hv_tree_model.proofs.NodeLemmas.{IsNode, around, square_in_node, HasNeighbours, neighbours_of}

dc_or_dc : (edge : Bool) (mode : ℕ) → mode ≡ dc → cond edge dc mode ≡ dc
dc_or_dc true mode h = refl
dc_or_dc false mode h = h

module _ (width height : ℕ) where
  -- ---- what blank units leave behind

  -- the square of this number among all of the picture
  pub record IsBlank (i : ℕ) (square : Square) : Type 0 where
    pub is_dc : candIntraPredMode square ≡ dc
    pub shallow : (size : ℕ) → size ≤ 3 →
        crosses (site width height (i / 64)) size (around size (i % 64)) ≡ false →
        lies_deeper (depth_of size) square ≡ 0

  unfoldable pub AllBlank : List Square → Type 0
  AllBlank list = (i : ℕ) → IsBlank i (slice_index_or list i Unavailable)

  pub blank_nowhere : (i : ℕ) → IsBlank i Unavailable
  blank_nowhere i = record { is_dc = refl; shallow = λ size few fits. refl }

  pub none_blank : AllBlank []
  unfolding AllBlank
  none_blank i = blank_nowhere i

  pub blank_then : (xs ys : List Square) → AllBlank xs →
      ((j : ℕ) → IsBlank (length xs + j) (slice_index_or ys j Unavailable)) → AllBlank (xs ++ ys)
  unfolding AllBlank
  blank_then xs ys h k i = by_side (cases_lt i (length xs)) where
    by_side : (i < length xs) ⊎ (length xs ≤ i) →
        IsBlank i (slice_index_or (xs ++ ys) i Unavailable)
    by_side (inl below) = rw (get_or_append_left xs ys Unavailable i below) (h i)
    by_side (inr from) =
        let e : length xs + (i - length xs) ≡ i = omega (arith, from) in
        rw (get_or-append_right xs ys (length xs) i Unavailable refl from)
        (subst (λ n. IsBlank n (slice_index_or ys (i - length xs) Unavailable)) e
        (k (i - length xs)))

  -- so many squares that are alike, each where it stands
  pub blank_alike : (n at : ℕ) (square : Square) →
      ((j : ℕ) → j < n → IsBlank (at + j) square) →
      (j : ℕ) → IsBlank (at + j) (slice_index_or (replicate n square) j Unavailable)
  blank_alike zero at square h j = blank_nowhere (at + j)
  blank_alike (suc n) at square h zero = h 0 (omega arith)
  blank_alike (suc n) at square h (suc j) =
      let e : suc at + j ≡ at + suc j = omega arith in
      subst (λ k. IsBlank k (slice_index_or (replicate n square) j Unavailable)) e
      (blank_alike n (suc at) square
      (λ i below. subst (λ k. IsBlank k square)
      (let f : at + suc i ≡ suc at + i = omega arith in f) (h (suc i) (omega (arith, below)))) j)

  -- ---- a unit of mode DC that had to be split off: all greater nodes around it cross the edge

  unfoldable pub ParentsCross : ℕ → ℕ → ℕ → Type 0
  ParentsCross index size address =
      (greater : ℕ) → size < greater → greater ≤ 3 →
      crosses (site width height index) greater (around greater address) ≡ true

  pub leaf_square : (index size address j : ℕ) → IsNode size address → j < squares size →
      ParentsCross index size address →
      IsBlank (64 * index + address + j) (Coded (depth_of size) (Intra dc))
  unfolding ParentsCross
  leaf_square index size address j node below parents = record {
    is_dc = refl;
    shallow = λ greater few fits. by_size greater few fits (cases_lt size greater);
  } where
    by_size : (greater : ℕ) → greater ≤ 3 →
        crosses (site width height ((64 * index + address + j) / 64)) greater
        (around greater ((64 * index + address + j) % 64)) ≡ false →
        (size < greater) ⊎ (greater ≤ size) →
        lies_deeper (depth_of greater) (Coded (depth_of size) (Intra dc)) ≡ 0
    by_size greater few fits (inl above) =
        let part = square_in_node size greater address j node (omega (arith, above)) few below in
        let here : (64 * index + address + j) / 64 ≡ index = let f = part.0 in omega (arith, f) in
        let place : (64 * index + address + j) % 64 ≡ address + j =
        let f = part.0 in omega (arith, f) in
        let crossing = parents greater above few in
        let fitting = rw (here, place, part.1) at fits in
        absurd (true≢false (sym crossing ∙ fitting))
    by_size greater few fits (inr within) =
        rw (lt_not_below (depth_of greater) (depth_of size) (omega (arith, within))) refl

  -- ---- the neighbours of a node

  fits_at : (block size address column row : ℕ) →
      block ≡ row * blocks_over width + column → column < blocks_over width →
      64 * column + 8 * column_of address + side size ≤ width →
      64 * row + 8 * row_of address + side size ≤ height →
      crosses (site width height block) size address ≡ false
  unfolding crosses
  fits_at block size address column row e below across down =
      let at_column : block % blocks_over width ≡ column =
      rw e (mod-mul-add row (blocks_over width) column below) in
      let at_row : block / blocks_over width ≡ row =
      rw e (div-mul-add row (blocks_over width) column below) in
      rw (
        at_column,
        at_row,
        lt_not_below width (64 * column + 8 * column_of address + side size) across,
        lt_not_below height (64 * row + 8 * row_of address + side size) down,
      ) refl

  seen : (test : Bool) (square : Square) (depth : ℕ) →
      (test ≡ true → lies_deeper depth square ≡ 0) →
      lies_deeper depth (cond test square Unavailable) ≡ 0
  seen true square depth h = h refl
  seen false square depth h = refl

  -- of a square at this column and row, whose node of this size lies inside
  seen_at : (list : List Square) (size column row : ℕ) → AllBlank list → size ≤ 3 →
      column / 8 < blocks_over width →
      (let there = around size (address_of (column % 8) (row % 8)) in
      64 * (column / 8) + 8 * column_of there + side size ≤ width) →
      (let there = around size (address_of (column % 8) (row % 8)) in
      64 * (row / 8) + 8 * row_of there + side size ≤ height) →
      (index : ℕ) →
      lies_deeper (depth_of size)
      (slice_index_or list (place_of (site width height index) column row) Unavailable) ≡ 0
  unfolding AllBlank
  seen_at list size column row blank few below across down index =
      let b : ℕ = address_of (column % 8) (row % 8) in
      let block : ℕ = row / 8 * blocks_over width + column / 8 in
      let small : b < 64 = (address_of_place (column % 8) (row % 8) (omega arith) (omega arith)).2
      in
      let at_block : (64 * block + b) / 64 ≡ block = omega (arith, small) in
      let at_place : (64 * block + b) % 64 ≡ b = omega (arith, small) in
      (blank (64 * block + b)).shallow size few
      (rw (at_block, at_place)
      (fits_at block size (around size b) (column / 8) (row / 8) refl below across down))

  -- what is known of a square that is seen
  record LiesThere (size column row : ℕ) : Type 0 where
    block : column / 8 < blocks_over width
    across :
        64 * (column / 8) + 8 * column_of (around size (address_of (column % 8) (row % 8))) +
        side size ≤ width
    down :
        64 * (row / 8) + 8 * row_of (around size (address_of (column % 8) (row % 8))) + side size ≤
        height

  left_lies : (size address column row : ℕ) → HasNeighbours size address →
      column_of address < 8 → row_of address < 8 → column < blocks_over width →
      64 * column + 8 * column_of address + side size ≤ width →
      64 * row + 8 * row_of address + side size ≤ height →
      8 ≤ 8 * column + (7 + column_of address) →
      LiesThere size (8 * column + (7 + column_of address) - 8) (8 * row + (8 + row_of address) - 8)
  left_lies size address column row near c r below across down from =
      let x : ℕ = 8 * column + (7 + column_of address) - 8 in
      let y : ℕ = 8 * row + (8 + row_of address) - 8 in
      let at_x : x % 8 ≡ (7 + column_of address) % 8 = omega (arith, c, from) in
      let at_y : y % 8 ≡ row_of address = omega (arith, r) in
      let high : y / 8 ≡ row = omega (arith, r) in
      let near_column = near.left_column in
      let near_row = near.left_row in
      record {
        block = omega (arith, c, below, from);
        across = rw (at_x, at_y) (omega (arith, near_column, across, c, from));
        down = rw (at_x, at_y, high, near_row) down;
      }

  above_lies : (size address column row : ℕ) → HasNeighbours size address →
      column_of address < 8 → row_of address < 8 → column < blocks_over width →
      64 * column + 8 * column_of address + side size ≤ width →
      64 * row + 8 * row_of address + side size ≤ height →
      8 ≤ 8 * row + (7 + row_of address) →
      LiesThere size (8 * column + (8 + column_of address) - 8) (8 * row + (7 + row_of address) - 8)
  above_lies size address column row near c r below across down from =
      let x : ℕ = 8 * column + (8 + column_of address) - 8 in
      let y : ℕ = 8 * row + (7 + row_of address) - 8 in
      let at_x : x % 8 ≡ column_of address = omega (arith, c) in
      let at_y : y % 8 ≡ (7 + row_of address) % 8 = omega (arith, r, from) in
      let left : x / 8 ≡ column = omega (arith, c) in
      let near_column = near.above_column in
      let near_row = near.above_row in
      record {
        block = omega (arith, left, below);
        across = rw (at_x, at_y, left, near_column) across;
        down = rw (at_x, at_y) (omega (arith, near_row, down, r, from));
      }

  pub record LiesInside (index size address : ℕ) : Type 0 where
    pub node : IsNode size address
    pub column : 64 * (index % blocks_over width) + 8 * column_of address + side size ≤ width
    pub row : 64 * (index / blocks_over width) + 8 * row_of address + side size ≤ height

  side_above_0 : (size : ℕ) → 1 ≤ side size
  side_above_0 size = let h = pow_pos size in omega (arith, h)

  -- where columns and rows are counted from 8
  seen_in : (list : List Square) (index size column row : ℕ) → AllBlank list → size ≤ 3 →
      (8 ≤ column → 8 ≤ row → LiesThere size (column - 8) (row - 8)) →
      lies_deeper (depth_of size) (square_at (site width height index) list column row) ≡ 0
  seen_in list index size column row blank few lies =
      seen
      (nat_le 8 column && nat_le 8 row && nat_lt (8 * (column - 8)) width &&
      nat_lt (8 * (row - 8)) height)
      (slice_index_or list (place_of (site width height index) (column - 8) (row - 8)) Unavailable)
      (depth_of size)
      (λ inside.
      let p = and_parts (nat_le 8 column && nat_le 8 row && nat_lt (8 * (column - 8)) width)
      (nat_lt (8 * (row - 8)) height) inside in
      let q = and_parts (nat_le 8 column && nat_le 8 row) (nat_lt (8 * (column - 8)) width) p.0 in
      let r = and_parts (nat_le 8 column) (nat_le 8 row) q.0 in
      let there = lies (leb-true 8 column r.0) (leb-true 8 row r.1) in
      seen_at list size (column - 8) (row - 8) blank few there.block there.across there.down index)

  some_columns : (index size address : ℕ) → LiesInside index size address →
      index % blocks_over width < blocks_over width
  some_columns index size address lies =
      let least = side_above_0 size in
      let wide = lies.column in
      mod-lt index (omega (arith, least, wide))

  pub left_is_flat : (done earlier : List Square) (index size address : ℕ) →
      AllBlank (done ++ earlier) → LiesInside index size address →
      lies_deeper (depth_of size)
      (left_of (in_picture I 0 (site width height index) done) address earlier) ≡ 0
  unfolding look_picture
  left_is_flat done earlier index size address blank lies =
      let around_it = neighbours_of size address lies.node in
      let place = place_of_address address lies.node.inside in
      let columns = some_columns index size address lies in
      let cc : ℕ = index % blocks_over width in
      let rr : ℕ = index / blocks_over width in
      seen_in (done ++ earlier) index size (8 * cc + (7 + column_of address))
      (8 * rr + (8 + row_of address)) blank lies.node.few
      (λ right low. left_lies size address cc rr around_it (place.1) (place.2) columns lies.column
      lies.row right)

  pub above_is_flat : (done earlier : List Square) (index size address : ℕ) →
      AllBlank (done ++ earlier) → LiesInside index size address →
      lies_deeper (depth_of size)
      (above_of (in_picture I 0 (site width height index) done) address earlier) ≡ 0
  unfolding look_picture
  above_is_flat done earlier index size address blank lies =
      let around_it = neighbours_of size address lies.node in
      let place = place_of_address address lies.node.inside in
      let columns = some_columns index size address lies in
      let cc : ℕ = index % blocks_over width in
      let rr : ℕ = index / blocks_over width in
      seen_in (done ++ earlier) index size (8 * cc + (8 + column_of address))
      (8 * rr + (7 + row_of address)) blank lies.node.few
      (λ right low. above_lies size address cc rr around_it (place.1) (place.2) columns lies.column
      lies.row low)

  -- all modes are DC
  dc_at : (test : Bool) (square : Square) → candIntraPredMode square ≡ dc →
      candIntraPredMode (cond test square Unavailable) ≡ dc
  dc_at true square h = h
  dc_at false square h = refl

  dc_in : (list : List Square) (index column row : ℕ) → AllBlank list →
      candIntraPredMode (square_at (site width height index) list column row) ≡ dc
  unfolding AllBlank
  dc_in list index column row blank =
      let place : ℕ = place_of (site width height index) (column - 8) (row - 8) in
      dc_at
      (nat_le 8 column && nat_le 8 row && nat_lt (8 * (column - 8)) width &&
      nat_lt (8 * (row - 8)) height)
      (slice_index_or list place Unavailable) (blank place).is_dc

  all_dc : (done earlier : List Square) (index column row : ℕ) → AllBlank (done ++ earlier) →
      candIntraPredMode (look_picture (site width height index) done earlier column row) ≡ dc
  unfolding look_picture
  all_dc done earlier index column row blank =
      dc_in (done ++ earlier) index (8 * (index % blocks_over width) + column)
      (8 * (index / blocks_over width) + row) blank

  pub dc_candidates : (done earlier : List Square) (index address : ℕ) →
      AllBlank (done ++ earlier) →
      candidates (in_picture I 0 (site width height index) done) address earlier ≡
      0 ∷ 1 ∷ 26 ∷ []
  unfolding candModeList
  dc_candidates done earlier index address blank =
      let left : candIntraPredMode (left_of (in_picture I 0 (site width height index) done) address
      earlier) ≡ dc =
      all_dc done earlier index (7 + column_of address) (8 + row_of address) blank in
      let above : candIntraPredMode (above_of (in_picture I 0 (site width height index) done)
      address earlier) ≡ dc =
      all_dc done earlier index (8 + column_of address) (7 + row_of address) blank in
      rw (left, dc_or_dc (nat_eq (row_of address) 0) _ above) refl
