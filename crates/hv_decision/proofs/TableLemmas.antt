-- What the table of a structure says.
use Rattle.std.proofs.Common.{◌≡◌, ℕ, ◌+◌, ◌<◌, ◌≤◌, ◌∙◌, sym, ap, subst, List, [], length, map, slice_index_or, arith}
use Rattle.std.proofs.lemmas.List.{get_or-map, length-map}
use Rattle.hv_types.specs.Configuration.{most_levels}
use Rattle.hv_group_model.specs.Structure.{Coded, coded, coding, place_in, rising, picture_at, reference_set}
use Rattle.hv_decision.specs.declared.coded.CodedPicture.{CodedPicture}
use Rattle.hv_decision.specs.declared.row.Row.{Row}
use Rattle.hv_decision.specs.Coding.{coded_as}
use Rattle.hv_decision.specs.Sets.{row_as, of_picture}
use Rattle.hv_decision.specs.Structure.{Structure, IsTable}
use Rattle.hv_group_model.proofs.NumberListLemmas.{length-rising, rising_at}
use Rattle.hv_decision.proofs.EachStructureLemmas.{length-coding, place_below, picture-lt, depth-le, kept-le}
use Rattle.hv_decision.proofs.SetLemmas.{set_size-le, length-set_entries}

-- a table of the structure inside is one of the structure as it is seen
pub table_of : {a b : Structure} {order : List ℕ} {rows : List Row} → a ≡ b → IsTable a order rows →
    IsTable b order rows
table_of {order = order} {rows = rows} e table = subst (λ s. IsTable s order rows) e table

module _ {s : Structure} {order : List ℕ} {rows : List Row} (table : IsTable s order rows) where
  pub levels_few : s.levels ≤ most_levels
  levels_few = table.ranges.few

  pub length_rows : length rows ≡ s.count
  length_rows =
      sym (length-map rows row_as) ∙ ap (λ t. length t) table.by_picture
      ∙ length-map (rising s.count 0) (of_picture s.count s.levels) ∙ length-rising s.count 0

  long : length (coding s.count s.levels) ≡ s.count
  long = length-coding s.count s.levels table.ranges.some table.ranges.most table.ranges.few

  pub length_order : length order ≡ s.count
  length_order = ap (λ t. length t) table.pictures ∙ length-map (coding s.count s.levels) (λ c. c.picture) ∙ long

  pub row_of_table : (k at : ℕ) (row : Row) → k < s.count → at ≡ k → row ≡ slice_index_or rows at row →
      row_as row ≡ of_picture s.count s.levels k
  row_of_table k at row below is e =
      let many = length_rows in
      let all = length-rising s.count 0 in
      ap row_as e ∙ sym (get_or-map row_as rows at row (row_as row) (omega (arith, many)))
      ∙ ap (λ t. slice_index_or t at (row_as row)) table.by_picture
      ∙ get_or-map (of_picture s.count s.levels) (rising s.count 0) at 0 (row_as row) (omega (arith, all))
      ∙ ap (of_picture s.count s.levels) (rising_at s.count 0 at 0 (omega arith) ∙ omega arith)

  pub picture_of_table : (i at p : ℕ) → i < s.count → at ≡ i → p ≡ slice_index_or order at p →
      p ≡ picture_at s.count s.levels i
  picture_of_table i at p below is e =
      let many = long in
      e ∙ ap (λ t. slice_index_or t at p) table.pictures
      ∙ get_or-map (λ (c : Coded). c.picture) (coding s.count s.levels) at (coded 0 0 []) p (omega (arith, many))
      ∙ ap (λ n. (slice_index_or (coding s.count s.levels) n (coded 0 0 [])).picture) is

  pub picture_below : (i : ℕ) → i < s.count → picture_at s.count s.levels i < s.count
  picture_below i below = picture-lt s.count s.levels i table.ranges.some table.ranges.most table.ranges.few below

  pub depth_of_table : (k : ℕ) → k < s.count → (of_picture s.count s.levels k).coded.depth ≤ s.levels + 1
  depth_of_table k below =
      depth-le s.count s.levels (place_in (coding s.count s.levels) k) table.ranges.some table.ranges.most
      table.ranges.few (place_below s.count s.levels k table.ranges.some table.ranges.most table.ranges.few below)

  pub entries_of_table : (k : ℕ) → k < s.count → length (of_picture s.count s.levels k).entries ≤ s.levels + 1
  entries_of_table k below =
      let there = place_below s.count s.levels k table.ranges.some table.ranges.most table.ranges.few below in
      let many = long in
      let size = set_size-le (coding s.count s.levels) s.count k below (omega (arith, there, many)) in
      let few = kept-le s.count s.levels (place_in (coding s.count s.levels) k) table.ranges.some table.ranges.most
      table.ranges.few there in
      omega (arith, length-set_entries (reference_set s.count s.levels k), size, few)

-- ---- a coding order as it is made

module _ (order : List CodedPicture) (count levels : ℕ) (is : map coded_as order ≡ coding count levels)
    (some : 1 ≤ count) (most : count ≤ 64) (few : levels ≤ most_levels) where
  pub length_made : length order ≡ count
  length_made =
      sym (length-map order coded_as) ∙ ap (λ t. length t) is ∙ length-coding count levels some most few

  pub whole_made : (k : ℕ) → k < length order → place_in (map coded_as order) k < length order
  whole_made k below =
      let many = length_made in
      let there = place_below count levels k some most few (omega (arith, many)) in
      let same : place_in (map coded_as order) k ≡ place_in (coding count levels) k = ap (λ m. place_in m k) is in
      omega (arith, there, many, same)
