-- The bins of a picture in which nothing is chosen are those of its slice data (7.3.8).
use Rattle.std.proofs.Common.{◌≡◌, ℕ, zero, suc, ◌+◌, ◌-◌, ◌*◌, ◌/◌, ◌%◌, ◌^◌, ◌<◌, ◌≤◌, Bool, true, false, cond, List, [], ◌∷◌, ◌++◌, length, map, replicate, refl, sym, ap₂, ◌∙◌, subst, arith, append_assoc, length-append, inl, inr, pow_pos, append-nil}
use Rattle.std.specs.Prelude.{nat_eq, nat_lt, nat_le, ◌||◌, ◌⊎◌}
use Rattle.std.proofs.lemmas.List.{map-append}
use Rattle.std.proofs.lemmas.Bool.{cases_lt, or_parts, ltb-false}
use Rattle.std.proofs.lemmas.Bool.Decides.{nat_tests}
use Rattle.hv_tables.specs.declared.bins.SliceKind.{SliceKind}
use Rattle.hv_tables.specs.declared.bins.SliceKind.TheVariants.{I, P}
use Rattle.hv_tables.specs.declared.bins.CtxTable.TheVariants.{Split as SplitFlag, PartMode, ChromaMode}
use Rattle.hv_tables.specs.Bins.{Bin, terminate_bin}
use Rattle.hv_plan.specs.declared.offsets.SaoKind.TheVariants.{Off}
use Rattle.hv_residual_model.specs.UnitBins.{UnitBin, slice_bin}
use Rattle.hv_residual_model.specs.Binarization.{truncated_unary_bins}
use Rattle.hv_tree_model.specs.Trees.{Tree, Leaf, Split, Outside, Intra, depth_of, greatest_size, side, no_levels, no_units}
use Rattle.hv_tree_model.specs.Sites.{Site, site, sites, sites_from, blocks_over, has_left, has_above, x0, y0, column_of, row_of, squares, is_outside, crosses}
use Rattle.hv_tree_model.specs.EarlierUnits.{Square, Unavailable, Coded, squares_of, after, in_picture, split_ctxInc}
use Rattle.hv_tree_model.specs.MostProbableModes.{dc, candidates}
use Rattle.hv_tree_model.specs.Validity.{IsValidNode}
use Rattle.hv_unit_model.specs.Bins.{bin, merge_bins, sao_type_bins, sao_bins, luma_mode_bins, transform_unit_bins, quarters_bins, transform_tree_bins, pred_mode_bins, predicted_bins, bins_of_node, slice_bins, slice_bins_from}
use Rattle.hv_unit_model.proofs.TransformLemmas.{no_units_valid}
use Rattle.hv_unit_model.proofs.SquareLemmas.{length-squares}
use Rattle.hv_tree_model.proofs.NodeLemmas.{IsNode, around, square_in_node, around_own, child_of, squares_above_0, below_4_times}
use Rattle.hv_unit_model.proofs.BlankLemmas.{IsBlank, AllBlank, LiesInside, none_blank, blank_nowhere, blank_then, blank_alike, ParentsCross, leaf_square, left_is_flat, above_is_flat, dc_candidates}
use Rattle.hv_slice_model.specs.BlankUnits.{no_offsets, blank_node, blank_tree, blank_units}
use Rattle.hv_packet.specs.BlankBins as put
use Rattle.hv_packet.proofs.SliceBinLemmas.{last_of_count}

-- ---- what is left of a picture, and where a node begins

le_left : (a x : ℕ) → nat_le a x ≡ nat_eq (a - x) 0
le_left a x = grind (arith, nat_tests)

lt_left : (a x s : ℕ) → 1 ≤ s → nat_lt a (x + s) ≡ nat_lt (a - x) s
lt_left a x s h = grind (arith, nat_tests, h)

-- ---- the bins of a blank unit

abbrev flat : ℕ → Tree
flat size = Leaf (Intra dc) (no_units size)

abbrev flat_bins : SliceKind → ℕ → List Bin
flat_bins kind size = put.split_bins size ++ put.unit_bins kind size

flat_bins_by : (kind : SliceKind) (size ctxInc : ℕ) (list : List ℕ) (crossing : Bool) →
    suc size ≤ 3 → crossing ≡ false → ctxInc ≡ 0 → list ≡ 0 ∷ 1 ∷ 26 ∷ [] →
    map slice_bin
    (cond crossing [] (bin SplitFlag ctxInc false ∷ []) ++
    (pred_mode_bins kind (Intra dc) ++
    (luma_mode_bins list dc ++
    (bin ChromaMode 0 false ∷ transform_tree_bins (Intra dc) (suc size) (no_units (suc size)))))) ≡
    flat_bins kind (suc size)
unfolding luma_mode_bins truncated_unary_bins transform_tree_bins quarters_bins transform_unit_bins no_units no_levels
flat_bins_by I zero ctxInc list crossing few c n l = rw (c, n, l) refl
flat_bins_by I (suc zero) ctxInc list crossing few c n l = rw (c, n, l) refl
flat_bins_by I (suc (suc zero)) ctxInc list crossing few c n l = rw (c, n, l) refl
flat_bins_by I (suc (suc (suc size))) ctxInc list crossing few c n l = absurd (omega (arith, few))
flat_bins_by P zero ctxInc list crossing few c n l = rw (c, n, l) refl
flat_bins_by P (suc zero) ctxInc list crossing few c n l = rw (c, n, l) refl
flat_bins_by P (suc (suc zero)) ctxInc list crossing few c n l = rw (c, n, l) refl
flat_bins_by P (suc (suc (suc size))) ctxInc list crossing few c n l = absurd (omega (arith, few))

smallest_bins_by : (kind : SliceKind) (list : List ℕ) → list ≡ 0 ∷ 1 ∷ 26 ∷ [] →
    map slice_bin
    (pred_mode_bins kind (Intra dc) ++
    (bin PartMode 0 true ∷
    (luma_mode_bins list dc ++
    (bin ChromaMode 0 false ∷ transform_tree_bins (Intra dc) zero (no_units zero))))) ≡
    flat_bins kind zero
unfolding luma_mode_bins truncated_unary_bins transform_tree_bins transform_unit_bins no_units no_levels
smallest_bins_by I list l = rw l refl
smallest_bins_by P list l = rw l refl

module _ (kind : SliceKind) (references width height index : ℕ) (done : List Square) where
  here : Site
  here = site width height index

  across : ℕ → ℕ
  across address = width - x0 (site width height index) address

  down : ℕ → ℕ
  down address = height - y0 (site width height index) address

  -- a node with the bins that it has
  record IsCoded (size address : ℕ) (earlier : List Square) (tree : Tree) (list : List Bin) :
      Type 0 where
    valid : IsValidNode kind references (site width height index) size address tree
    same : map slice_bin
        (bins_of_node (in_picture kind references (site width height index) done) size address earlier tree) ≡
        list
    blank : AllBlank width height (done ++ after size earlier tree)

  -- behind these squares of the block
  record IsBehind (address : ℕ) (earlier : List Square) : Type 0 where
    blank : AllBlank width height (done ++ earlier)
    number : length (done ++ earlier) ≡ 64 * index + address

  outside_same : (address : ℕ) →
      is_outside (site width height index) address ≡ put.is_outside (across address) (down address)
  unfolding is_outside across down
  outside_same address =
      ap₂ (λ a b. a || b) (le_left width (x0 (site width height index) address))
      (le_left height (y0 (site width height index) address))

  crosses_same : (size address : ℕ) →
      crosses (site width height index) size address ≡
      put.crosses size (across address) (down address)
  unfolding crosses across down
  crosses_same size address =
      let some : 1 ≤ side size = let h = pow_pos size in omega (arith, h) in
      ap₂ (λ a b. a || b) (lt_left width (x0 (site width height index) address) (side size) some)
      (lt_left height (y0 (site width height index) address) (side size) some)

  -- more squares of the block
  more_blank : (earlier : List Square) (n : ℕ) (square : Square) →
      AllBlank width height (done ++ earlier) →
      ((j : ℕ) → j < n → IsBlank width height (length (done ++ earlier) + j) square) →
      AllBlank width height (done ++ (earlier ++ replicate n square))
  more_blank earlier n square blank h =
      subst (λ list. AllBlank width height list) (append_assoc done earlier (replicate n square))
      (blank_then width height (done ++ earlier) (replicate n square) blank
      (blank_alike width height n (length (done ++ earlier)) square h))

  -- ---- outside

  outside_node : (size address : ℕ) (earlier : List Square) → IsBehind address earlier →
      is_outside (site width height index) address ≡ true → IsCoded size address earlier Outside []
  unfolding IsValidNode bins_of_node
  outside_node zero address earlier behind outside = record {
    valid = outside;
    same = refl;
    blank = more_blank earlier (squares zero) Unavailable behind.blank
        (λ j below. blank_nowhere width height _);
  }
  outside_node (suc size) address earlier behind outside = record {
    valid = outside;
    same = refl;
    blank = more_blank earlier (squares (suc size)) Unavailable behind.blank
        (λ j below. blank_nowhere width height _);
  }

  -- ---- a unit

  blank_behind_unit : (size address : ℕ) (earlier : List Square) → IsNode size address →
      ParentsCross width height index size address → IsBehind address earlier →
      AllBlank width height
      (done ++ (earlier ++ replicate (squares size) (Coded (depth_of size) (Intra dc))))
  blank_behind_unit size address earlier node parents behind =
      more_blank earlier (squares size) (Coded (depth_of size) (Intra dc)) behind.blank
      (λ j below.
      subst (λ at. IsBlank width height (at + j) (Coded (depth_of size) (Intra dc)))
      (sym behind.number) (leaf_square width height index size address j node below parents))

  inside_of : (size address : ℕ) → IsNode size address →
      crosses (site width height index) size address ≡ false →
      LiesInside width height index size address
  unfolding crosses
  inside_of size address node fits =
      let p = or_parts (nat_lt width (x0 (site width height index) address + side size))
      (nat_lt height (y0 (site width height index) address + side size)) fits in
      record {
        node = node;
        column = ltb-false _ _ p.0;
        row = ltb-false _ _ p.1;
      }

  unit_node : (size address : ℕ) (earlier : List Square) → IsNode (suc size) address →
      ParentsCross width height index (suc size) address → IsBehind address earlier →
      is_outside (site width height index) address ≡ false →
      crosses (site width height index) (suc size) address ≡ false →
      IsCoded (suc size) address earlier (flat (suc size)) (flat_bins kind (suc size))
  unfolding IsValidNode bins_of_node predicted_bins
  unit_node size address earlier node parents behind inside fits =
      let lies = inside_of (suc size) address node fits in
      let left = left_is_flat width height done earlier index (suc size) address behind.blank lies in
      let above = above_is_flat width height done earlier index (suc size) address behind.blank lies in
      let few = node.few in
      record {
        valid = (inside, fits, omega arith, no_units_valid (suc size));
        same = flat_bins_by kind size
            (split_ctxInc (in_picture kind references (site width height index) done) (suc size) address earlier)
            (candidates (in_picture kind references (site width height index) done) address earlier)
            (crosses (site width height index) (suc size) address) few fits
            (ap₂ (λ a b. a + b) left above)
            (dc_candidates width height done earlier index address behind.blank);
        blank = blank_behind_unit (suc size) address earlier node parents behind;
      }

  smallest_node : (address : ℕ) (earlier : List Square) → IsNode zero address →
      ParentsCross width height index zero address → IsBehind address earlier →
      is_outside (site width height index) address ≡ false →
      IsCoded zero address earlier (flat zero) (flat_bins kind zero)
  unfolding IsValidNode bins_of_node predicted_bins
  smallest_node address earlier node parents behind inside = record {
    valid = (inside, refl, omega arith, no_units_valid zero);
    same = smallest_bins_by kind
        (candidates (in_picture kind references (site width height index) done) address earlier)
        (dc_candidates width height done earlier index address behind.blank);
    blank = blank_behind_unit zero address earlier node parents behind;
  }

  -- ---- four nodes

  record IsPart (size address c w h : ℕ) : Type 0 where
    node : IsNode size c
    parents : ParentsCross width height index size c
    column : across c ≡ w
    row : down c ≡ h

  part_of : (size address k c w h : ℕ) → IsNode (suc size) address →
      ParentsCross width height index (suc size) address →
      crosses (site width height index) (suc size) address ≡ true → k < 4 →
      address + k * squares size ≡ c → across address - k % 2 * 2 ^ size * 8 ≡ w →
      down address - k / 2 * 2 ^ size * 8 ≡ h →
      IsPart size address c w h
  unfolding across down ParentsCross
  part_of size address k c w h node parents crossing few place to_right below =
      let child = child_of size address k node few in
      let column = child.column in
      let row = child.row in
      let inner : k * squares size < squares (suc size) =
      below_4_times k (squares size) (squares_above_0 size) few in
      subst (λ at. IsPart size address at w h) place
      (record {
        node = child.node;
        parents = λ greater above most. by_size greater most inner (cases_lt (suc size) greater) above;
        column = omega (arith, column, to_right);
        row = omega (arith, row, below);
      }) where
        by_size : (greater : ℕ) → greater ≤ 3 → k * squares size < squares (suc size) →
            (suc size < greater) ⊎ (greater ≤ suc size) → size < greater →
            crosses (site width height index) greater (around greater (address + k * squares size)) ≡
            true
        by_size greater most inner (inl above) over =
            let e = (square_in_node (suc size) greater address (k * squares size) node
            (omega (arith, above)) most inner).1 in
            rw e (parents greater above most)
        by_size greater most inner (inr within) over =
            let is_parent : suc size ≡ greater = omega (arith, within, over) in
            let few_size = node.few in
            let e = (square_in_node (suc size) (suc size) address (k * squares size) node
            (omega arith) few_size inner).1 in
            subst
            (λ g. crosses (site width height index) g (around g (address + k * squares size)) ≡ true)
            is_parent (rw (e, around_own (suc size) address node) crossing)

  abbrev blank_at : ℕ → ℕ → Tree
  blank_at size address = blank_node (site width height index) size address

  -- what is to be shown of all nodes of a size
  Blanks : ℕ → Type 0
  Blanks size =
      (address : ℕ) (earlier : List Square) → IsNode size address →
      ParentsCross width height index size address → IsBehind address earlier →
      IsCoded size address earlier (blank_at size address)
      (put.node_bins kind size (across address) (down address))

  part_node : (size address c w h : ℕ) (earlier : List Square) → Blanks size →
      IsPart size address c w h → IsBehind c earlier →
      IsCoded size c earlier (blank_at size c) (put.node_bins kind size w h)
  unfolding Blanks
  part_node size address c w h earlier smaller part behind =
      subst (λ v. IsCoded size c earlier (blank_at size c) (put.node_bins kind size v h)) part.column
      (subst (λ v. IsCoded size c earlier (blank_at size c) (put.node_bins kind size (across c) v))
      part.row (smaller c earlier part.node part.parents behind))

  behind_next : (size c next : ℕ) (earlier : List Square) (tree : Tree) (list : List Bin) →
      IsBehind c earlier → IsCoded size c earlier tree list → c + squares size ≡ next →
      IsBehind next (after size earlier tree)
  behind_next size c next earlier tree list behind node place =
      let these : List Square = squares_of size tree in
      let many : length these ≡ squares size =
      length-squares kind references (site width height index) size c tree node.valid in
      let before : length done + length earlier ≡ 64 * index + c =
      sym (length-append done earlier) ∙ behind.number in
      record {
        blank = node.blank;
        number = rw (length-append done (earlier ++ these), length-append earlier these)
            (omega (arith, many, before, place));
      }

  split_same : (crossing : Bool) (flag : List UnitBin) (a b c d : List UnitBin)
      (p q r t : List Bin) → crossing ≡ true → map slice_bin a ≡ p → map slice_bin b ≡ q →
      map slice_bin c ≡ r → map slice_bin d ≡ t →
      map slice_bin (cond crossing [] flag ++ (a ++ (b ++ (c ++ d)))) ≡ p ++ (q ++ (r ++ t))
  split_same crossing flag a b c d p q r t e f g h k =
      rw (
        e,
        map-append slice_bin a (b ++ (c ++ d)),
        map-append slice_bin b (c ++ d),
        map-append slice_bin c d,
        f,
        g,
        h,
        k,
      ) refl

  four_together : (e a b c d : List Square) →
      (((e ++ a) ++ b) ++ c) ++ d ≡ e ++ (a ++ (b ++ (c ++ d)))
  four_together e a b c d =
      append_assoc ((e ++ a) ++ b) c d ∙ append_assoc (e ++ a) b (c ++ d) ∙
      append_assoc e a (b ++ (c ++ d))

  split_node : (size address : ℕ) (earlier : List Square) → Blanks size →
      IsNode (suc size) address → ParentsCross width height index (suc size) address →
      IsBehind address earlier → is_outside (site width height index) address ≡ false →
      crosses (site width height index) (suc size) address ≡ true →
      IsCoded (suc size) address earlier
      (Split
      (blank_at size address)
      (blank_at size (address + squares size))
      (blank_at size (address + 2 * squares size))
      (blank_at size (address + 3 * squares size)))
      (put.node_bins kind size (across address) (down address) ++
      (put.node_bins kind size (across address - side size) (down address) ++
      (put.node_bins kind size (across address) (down address - side size) ++
      put.node_bins kind size (across address - side size) (down address - side size))))
  unfolding IsValidNode bins_of_node
  split_node size address earlier smaller node parents behind inside crossing =
      let n : ℕ = squares size in
      let w : ℕ = across address in
      let h : ℕ = down address in
      let p0 = part_of size address 0 address w h node parents crossing
      (omega arith) (omega arith) (omega arith) (omega arith) in
      let p1 = part_of size address 1 (address + n) (w - side size) h node parents crossing
      (omega arith) (omega arith) (omega arith) (omega arith) in
      let p2 = part_of size address 2 (address + 2 * n) w (h - side size) node parents crossing
      (omega arith) (omega arith) (omega arith) (omega arith) in
      let p3 = part_of size address 3 (address + 3 * n) (w - side size) (h - side size) node parents
      crossing (omega arith) (omega arith) (omega arith) (omega arith) in
      let a = part_node size address address w h earlier smaller p0 behind in
      let behind_a = behind_next size address (address + n) earlier _ _ behind a refl in
      let earlier_a : List Square = after size earlier (blank_at size address) in
      let b = part_node size address (address + n) (w - side size) h earlier_a smaller p1 behind_a in
      let behind_b = behind_next size (address + n) (address + 2 * n) earlier_a _ _ behind_a b
      (omega arith) in
      let earlier_b : List Square = after size earlier_a (blank_at size (address + n)) in
      let c = part_node size address (address + 2 * n) w (h - side size) earlier_b smaller p2 behind_b in
      let behind_c = behind_next size (address + 2 * n) (address + 3 * n) earlier_b _ _ behind_b c
      (omega arith) in
      let earlier_c : List Square = after size earlier_b (blank_at size (address + 2 * n)) in
      let d = part_node size address (address + 3 * n) (w - side size) (h - side size) earlier_c smaller
      p3 behind_c in
      record {
        valid = (inside, a.valid, b.valid, c.valid, d.valid);
        same = split_same (crosses (site width height index) (suc size) address) _ _ _ _ _ _ _ _ _
            crossing a.same b.same c.same d.same;
        blank = subst (λ list. AllBlank width height (done ++ list))
            (four_together earlier
            (squares_of size (blank_at size address))
            (squares_of size (blank_at size (address + n)))
            (squares_of size (blank_at size (address + 2 * n)))
            (squares_of size (blank_at size (address + 3 * n))))
            d.blank;
      }

  -- ---- every node

  smallest_by : (outside : Bool) (address : ℕ) (earlier : List Square) → IsNode zero address →
      ParentsCross width height index zero address → IsBehind address earlier →
      is_outside (site width height index) address ≡ outside →
      IsCoded zero address earlier (cond outside Outside (flat zero))
      (cond outside [] (flat_bins kind zero))
  smallest_by true address earlier node parents behind e = outside_node zero address earlier behind e
  smallest_by false address earlier node parents behind e =
      smallest_node address earlier node parents behind e

  abbrev tree_by : Bool → Bool → ℕ → ℕ → Tree
  tree_by outside crossing size address =
      cond outside Outside
      (cond crossing
      (Split
      (blank_at size address)
      (blank_at size (address + squares size))
      (blank_at size (address + 2 * squares size))
      (blank_at size (address + 3 * squares size)))
      (flat (suc size)))

  abbrev bins_by : Bool → Bool → ℕ → ℕ → ℕ → List Bin
  bins_by outside crossing size w h =
      cond outside []
      (cond crossing
      (put.node_bins kind size w h ++
      (put.node_bins kind size (w - side size) h ++
      (put.node_bins kind size w (h - side size) ++
      put.node_bins kind size (w - side size) (h - side size))))
      (flat_bins kind (suc size)))

  node_by : (outside crossing : Bool) (size address : ℕ) (earlier : List Square) → Blanks size →
      IsNode (suc size) address → ParentsCross width height index (suc size) address →
      IsBehind address earlier → is_outside (site width height index) address ≡ outside →
      crosses (site width height index) (suc size) address ≡ crossing →
      IsCoded (suc size) address earlier (tree_by outside crossing size address)
      (bins_by outside crossing size (across address) (down address))
  node_by true crossing size address earlier smaller node parents behind e f =
      outside_node (suc size) address earlier behind e
  node_by false true size address earlier smaller node parents behind e f =
      split_node size address earlier smaller node parents behind e f
  node_by false false size address earlier smaller node parents behind e f =
      unit_node size address earlier node parents behind e f

  all_nodes : (size : ℕ) → Blanks size
  unfolding Blanks blank_node
  all_nodes zero address earlier node parents behind =
      let outside : Bool = is_outside (site width height index) address in
      subst
      (λ o. IsCoded zero address earlier (cond outside Outside (flat zero))
      (cond o [] (flat_bins kind zero)))
      (outside_same address)
      (smallest_by outside address earlier node parents behind refl)
  all_nodes (suc size) address earlier node parents behind =
      let w : ℕ = across address in
      let h : ℕ = down address in
      let outside : Bool = is_outside (site width height index) address in
      let crossing : Bool = crosses (site width height index) (suc size) address in
      subst
      (λ o. IsCoded (suc size) address earlier (tree_by outside crossing size address)
      (bins_by o (put.crosses (suc size) w h) size w h))
      (outside_same address)
      (subst
      (λ x. IsCoded (suc size) address earlier (tree_by outside crossing size address)
      (bins_by outside x size w h))
      (crosses_same (suc size) address)
      (node_by outside crossing size address earlier (λ a e. all_nodes size a e) node parents behind
      refl refl))

  -- ---- a block

  whole_block : AllBlank width height done → length done ≡ 64 * index →
      IsCoded greatest_size 0 [] (blank_tree (site width height index))
      (put.node_bins kind greatest_size (width - 64 * (index % blocks_over width))
      (height - 64 * (index / blocks_over width)))
  unfolding across down column_of row_of ParentsCross Blanks
  whole_block blank number =
      let none : done ++ [] ≡ done = append-nil done in
      let w : ℕ = width - 64 * (index % blocks_over width) in
      let h : ℕ = height - 64 * (index / blocks_over width) in
      let column : across 0 ≡ w = omega arith in
      let row : down 0 ≡ h = omega arith in
      let node : IsNode 3 0 = record { few = omega arith; inside = omega arith; even = refl } in
      let behind : IsBehind 0 [] = record {
        blank = subst (λ list. AllBlank width height list) (sym none) blank;
        number = rw none (omega (arith, number));
      } in
      subst
      (λ v. IsCoded greatest_size 0 [] (blank_tree (site width height index))
      (put.node_bins kind greatest_size v h))
      column
      (subst
      (λ v. IsCoded greatest_size 0 [] (blank_tree (site width height index))
      (put.node_bins kind greatest_size (across 0) v))
      row
      (all_nodes 3 0 [] node (λ greater above most. absurd (omega (arith, above, most))) behind))

-- ---- sample adaptive offsets

sao_by : (left above : Bool) →
    map slice_bin
    (merge_bins left ++ (merge_bins above ++ (sao_type_bins Off ++ sao_type_bins Off))) ≡
    put.sao_bins left above
unfolding truncated_unary_bins
sao_by true true = refl
sao_by true false = refl
sao_by false true = refl
sao_by false false = refl

sao_same : (width height index : ℕ) →
    map slice_bin (sao_bins (site width height index) no_offsets) ≡
    put.sao_bins (has_left (site width height index)) (has_above (site width height index))
unfolding sao_bins truncated_unary_bins
sao_same width height index =
    sao_by (has_left (site width height index)) (has_above (site width height index))

-- ---- a slice

blocks_defined : (kind : SliceKind) (references width height count index : ℕ) (done : List Square) →
    AllBlank width height done → length done ≡ 64 * index →
    slice_bins_from kind references done (sites_from count width height index)
    (blank_units (sites_from count width height index)) ≡
    put.blocks_bins kind width height count index
blocks_defined kind references width height zero index done blank number = refl
blocks_defined kind references width height (suc count) index done blank number =
    let tree : Tree = blank_tree (site width height index) in
    let these : List Square = squares_of greatest_size tree in
    let block = whole_block kind references width height index done blank number in
    let many : length these ≡ 64 =
    length-squares kind references (site width height index) greatest_size 0 tree block.valid in
    let later = blocks_defined kind references width height count (index + 1) (done ++ these) block.blank
    (rw (length-append done these) (omega (arith, many, number))) in
    let offsets : List Bin =
    put.sao_bins (has_left (site width height index)) (has_above (site width height index)) in
    let node : List Bin =
    put.node_bins kind greatest_size (width - 64 * (index % blocks_over width))
    (height - 64 * (index / blocks_over width)) in
    let ends = last_of_count count width height (index + 1) in
    ap₂ (λ first others. first ++ others)
    (rw ends (ap₂ (λ a b. a ++ (b ++ terminate_bin (nat_eq count 0) ∷ []))
    (sao_same width height index) block.same ∙
    sym (append_assoc offsets node (terminate_bin (nat_eq count 0) ∷ []))))
    later

pub picture_bins_defined : (kind : SliceKind) (references width height : ℕ) →
    slice_bins kind references (sites width height) (blank_units (sites width height)) ≡
    put.picture_bins kind width height
unfolding sites
picture_bins_defined kind references width height =
    blocks_defined kind references width height (blocks_over width * blocks_over height) 0 []
    (none_blank width height) refl
