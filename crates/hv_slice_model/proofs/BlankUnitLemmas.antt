-- Units in which nothing is chosen may be coded in blocks.
use Rattle.std.proofs.Common.{◌≡◌, ℕ, zero, suc, ◌+◌, ◌*◌, Bool, true, false, cond, [], ◌∷◌, refl, arith}
use Rattle.hv_tables.specs.declared.bins.SliceKind.{SliceKind}
use Rattle.hv_tree_model.specs.Trees.{Tree, Leaf, Split, Outside, Intra, no_units, greatest_size}
use Rattle.hv_tree_model.specs.Sites.{Site, squares, is_outside, crosses}
use Rattle.hv_tree_model.specs.MostProbableModes.{dc}
use Rattle.hv_tree_model.specs.Validity.{AreOffsets, IsValidNode}
use Rattle.hv_unit_model.proofs.TransformLemmas.{no_units_valid}
use Rattle.hv_slice_model.specs.BlankUnits.{no_offsets, blank_node, blank_tree}
use Rattle.hv_slice_model.specs.SliceLaws.{BlankUnitsAreValid}

offsets_valid : AreOffsets no_offsets
offsets_valid = record {
  luma = record { kind = tt; offsets = refl };
  cb = record { kind = tt; offsets = refl };
  cr = record { kind = tt; offsets = refl };
  chroma = refl;
}

module _ (slice_type : SliceKind) (references : ℕ) (site : Site) where
  Valid : ℕ → ℕ → Tree → Type 0
  Valid size address tree = IsValidNode slice_type references site size address tree

  smallest_valid : (address : ℕ) (outside : Bool) → is_outside site address ≡ outside →
      Valid zero address (cond outside Outside (Leaf (Intra dc) (no_units zero)))
  unfolding Valid IsValidNode
  smallest_valid address true e = e
  smallest_valid address false e = (e, refl, omega arith, no_units_valid zero)

  greater_valid : (size address : ℕ) (outside crossing : Bool) (a b c d : Tree) →
      is_outside site address ≡ outside → crosses site (suc size) address ≡ crossing →
      Valid size address a → Valid size (address + squares size) b →
      Valid size (address + 2 * squares size) c → Valid size (address + 3 * squares size) d →
      Valid (suc size) address
      (cond outside Outside
      (cond crossing (Split a b c d) (Leaf (Intra dc) (no_units (suc size)))))
  unfolding Valid IsValidNode
  greater_valid size address true crossing a b c d e f va vb vc vd = e
  greater_valid size address false true a b c d e f va vb vc vd = (e, va, vb, vc, vd)
  greater_valid size address false false a b c d e f va vb vc vd =
      (e, f, omega arith, no_units_valid (suc size))

  node_valid : (size address : ℕ) → Valid size address (blank_node site size address)
  unfolding blank_node
  node_valid zero address = smallest_valid address (is_outside site address) refl
  node_valid (suc size) address =
      let n : ℕ = squares size in
      greater_valid size address (is_outside site address) (crosses site (suc size) address)
      (blank_node site size address) (blank_node site size (address + n))
      (blank_node site size (address + 2 * n)) (blank_node site size (address + 3 * n))
      refl refl
      (node_valid size address) (node_valid size (address + n))
      (node_valid size (address + 2 * n)) (node_valid size (address + 3 * n))

  tree_valid : IsValidNode slice_type references site greatest_size 0 (blank_tree site)
  unfolding Valid
  tree_valid = node_valid greatest_size 0

pub blank_units_valid : BlankUnitsAreValid
blank_units_valid slice_type references [] = tt
blank_units_valid slice_type references (site ∷ sites) = (
  offsets_valid,
  tree_valid slice_type references site,
  refl,
  blank_units_valid slice_type references sites,
)
