-- Coding tree units in which nothing is chosen, as at effort 0: every coding unit is an intra unit
-- of mode DC with all levels 0, as large as the picture's edge allows, and no sample is offset.
use Rattle.std.specs.Prelude.{ℕ, zero, suc, ◌+◌, ◌*◌, cond, List, [], ◌∷◌, pos}
use Rattle.hv_plan.specs.declared.offsets.SaoKind.TheVariants.{Off}
use Rattle.hv_plan.specs.declared.offsets.SaoComponent.{SaoComponent}
use Rattle.hv_plan.specs.declared.offsets.SaoParam.{SaoParam}
use Rattle.hv_tree_model.specs.Trees.{Tree, Leaf, Split, Outside, Intra, CodingTreeUnit, greatest_size, no_units}
use Rattle.hv_tree_model.specs.Sites.{Site, squares, is_outside, crosses}
use Rattle.hv_tree_model.specs.MostProbableModes.{dc}
use Rattle.hv_tree_model.specs.Validity.{is_empty}

-- ---- sample adaptive offsets

abbrev pub no_offset : SaoComponent
no_offset = record { kind = Off; offsets = pos 0 ∷ pos 0 ∷ pos 0 ∷ pos 0 ∷ [] }

abbrev pub no_offsets : SaoParam
no_offsets = record { luma = no_offset; cb = no_offset; cr = no_offset }

-- ---- coding quadtrees

-- a node of this size at this address: split where it has to be, and nowhere else
unfoldable pub blank_node : Site → ℕ → ℕ → Tree
blank_node site zero address =
    cond (is_outside site address) Outside (Leaf (Intra dc) (no_units zero))
blank_node site (suc size) address =
    cond (is_outside site address) Outside
    (cond (crosses site (suc size) address)
    (Split
    (blank_node site size address)
    (blank_node site size (address + squares size))
    (blank_node site size (address + 2 * squares size))
    (blank_node site size (address + 3 * squares size)))
    (Leaf (Intra dc) (no_units (suc size))))

abbrev pub blank_tree : Site → Tree
blank_tree site = blank_node site greatest_size 0

-- ---- coding tree units

-- those of these blocks, of which the last one ends the slice
abbrev pub blank_units : List Site → List CodingTreeUnit
blank_units [] = []
blank_units (site ∷ sites) =
    record {
      sao = no_offsets;
      tree = blank_tree site;
      end_of_slice_segment_flag = is_empty sites;
    } ∷
    blank_units sites
