-- What is read of the bins of coding units, coding quadtrees, coding tree units and slice data is
-- what was coded (7.3.8.1 to 7.3.8.5).
use Rattle.std.proofs.Common.{◌≡◌, ◌≢◌, ℕ, zero, suc, ◌+◌, ◌*◌, ◌<◌, ◌≤◌, Bool, true, false, cond, List, [], ◌∷◌, ◌++◌, refl, ap, arith}
use Rattle.std.specs.Prelude.{nat_eq}
use Rattle.std.proofs.lemmas.Bool.{true≢false, false≢true}
use Rattle.std.proofs.lemmas.Nat.{mul-le}
use Rattle.hv_tables.specs.declared.bins.SliceKind.{SliceKind}
use Rattle.hv_tables.specs.declared.bins.SliceKind.TheVariants.{I, P}
use Rattle.hv_tables.specs.declared.bins.CtxTable.TheVariants.{Split}
use Rattle.hv_lemmas.specs.Booleans.{same}
use Rattle.hv_stream_model.specs.Scripts.{Reads, nothing, one, Done, ask, ◌>>=◌}
use Rattle.hv_stream_model.proofs.ScriptLemmas.{reads_then, reads_map, where_true}
use Rattle.hv_residual_model.specs.UnitBins.{UnitQuestion, UnitBin, UnitScript, unit_bin, context}
use Rattle.hv_residual_model.proofs.UnitBinLemmas.{reads_in_slice}
use Rattle.hv_tree_model.specs.Trees.{Motion, Prediction, Intra, Inter, TransformUnit, Tree, Leaf, Split as SplitTree, Outside, CodingTreeUnit, greatest_size, log2TrafoSize, transform_units}
use Rattle.hv_tree_model.specs.Sites.{Site, site, sites, sites_from, blocks_over, squares, crosses, row_of}
use Rattle.hv_tree_model.specs.EarlierUnits.{Square, Surroundings, squares_of, after, in_picture, left_of, above_of, split_ctxInc}
use Rattle.hv_tree_model.specs.MostProbableModes.{dc, candIntraPredMode}
use Rattle.hv_tree_model.specs.Validity.{IsMotion, IsPrediction, AreTransformUnits, IsValidNode, HaveModes, SeesModes, AreValid, intra_modes, is_empty}
use Rattle.hv_unit_model.specs.BlockSyntax.{intra_part_mode, pred_mode_flag, intra_unit, inter_unit, coding_unit, coding_quadtree, slice_data_from}
use Rattle.hv_unit_model.specs.Bins.{intra_part_bins, pred_mode_bins, predicted_bins, coding_unit_bins, bins_of_node, slice_bins_from}
use Rattle.hv_unit_model.specs.UnitLaws.{NodesAreReadBack, CodingTreeUnitsAreRead, SliceDataIsReadBack, SitesAreThere}
use Rattle.hv_unit_model.proofs.OffsetLemmas.{reads_sao}
use Rattle.hv_unit_model.proofs.ModeLemmas.{reads_luma_mode}
use Rattle.hv_unit_model.proofs.MotionLemmas.{reads_prediction_unit}
use Rattle.hv_unit_model.proofs.TransformLemmas.{reads_transform_tree, reads_rooted_tree}
use Rattle.hv_unit_model.proofs.SquareLemmas.{modes_then, modes_of_node, picture_sees, candidate_is_mode, mode_above_is_mode}

-- ---- a coding unit

reads_part : (size : ℕ) → Reads (intra_part_mode size) (intra_part_bins size) tt
reads_part zero = one nothing
reads_part (suc size) = nothing

-- behind cu_skip_flag and pred_mode_flag
behind_intra : (a b : UnitScript Tree) (xs : List UnitBin) (tree : Tree) (kind : SliceKind)
    (mode : ℕ) → Reads a xs tree →
    Reads (pred_mode_flag kind >>= λ intra. cond intra a b)
    (pred_mode_bins kind (Intra mode) ++ xs) tree
behind_intra a b xs tree I mode r = r
behind_intra a b xs tree P mode r = one (one r)

behind_inter : (a b : UnitScript Tree) (xs : List UnitBin) (tree : Tree) (kind : SliceKind)
    (references : ℕ) (motion : Motion) → IsPrediction kind references (Inter motion) →
    (IsMotion references motion → Reads b xs tree) →
    Reads (pred_mode_flag kind >>= λ intra. cond intra a b)
    (pred_mode_bins kind (Inter motion) ++ xs) tree
behind_inter a b xs tree I references motion valid r = absurd valid
behind_inter a b xs tree P references motion valid r = one (one (r valid))

module _ (s : Surroundings) (sees : SeesModes s.look) where
  reads_intra : (size address : ℕ) (earlier : List Square) (mode : ℕ)
      (units : List TransformUnit) → HaveModes earlier → mode < intra_modes →
      AreTransformUnits (log2TrafoSize size) (transform_units size) units →
      Reads (intra_unit s size address earlier)
      (predicted_bins s size address earlier (Intra mode) units) (Leaf (Intra mode) units)
  unfolding intra_unit predicted_bins
  reads_intra size address earlier mode units known is_mode valid =
      let left : Square = left_of s address earlier in
      let above : Square = above_of s address earlier in
      let edge : Bool = nat_eq (row_of address) 0 in
      reads_then _ (reads_part size)
      (reads_then _
      (reads_luma_mode (candIntraPredMode left) (cond edge dc (candIntraPredMode above)) mode
      (candidate_is_mode left (sees earlier known _ _))
      (mode_above_is_mode edge above (sees earlier known _ _)) is_mode)
      (one (reads_map (λ list. Leaf (Intra mode) list)
      (reads_transform_tree (Intra mode) size units valid (λ off. absurd (true≢false off))))))

  reads_inter : (size address : ℕ) (earlier : List Square) (motion : Motion)
      (units : List TransformUnit) → IsMotion s.references motion →
      AreTransformUnits (log2TrafoSize size) (transform_units size) units →
      Reads (inter_unit s.references size)
      (predicted_bins s size address earlier (Inter motion) units) (Leaf (Inter motion) units)
  unfolding inter_unit predicted_bins
  reads_inter size address earlier motion units is_motion valid =
      one
      (reads_then _ (reads_prediction_unit s.references motion is_motion)
      (one (reads_map (λ list. Leaf (Inter motion) list)
      (reads_rooted_tree (Inter motion) size units valid))))

  reads_coding_unit : (size address : ℕ) (earlier : List Square) (prediction : Prediction)
      (units : List TransformUnit) → HaveModes earlier →
      IsPrediction s.slice_type s.references prediction →
      AreTransformUnits (log2TrafoSize size) (transform_units size) units →
      Reads (coding_unit s size address earlier)
      (coding_unit_bins s size address earlier prediction units) (Leaf prediction units)
  unfolding coding_unit
  reads_coding_unit size address earlier (Intra mode) units known is_prediction valid =
      behind_intra _ _ _ _ s.slice_type mode
      (reads_intra size address earlier mode units known is_prediction valid)
  reads_coding_unit size address earlier (Inter motion) units known is_prediction valid =
      behind_inter _ _ _ _ s.slice_type s.references motion is_prediction
      (λ is_motion. reads_inter size address earlier motion units is_motion valid)

  -- ---- a coding quadtree

  Node : ℕ → ℕ → List Square → Tree → Type 0
  Node size address earlier tree =
      Reads (coding_quadtree s size address earlier) (bins_of_node s size address earlier tree) tree

  -- the flag of a node that is split
  behind_split : (a b : UnitScript Tree) (xs : List UnitBin) (tree : Tree) (crossing : Bool)
      (question : UnitQuestion) → Reads a xs tree →
      Reads
      (cond crossing (Done true) (ask question) >>= λ split. cond split a b)
      (cond crossing [] (unit_bin question true ∷ []) ++ xs) tree
  behind_split a b xs tree true question r = r
  behind_split a b xs tree false question r = one r

  reads_node : (size address : ℕ) (earlier : List Square) (tree : Tree) → HaveModes earlier →
      IsValidNode s.slice_type s.references s.site size address tree →
      Reads (coding_quadtree s size address earlier) (bins_of_node s size address earlier tree) tree
  unfolding IsValidNode coding_quadtree bins_of_node
  reads_node zero address earlier Outside known valid = rw valid nothing
  reads_node (suc size) address earlier Outside known valid = rw valid nothing
  reads_node zero address earlier (Leaf prediction units) known valid =
      rw valid.0
      (reads_coding_unit zero address earlier prediction units known valid.2 valid.3)
  reads_node (suc size) address earlier (Leaf prediction units) known valid =
      rw (valid.0, valid.1)
      (one (reads_coding_unit (suc size) address earlier prediction units known valid.2 valid.3))
  reads_node zero address earlier (SplitTree a b c d) known valid = absurd valid
  reads_node (suc size) address earlier (SplitTree a b c d) known valid =
      let n : ℕ = squares size in
      let modes : (at : ℕ) (tree : Tree) →
      IsValidNode s.slice_type s.references s.site size at tree → HaveModes (squares_of size tree) =
      λ at tree v. modes_of_node s.slice_type s.references s.site size at tree v in
      let behind_a : List Square = after size earlier a in
      let behind_b : List Square = after size behind_a b in
      let behind_c : List Square = after size behind_b c in
      let known_a : HaveModes behind_a = modes_then earlier _ known (modes address a valid.1) in
      let known_b : HaveModes behind_b = modes_then behind_a _ known_a
      (modes (address + n) b valid.2) in
      let known_c : HaveModes behind_c = modes_then behind_b _ known_b
      (modes (address + 2 * n) c valid.3) in
      rw valid.0
      (behind_split _ _ _ _ (crosses s.site (suc size) address)
      (context Split (split_ctxInc s (suc size) address earlier))
      (reads_then _ (reads_node size address earlier a known valid.1)
      (reads_then _ (reads_node size (address + n) behind_a b known_a valid.2)
      (reads_then _ (reads_node size (address + 2 * n) behind_b c known_b valid.3)
      (reads_map (λ tree. SplitTree a b c tree)
      (reads_node size (address + 3 * n) behind_c d known_c valid.4))))))

pub reads_nodes : NodesAreReadBack
reads_nodes s size address earlier tree sees known valid =
    reads_node s sees size address earlier tree known valid

-- ---- a coding tree unit

pub reads_coding_tree_unit : CodingTreeUnitsAreRead
reads_coding_tree_unit s unit sees offsets valid =
    reads_then _ (reads_in_slice (reads_sao s.site unit.sao offsets))
    (reads_then _
    (reads_in_slice (reads_node s sees greatest_size 0 [] unit.tree tt valid))
    (one nothing))

-- ---- slice data

same_flags : (a b : Bool) → a ≡ b → same a b ≡ true
same_flags a true e = rw e refl
same_flags a false e = rw e refl

reads_from : (slice_type : SliceKind) (references : ℕ) (done : List Square)
    (sites : List Site) (units : List CodingTreeUnit) → HaveModes done →
    AreValid slice_type references sites units →
    Reads (slice_data_from slice_type references done sites)
    (slice_bins_from slice_type references done sites units) units
reads_from slice_type references done [] [] known valid = nothing
reads_from slice_type references done [] (unit ∷ units) known valid = absurd valid
reads_from slice_type references done (site ∷ sites) [] known valid = absurd valid
reads_from slice_type references done (site ∷ sites) (unit ∷ units) known valid =
    reads_then _
    (reads_coding_tree_unit (in_picture slice_type references site done) unit
    (picture_sees site done known) valid.0 valid.1)
    (where_true _ (same_flags unit.end_of_slice_segment_flag (is_empty sites) valid.2)
    (reads_map (λ others. unit ∷ others)
    (reads_from slice_type references (after greatest_size done unit.tree) sites units
    (modes_then done _ known
    (modes_of_node slice_type references site greatest_size 0 unit.tree valid.1))
    valid.3)))

pub reads_slice : SliceDataIsReadBack
reads_slice slice_type references sites units valid =
    reads_from slice_type references [] sites units tt valid

-- ---- the blocks of a picture

sites_from_there : (count width height index : ℕ) → 1 ≤ count →
    sites_from count width height index ≢ []
sites_from_there zero width height index h e = omega (arith, h)
sites_from_there (suc count) width height index h e = false≢true (ap is_empty e)

pub sites_there : SitesAreThere
unfolding sites
sites_there width height w h =
    let columns : ℕ = blocks_over width in
    let rows : ℕ = blocks_over height in
    let column : 1 ≤ columns = omega arith in
    let row : 1 ≤ rows = omega arith in
    sites_from_there (columns * rows) width height 0 (mul-le 1 1 columns rows column row)
