-- Coding tree units whose trees and offsets are chosen within the picture may be coded, and decode
-- (8.4, 8.6, 8.7) to the picture that the encoder shows.
use Rattle.std.proofs.Common.{◌≡◌, ℕ, ◌*◌, List, [], ◌∷◌, length, map, refl, ap, ap₂, ◌∙◌, sym, arith}
use Rattle.std.specs.Prelude.{Some, option_map}
use Rattle.hv_lemmas.proofs.ListLemmas.{length-tabulate}
use Rattle.hv_tables.specs.declared.bins.SliceKind.{SliceKind}
use Rattle.hv_tables.specs.declared.bins.SliceKind.TheVariants.{I}
use Rattle.hv_types.specs.declared.settings.Settings.{Settings}
use Rattle.hv_types.specs.declared.picture.Picture.{Picture}
use Rattle.hv_types.specs.Configuration.{padded_width, padded_height}
use Rattle.hv_plan.specs.declared.offsets.SaoParam.{SaoParam}
use Rattle.hv_stream_model.specs.Headers.{SliceHeader, used_count}
use Rattle.hv_tree_model.specs.Trees.{Tree, CodingTreeUnit}
use Rattle.hv_tree_model.specs.Sites.{Site, blocks_over, sites}
use Rattle.hv_tree_model.specs.Validity.{AreOffsets, AreValid}
use Rattle.hv_vector_model.specs.Vectors.{trees_with_vectors}
use Rattle.hv_recon_model.specs.Reconstruction.{nothing_decoded, picture_of, unfiltered as unfiltered_of}
use Rattle.hv_recon_model.specs.ReconstructionLaws.{AreTrees}
use Rattle.hv_filter_model.specs.OffsetDecision.{block_offsets}
use Rattle.hv_filter_model.proofs.CostLemmas.{Each}
use Rattle.hv_deblock_model.specs.EdgeStrength.{Squares}
use Rattle.hv_deblock_model.specs.TreeSquares.{squares_of_trees}
use Rattle.hv_deblock_model.specs.InLoopFilters.{filtered_picture as filtered_with}
use Rattle.hv_mode_model.specs.ModeDecision.{Task}
use Rattle.hv_mode_model.proofs.ValidChoiceLemmas.{valid_trees, valid_intra_trees}
use Rattle.hv_mode_model.proofs.ChosenDecodedLemmas.{decoded_all}
use Rattle.hv_slice_model.specs.Slices.{picture_sites}
use Rattle.hv_model.specs.Reconstruction.{distances_of, moved_trees, no_vectors, vectors_of, filtered_picture}
use Rattle.hv_model.specs.IntraPictures.{picture_task, chosen_trees, unfiltered, working_picture, picture_sao, tree_units, coded_units}
use Rattle.hv_model.specs.IntraLaws.{IntraUnitsMayBeCoded, IntraPicturesAreDecoded}
use Rattle.hv_model.proofs.IntraTreeLemmas.{any_vectors, trees_stay, with_references, trees_ask}
use Rattle.hv_model.proofs.ChosenOffsetLemmas.{picture_valid}
use Rattle.hv_tree_model.proofs.NodeLemmas.{length-sites_from}

-- ---- units of trees and offsets, one of each for each block

module _ (slice_type : SliceKind) (references : ℕ) where
  pub units_valid : (places : List Site) (trees : List Tree) (offsets : List SaoParam) →
      AreTrees slice_type references places trees → length offsets ≡ length places →
      Each AreOffsets offsets →
      AreValid slice_type references places (tree_units places trees offsets)
  units_valid [] trees offsets are long each = tt
  units_valid (site ∷ places) [] offsets are long each = absurd are
  units_valid (site ∷ places) (tree ∷ trees) [] are long each = absurd (omega (arith, long))
  units_valid (site ∷ places) (tree ∷ trees) (sao ∷ offsets) are long each = (
    each.0,
    are.0,
    refl,
    units_valid places trees offsets are.1 (omega (arith, long)) each.1,
  )

  pub trees_kept : (places : List Site) (trees : List Tree) (offsets : List SaoParam) →
      AreTrees slice_type references places trees → length offsets ≡ length places →
      map (λ unit. unit.tree) (tree_units places trees offsets) ≡ trees
  trees_kept [] [] offsets are long = refl
  trees_kept [] (tree ∷ trees) offsets are long = absurd are
  trees_kept (site ∷ places) [] offsets are long = absurd are
  trees_kept (site ∷ places) (tree ∷ trees) [] are long = absurd (omega (arith, long))
  trees_kept (site ∷ places) (tree ∷ trees) (sao ∷ offsets) are long =
      ap (λ rest. tree ∷ rest) (trees_kept places trees offsets are.1 (omega (arith, long)))

  pub offsets_kept : (places : List Site) (trees : List Tree) (offsets : List SaoParam) →
      AreTrees slice_type references places trees → length offsets ≡ length places →
      map (λ unit. unit.sao) (tree_units places trees offsets) ≡ offsets
  offsets_kept [] trees [] are long = refl
  offsets_kept [] trees (sao ∷ offsets) are long = absurd (omega (arith, long))
  offsets_kept (site ∷ places) [] offsets are long = absurd are
  offsets_kept (site ∷ places) (tree ∷ trees) [] are long = absurd (omega (arith, long))
  offsets_kept (site ∷ places) (tree ∷ trees) (sao ∷ offsets) are long =
      ap (λ rest. sao ∷ rest) (offsets_kept places trees offsets are.1 (omega (arith, long)))

-- ---- a picture

pub length-sites : (width height : ℕ) →
    length (sites width height) ≡ blocks_over width * blocks_over height
unfolding sites
length-sites width height =
    length-sites_from (blocks_over width * blocks_over height) width height 0

module _ (cfg : Settings) (header : SliceHeader) (input : Picture) where
  task : Task
  task = picture_task cfg header input

  -- an offset for each block
  as_many : length (picture_sao cfg header input) ≡ length (picture_sites cfg)
  as_many =
      length-tabulate (blocks_over (padded_width cfg) * blocks_over (padded_height cfg))
      (block_offsets cfg.effort header.qp (working_picture cfg header input) input) ∙
      sym (length-sites (padded_width cfg) (padded_height cfg))

  are_trees : AreTrees header.slice_type (used_count header.references) (picture_sites cfg)
      (chosen_trees cfg header input)
  are_trees =
      valid_trees (picture_task cfg header input) (picture_sites cfg) [] (nothing_decoded [])

  -- no unit is predicted from another picture
  pub are_intra : AreTrees I 0 (picture_sites cfg) (chosen_trees cfg header input)
  are_intra =
      valid_intra_trees I 0 (picture_task cfg header input) (picture_sites cfg) []
      (nothing_decoded []) refl

  same_trees : map (λ unit. unit.tree) (coded_units cfg header input) ≡
      chosen_trees cfg header input
  same_trees =
      trees_kept header.slice_type (used_count header.references) (picture_sites cfg)
      (chosen_trees cfg header input) (picture_sao cfg header input) are_trees as_many

  same_offsets : map (λ unit. unit.sao) (coded_units cfg header input) ≡
      picture_sao cfg header input
  same_offsets =
      offsets_kept header.slice_type (used_count header.references) (picture_sites cfg)
      (chosen_trees cfg header input) (picture_sao cfg header input) are_trees as_many

  -- before the in-loop filters, whatever the reference pictures are
  trees_decoded : (references : List Picture) →
      unfiltered_of (padded_width cfg) (padded_height cfg) header.qp references
      (picture_sites cfg) (chosen_trees cfg header input) ≡
      Some (unfiltered cfg header input)
  unfolding unfiltered_of
  trees_decoded references =
      ap (option_map (picture_of (padded_width cfg) (padded_height cfg)))
      (trees_ask header.qp 0 (picture_sites cfg) (chosen_trees cfg header input) are_intra
      references (nothing_decoded []) ∙
      ap (option_map (with_references references))
      (decoded_all (picture_task cfg header input) (picture_sites cfg) [] (nothing_decoded [])))

pub intra_units_valid : IntraUnitsMayBeCoded
intra_units_valid cfg header input =
    units_valid header.slice_type (used_count header.references) (picture_sites cfg)
    (chosen_trees cfg header input) (picture_sao cfg header input)
    (are_trees cfg header input) (as_many cfg header input)
    (picture_valid cfg.effort header.qp (working_picture cfg header input) input)

pub intra_decoded : IntraPicturesAreDecoded
intra_decoded cfg header references input =
    let w : ℕ = padded_width cfg in
    let h : ℕ = padded_height cfg in
    let qp : ℕ = header.qp in
    let units : List CodingTreeUnit = coded_units cfg header input in
    let trees : List Tree = chosen_trees cfg header input in
    let before : Picture = unfiltered cfg header input in
    let moved : List Tree = moved_trees w h header references units in
    let pictures : List Picture = map (λ reference. reference.picture) references in
    let same : moved ≡ trees =
    ap (trees_with_vectors (distances_of header references) (picture_sites cfg) [])
    (same_trees cfg header input) ∙
    trees_stay 0 (picture_sites cfg) trees (are_intra cfg header input)
    (distances_of header references) [] in
    ap (option_map (filtered_picture w header moved units))
    (ap (unfiltered_of w h qp pictures (picture_sites cfg)) same ∙
    trees_decoded cfg header input pictures) ∙
    ap₂ (λ (list : List Tree) (offsets : List SaoParam).
    Some (filtered_with qp (squares_of_trees w (vectors_of w list) list) offsets before))
    same (same_offsets cfg header input) ∙
    ap (λ (squares : Squares).
    Some (filtered_with qp squares (picture_sao cfg header input) before))
    (any_vectors 0 (picture_sites cfg) trees w (vectors_of w trees) no_vectors
    (are_intra cfg header input))
