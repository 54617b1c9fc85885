-- Coding tree units whose trees and offsets are chosen with reference pictures may be coded, have
-- their vectors, and decode (8.4 to 8.7) to the picture that the encoder shows.
use Rattle.std.proofs.Common.{◌≡◌, ℕ, ◌*◌, List, [], length, map, ap, ap₂, ◌∙◌, sym}
use Rattle.std.specs.Prelude.{Some, option_map}
use Rattle.hv_lemmas.proofs.ListLemmas.{length-tabulate}
use Rattle.hv_types.specs.declared.settings.Settings.{Settings}
use Rattle.hv_types.specs.declared.picture.Picture.{Picture}
use Rattle.hv_types.specs.Configuration.{padded_width, padded_height}
use Rattle.hv_plan.specs.declared.offsets.SaoParam.{SaoParam}
use Rattle.hv_stream_model.specs.Headers.{used_count}
use Rattle.hv_tree_model.specs.Trees.{Tree, CodingTreeUnit}
use Rattle.hv_tree_model.specs.Sites.{blocks_over}
use Rattle.hv_vector_model.specs.Vectors.{trees_with_vectors}
use Rattle.hv_recon_model.specs.Reconstruction.{picture_of, unfiltered as unfiltered_of}
use Rattle.hv_recon_model.specs.ReconstructionLaws.{AreTrees}
use Rattle.hv_filter_model.specs.OffsetDecision.{block_offsets}
use Rattle.hv_deblock_model.specs.TreeSquares.{squares_of_trees}
use Rattle.hv_deblock_model.specs.Deblocking.{deblocked_picture}
use Rattle.hv_deblock_model.specs.InLoopFilters.{filtered_picture as filtered_with}
use Rattle.hv_mode_model.specs.ModeDecision.{Task, coded_trees}
use Rattle.hv_mode_model.proofs.ValidChoiceLemmas.{valid_coded_trees, vectors_of_trees}
use Rattle.hv_mode_model.proofs.ChosenDecodedLemmas.{decoded_all}
use Rattle.hv_slice_model.specs.Slices.{picture_sites}
use Rattle.hv_model.specs.Reconstruction.{distances_of, moved_trees, vectors_of, filtered_picture}
use Rattle.hv_model.specs.InterPictures.{PictureSource, picture_task, before_first, chosen_trees, unfiltered, picture_squares, picture_sao, coded_units}
use Rattle.hv_model.specs.InterLaws.{InterUnitsMayBeCoded, InterPicturesAreDecoded}
use Rattle.hv_model.proofs.ChosenOffsetLemmas.{picture_valid}
use Rattle.hv_model.proofs.IntraUnitLemmas.{units_valid, trees_kept, offsets_kept, length-sites}

module _ (cfg : Settings) (source : PictureSource) where
  abbrev task : Task
  task = picture_task cfg source

  abbrev coded : List Tree
  coded = coded_trees (picture_task cfg source) (picture_sites cfg) [] (before_first source)

  abbrev working : Picture
  working =
      deblocked_picture source.header.qp (picture_squares cfg source) (unfiltered cfg source)

  -- an offset for each block
  as_many : length (picture_sao cfg source) ≡ length (picture_sites cfg)
  as_many =
      length-tabulate (blocks_over (padded_width cfg) * blocks_over (padded_height cfg))
      (block_offsets cfg.effort source.header.qp working source.input) ∙
      sym (length-sites (padded_width cfg) (padded_height cfg))

  are_trees : AreTrees source.header.slice_type (used_count source.header.references)
      (picture_sites cfg) coded
  are_trees = valid_coded_trees task (picture_sites cfg) [] (before_first source)

  same_trees : map (λ unit. unit.tree) (coded_units cfg source) ≡ coded
  same_trees =
      trees_kept source.header.slice_type (used_count source.header.references)
      (picture_sites cfg) coded (picture_sao cfg source) are_trees as_many

  same_offsets : map (λ unit. unit.sao) (coded_units cfg source) ≡ picture_sao cfg source
  same_offsets =
      offsets_kept source.header.slice_type (used_count source.header.references)
      (picture_sites cfg) coded (picture_sao cfg source) are_trees as_many

  -- before the in-loop filters
  trees_decoded :
      unfiltered_of (padded_width cfg) (padded_height cfg) source.header.qp
      (map (λ reference. reference.picture) source.references) (picture_sites cfg)
      (chosen_trees cfg source) ≡
      Some (unfiltered cfg source)
  unfolding unfiltered_of
  trees_decoded =
      ap (option_map (picture_of (padded_width cfg) (padded_height cfg)))
      (decoded_all task (picture_sites cfg) [] (before_first source))

pub inter_units_valid : InterUnitsMayBeCoded
inter_units_valid cfg source =
    units_valid source.header.slice_type (used_count source.header.references)
    (picture_sites cfg) (coded cfg source) (picture_sao cfg source) (are_trees cfg source)
    (as_many cfg source)
    (picture_valid cfg.effort source.header.qp (working cfg source) source.input)

pub inter_decoded : InterPicturesAreDecoded
inter_decoded cfg source =
    let w : ℕ = padded_width cfg in
    let h : ℕ = padded_height cfg in
    let qp : ℕ = source.header.qp in
    let units : List CodingTreeUnit = coded_units cfg source in
    let trees : List Tree = chosen_trees cfg source in
    let before : Picture = unfiltered cfg source in
    let moved : List Tree = moved_trees w h source.header source.references units in
    let pictures : List Picture = map (λ reference. reference.picture) source.references in
    let same : moved ≡ trees =
    ap (trees_with_vectors (distances_of source.header source.references) (picture_sites cfg) [])
    (same_trees cfg source) ∙
    vectors_of_trees (task cfg source) (picture_sites cfg) [] (before_first source) in
    ap (option_map (filtered_picture w source.header moved units))
    (ap (unfiltered_of w h qp pictures (picture_sites cfg)) same ∙ trees_decoded cfg source) ∙
    ap₂ (λ (list : List Tree) (offsets : List SaoParam).
    Some (filtered_with qp (squares_of_trees w (vectors_of w list) list) offsets before))
    same (same_offsets cfg source)
