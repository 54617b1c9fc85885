-- A picture whose coding tree blocks are those that are chosen for it, from any references: what the
-- in-loop filters (8.7) make of them, and their coding tree units, are those of the definition of a
-- video.
use Rattle.std.proofs.Common.{◌≡◌, ℕ, zero, suc, ◌+◌, ◌*◌, List, [], ◌∷◌, length, map, refl, sym, ap, ap₂, ◌∙◌, subst, arith}
use Rattle.std.specs.Prelude.{slice_get, Some, is_some}
use Rattle.std.proofs.lemmas.Bool.{false≢true}
use Rattle.std.proofs.lemmas.List.{length-map}
use Rattle.hv_lemmas.proofs.OptionLemmas.{some_same}
use Rattle.hv_types.specs.declared.picture.Picture.{Picture}
use Rattle.hv_types.specs.declared.settings.Settings.{Settings}
use Rattle.hv_types.specs.Configuration.{padded_width, padded_height, columns, rows}
use Rattle.hv_types.specs.Video.{IsPadded}
use Rattle.hv_types.specs.GroupInput.{GroupInput}
use Rattle.hv_types.proofs.ConfigurationLemmas.{padded_width-whole, padded_height-whole}
use Rattle.hv_plan.specs.declared.offsets.SaoParam.{SaoParam}
use Rattle.hv_plan.specs.declared.prediction.Unit.{Unit}
use Rattle.hv_inter_model.specs.UnitVectors.{unit_with_vector}
use Rattle.hv_block.specs.declared.block.Block.{Block}
use Rattle.hv_stream_model.specs.Units.{unit_bytes}
use Rattle.hv_stream_model.specs.Headers.{SliceHeader, used_count}
use Rattle.hv_tree_model.specs.Trees.{Tree, CodingTreeUnit}
use Rattle.hv_tree_model.specs.Sites.{Site, site, sites, sites_from, blocks_over}
use Rattle.hv_tree_model.specs.Validity.{is_empty, AreValid}
use Rattle.hv_tree_model.specs.Plans.{Plan, tree_of}
use Rattle.hv_vector_model.specs.Vectors.{plan_with_vectors}
use Rattle.hv_recon_model.specs.Reconstruction.{Decoded, picture_of}
use Rattle.hv_recon.specs.Leaves.{lists_with_vectors}
use Rattle.hv_recon.specs.DecodedBlocks.{trees_from, trees_of, moving_trees_from, moving_trees_of, AreOfBlocks}
use Rattle.hv_recon.proofs.PictureLemmas.{picture_is_of_blocks}
use Rattle.hv_filter_model.specs.SampleAdaptiveOffset.{sao_picture}
use Rattle.hv_filter_model.specs.OffsetDecision.{picture_offsets}
use Rattle.hv_deblock_model.specs.Deblocking.{deblocked_picture}
use Rattle.hv_deblock_model.specs.TreeSquares.{squares_of_trees}
use Rattle.hv_filter.specs.JoinedPicture.{joined_picture}
use Rattle.hv_filter.specs.FilteredPicture.{input_picture, picture_qp, working_picture as working_of_blocks, picture_sao as sao_of_blocks, shown_of_blocks}
use Rattle.hv_filter.proofs.FilterLemmas.{joined_has_sides}
use Rattle.hv_slice_model.specs.Slices.{picture_sites, header_in, unit_of_slice}
use Rattle.hv_slice_model.specs.PlannedUnits.{planned_units, NameTheirUnits}
use Rattle.hv_packet.specs.BlockPlans.{plan_of, plans_of, units_in}
use Rattle.hv_packet.proofs.HeaderLemmas.{quantiser_in}
use Rattle.hv_model.specs.Reconstruction.{vectors_of}
use Rattle.hv_model.specs.PlannedPictures.{planned_trees, moving_trees, ArePlans}
use Rattle.hv_model.specs.IntraPictures.{tree_units}
use Rattle.hv_model.specs.InterPictures.{PictureSource, chosen_trees, unfiltered, picture_squares, picture_sao, recon_picture, coded_units}
use Rattle.hv_model.proofs.InterUnitLemmas.{inter_units_valid}
use Rattle.hv_model.proofs.PlannedVectorLemmas.{deblocked_by_plans}
use Rattle.hv_serial.specs.CodedBlocks.{HaveUnits, moving_plans_of, AreChosen, source_unit}

-- ---- blocks and their plans

trees_planned_from : (width height : ℕ) (blocks : List Block) (count first : ℕ) →
    length blocks ≡ count →
    planned_trees (sites_from count width height first) (plans_of blocks) ≡
    trees_from width height first blocks
trees_planned_from width height [] zero first long = refl
trees_planned_from width height [] (suc count) first long = refl
trees_planned_from width height (block ∷ blocks) zero first long =
    absurd (omega (arith, long))
trees_planned_from width height (block ∷ blocks) (suc count) first long =
    ap (λ rest. tree_of (site width height first) (plan_of block) ∷ rest)
    (trees_planned_from width height blocks count (first + 1) (omega (arith, long)))

trees_planned : (width height : ℕ) (blocks : List Block) →
    length blocks ≡ blocks_over width * blocks_over height →
    planned_trees (sites width height) (plans_of blocks) ≡ trees_of width height blocks
unfolding sites
trees_planned width height blocks count =
    trees_planned_from width height blocks (blocks_over width * blocks_over height) 0 count

units_planned : (places : List Site) (plans : List Plan) (offsets : List SaoParam) →
    planned_units places plans offsets ≡ tree_units places (planned_trees places plans) offsets
units_planned [] plans offsets = refl
units_planned (here ∷ places) [] offsets = refl
units_planned (here ∷ places) (plan ∷ plans) [] = refl
units_planned (here ∷ places) (plan ∷ plans) (sao ∷ offsets) =
    let unit : CodingTreeUnit = record {
      sao = sao;
      tree = tree_of here plan;
      end_of_slice_segment_flag = is_empty places;
    } in
    ap (λ rest. unit ∷ rest) (units_planned places plans offsets)

picture_is_joined : (width height : ℕ) (blocks : List Block) (d : Decoded) →
    AreOfBlocks width height blocks d →
    joined_picture width height blocks ≡ picture_of width height d
picture_is_joined width height blocks d are = sym (picture_is_of_blocks width height blocks d are)

-- ---- with vectors

abbrev moving_plan_of : Block → Plan
moving_plan_of block = lists_with_vectors block.plan

moving_planned_from : (width height : ℕ) (blocks : List Block) (count first : ℕ) →
    length blocks ≡ count →
    planned_trees (sites_from count width height first) (map moving_plan_of blocks) ≡
    moving_trees_from width height first blocks
moving_planned_from width height [] zero first long = refl
moving_planned_from width height [] (suc count) first long = refl
moving_planned_from width height (block ∷ blocks) zero first long =
    absurd (omega (arith, long))
moving_planned_from width height (block ∷ blocks) (suc count) first long =
    ap (λ rest. tree_of (site width height first) (moving_plan_of block) ∷ rest)
    (moving_planned_from width height blocks count (first + 1) (omega (arith, long)))

moving_planned : (width height : ℕ) (blocks : List Block) →
    length blocks ≡ blocks_over width * blocks_over height →
    planned_trees (sites width height) (map moving_plan_of blocks) ≡
    moving_trees_of width height blocks
unfolding sites
moving_planned width height blocks count =
    moving_planned_from width height blocks (blocks_over width * blocks_over height) 0 count

moving_plans_same : (blocks : List Block) →
    map plan_with_vectors (plans_of blocks) ≡ map moving_plan_of blocks
moving_plans_same [] = refl
moving_plans_same (block ∷ blocks) =
    ap (λ rest. moving_plan_of block ∷ rest) (moving_plans_same blocks)

moving_have_units : (blocks : List Block) → HaveUnits (length blocks) blocks → (index : ℕ)
    (plan : Plan) → slice_get (map moving_plan_of blocks) index ≡ Some plan →
    length plan.units ≡ 64
moving_have_units [] have index plan e = absurd (false≢true (ap is_some e))
moving_have_units (block ∷ blocks) have zero plan e =
    subst (λ (p : Plan). length p.units ≡ 64) (some_same (moving_plan_of block) plan e)
    (length-map block.plan.units unit_with_vector ∙ have 0 block (omega arith) refl)
moving_have_units (block ∷ blocks) have (suc index) plan e =
    moving_have_units blocks (λ i b below there. have (suc i) b (omega (arith, below)) there) index
    plan e

-- ---- a picture of chosen blocks

module _ (group : GroupInput) (number : ℕ) (source : PictureSource) (blocks : List Block)
    (chosen : AreChosen group number source blocks) (old : Picture)
    (padded : IsPadded group.config old)
  where
    abbrev places : List Site
    places = picture_sites group.config

    abbrev wide : ℕ
    wide = padded_width group.config

    abbrev high : ℕ
    high = padded_height group.config

    are_plans : ArePlans (padded_width group.config) (padded_height group.config)
        (map moving_plan_of blocks)
    are_plans = record {
      count = length-map blocks moving_plan_of ∙ chosen.count;
      whole = moving_have_units blocks chosen.whole;
      names = chosen.best.moving_names;
    }

    planned : planned_trees (picture_sites group.config) (plans_of blocks) ≡
        trees_of (padded_width group.config) (padded_height group.config) blocks
    planned =
        trees_planned (padded_width group.config) (padded_height group.config) blocks chosen.count

    moving : moving_trees (padded_width group.config) (padded_height group.config)
        (plans_of blocks) ≡
        chosen_trees group.config source
    moving =
        ap (planned_trees (picture_sites group.config)) (moving_plans_same blocks) ∙
        moving_planned (padded_width group.config) (padded_height group.config) blocks chosen.count ∙
        chosen.best.moving

    quantiser : picture_qp group number ≡ source.header.qp
    quantiser =
        quantiser_in group.config (length group.pictures) number ∙
        ap (λ (header : SliceHeader). header.qp) (sym chosen.header)

    abbrev joined : Picture
    joined = joined_picture (padded_width group.config) (padded_height group.config) blocks

    working_is : working_of_blocks group number blocks ≡
        deblocked_picture source.header.qp (picture_squares group.config source)
        (unfiltered group.config source)
    working_is =
        let w : ℕ = padded_width group.config in
        let h : ℕ = padded_height group.config in
        let qp : ℕ = picture_qp group number in
        let joined : Picture = joined_picture w h blocks in
        deblocked_by_plans qp w h (plans_of blocks) joined
        (padded_width-whole group.config) (padded_height-whole group.config)
        (joined_has_sides w h blocks (omega (arith, padded.cb.wide, padded.cb.whole.wide))
        (omega (arith, padded.cb.high, padded.cb.whole.high)))
        (subst (ArePlans w h) (sym (moving_plans_same blocks)) are_plans) ∙
        ap (λ list. deblocked_picture qp (squares_of_trees w (vectors_of w list) list) joined)
        moving ∙
        ap₂ (λ q picture. deblocked_picture q (picture_squares group.config source) picture)
        quantiser (picture_is_joined w h blocks _ chosen.best.decoded)

    sao_is : sao_of_blocks group number blocks ≡ picture_sao group.config source
    sao_is =
        ap₂ (λ q deblocked. picture_offsets group.config.effort q deblocked
        (input_picture group number)) quantiser working_is ∙
        ap (λ input. picture_offsets group.config.effort source.header.qp
        (deblocked_picture source.header.qp (picture_squares group.config source)
        (unfiltered group.config source)) input) (sym chosen.input)

    pub shown_is : (shown : Picture) → shown ≡ shown_of_blocks group number blocks →
        shown ≡ recon_picture group.config source
    shown_is shown is = is ∙ ap₂ sao_picture working_is sao_is

    module _ (offsets : List SaoParam) (made : offsets ≡ sao_of_blocks group number blocks) where
      units_are : units_in group.config blocks offsets ≡ coded_units group.config source
      units_are =
          units_planned (picture_sites group.config) (plans_of blocks) offsets ∙
          ap₂ (tree_units (picture_sites group.config)) (planned ∙ chosen.best.trees)
          (made ∙ sao_is)

      pub may_be_coded :
          let header = header_in group.config (length group.pictures) number in
          AreValid header.slice_type (used_count header.references) (picture_sites group.config)
          (units_in group.config blocks offsets)
      may_be_coded =
          subst (λ (header : SliceHeader). AreValid header.slice_type
          (used_count header.references) (picture_sites group.config)
          (units_in group.config blocks offsets)) chosen.header
          (subst (AreValid source.header.slice_type (used_count source.header.references)
          (picture_sites group.config)) (sym units_are) (inter_units_valid group.config source))

      pub unit_is : (unit : List ℕ) →
          unit ≡ unit_bytes (unit_of_slice
          (header_in group.config (length group.pictures) number) (picture_sites group.config)
          (units_in group.config blocks offsets)) →
          unit ≡ source_unit group.config source
      unit_is unit is =
          is ∙
          ap₂ (λ header units. unit_bytes (unit_of_slice header (picture_sites group.config)
          units)) (sym chosen.header) units_are
