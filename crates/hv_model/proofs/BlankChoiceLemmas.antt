-- At effort 0 nothing is chosen: trees are blank, no sample is offset, and every picture is grey.
use Rattle.std.proofs.Common.{◌≡◌, ℕ, zero, suc, ◌+◌, ◌*◌, Bool, cond, List, [], ◌∷◌, ◌++◌, length, map, refl, sym, ap, ap₂, ◌∙◌, eq-eqb}
use Rattle.std.specs.Prelude.{flat_map}
use Rattle.hv_lemmas.specs.Lists.{tabulate}
use Rattle.hv_lemmas.proofs.OptionLemmas.{some_same}
use Rattle.hv_types.specs.declared.settings.Settings.{Settings}
use Rattle.hv_types.specs.declared.picture.Picture.{Picture}
use Rattle.hv_types.specs.Configuration.{IsValid, padded_width, padded_height}
use Rattle.hv_types.specs.Video.{crop}
use Rattle.hv_group_model.specs.Structure.{Coded, coding, rising}
use Rattle.hv_group_model.proofs.NumberListLemmas.{length-rising}
use Rattle.hv_stream_model.specs.Units.{unit_bytes}
use Rattle.hv_stream_model.specs.Headers.{SliceHeader, parameter_sets}
use Rattle.hv_tree_model.specs.Trees.{Tree, Leaf, Split, Outside, Intra, no_units, greatest_size}
use Rattle.hv_tree_model.specs.Sites.{Site, squares, is_outside, crosses}
use Rattle.hv_tree_model.specs.EarlierUnits.{Square}
use Rattle.hv_tree_model.specs.MostProbableModes.{dc}
use Rattle.hv_tree_model.specs.Validity.{is_empty}
use Rattle.hv_recon_model.specs.Reconstruction.{Decoded, nothing_decoded}
use Rattle.hv_recon_model.specs.BlankLaws.{BlankPicturesAreGrey}
use Rattle.hv_filter_model.specs.SampleAdaptiveOffset.{off_param}
use Rattle.hv_filter_model.specs.OffsetDecision.{block_count, picture_offsets}
use Rattle.hv_deblock_model.specs.FlatPictures.{FlatPicturesAreShown}
use Rattle.hv_mode_model.specs.ModeDecision.{Given, Before, Task, chosen, split_of, best, given_at, best_trees}
use Rattle.hv_slice_model.specs.BlankUnits.{blank_node, blank_tree}
use Rattle.hv_slice_model.specs.Slices.{picture_sites, header_in, unit_of_slice}
use Rattle.hv_model.specs.Reconstruction.{reconstructed}
use Rattle.hv_model.specs.Encoding.{coded_units as blank_units, recon_picture as grey_picture, picture_unit as blank_unit, encode_group as blank_group, group_bytes as blank_bytes, groups_of, encode_of as blank_stream}
use Rattle.hv_model.specs.IntraPictures.{working_picture, picture_sao, tree_units, coded_units, recon_picture, input_picture, picture_unit, picture_shown, encode_group, group_bytes, encode_of}
use Rattle.hv_model.specs.IntraLaws.{NothingIsChosenAtEffortZero, VideosAreBlankAtEffortZero}
use Rattle.hv_model.proofs.CodedUnitLemmas.{coded_units_grey}
use Rattle.hv_model.proofs.GroupShownLemmas.{alike}
use Rattle.hv_model.proofs.IntraUnitLemmas.{length-sites, intra_decoded}

-- ---- trees

module _ (g : Given) (none : g.effort ≡ 0) where
  chosen_blank : (size address : ℕ) (before : Before) (splits : List Tree) →
      chosen g size address before splits ≡ Leaf (Intra dc) (no_units size)
  unfolding chosen
  chosen_blank size address before splits = rw (eq-eqb g.effort 0 none) refl

  four_parts : (a b c d p q r s : Tree) → a ≡ p → b ≡ q → c ≡ r → d ≡ s →
      Split a b c d ≡ Split p q r s
  four_parts a b c d p q r s e f h k = rw (e, f, h, k) refl

  split_blank : (size address : ℕ) (before : Before) (choose : ℕ → Before → Tree) →
      ((at : ℕ) (here : Before) → choose at here ≡ blank_node g.surroundings.site size at) →
      split_of g size address before choose ≡
      Split
      (blank_node g.surroundings.site size address)
      (blank_node g.surroundings.site size (address + squares size))
      (blank_node g.surroundings.site size (address + 2 * squares size))
      (blank_node g.surroundings.site size (address + 3 * squares size))
  split_blank size address before choose each =
      let n : ℕ = squares size in
      four_parts _ _ _ _ _ _ _ _ (each address _) (each (address + n) _)
      (each (address + 2 * n) _) (each (address + 3 * n) _)

  best_blank : (size address : ℕ) (before : Before) →
      best g size address before ≡ blank_node g.surroundings.site size address
  unfolding best blank_node
  best_blank zero address before =
      ap (cond (is_outside g.surroundings.site address) Outside) (chosen_blank 0 address before [])
  best_blank (suc size) address before =
      let site : Site = g.surroundings.site in
      ap₂ (λ split leaf.
      cond (is_outside site address) Outside (cond (crosses site (suc size) address) split leaf))
      (split_blank size address before (best g size) (best_blank size))
      (chosen_blank (suc size) address before
      (split_of g size address before (best g size) ∷ []))

pub trees_blank : (task : Task) → task.effort ≡ 0 → (places : List Site) (done : List Square)
    (d : Decoded) → best_trees task places done d ≡ map blank_tree places
unfolding best_trees
trees_blank task none [] done d = refl
trees_blank task none (site ∷ places) done d =
    ap₂ (λ tree rest. tree ∷ rest)
    (best_blank (given_at task site done) none greatest_size 0 _)
    (trees_blank task none places _ _)

-- ---- offsets

pub offsets_off : (effort qp : ℕ) (deblocked input : Picture) → effort ≡ 0 →
    picture_offsets effort qp deblocked input ≡ tabulate (block_count deblocked) (λ i. off_param)
offsets_off effort qp deblocked input none =
    ap (λ e. picture_offsets e qp deblocked input) none

-- ---- units

pub units_blank : (places : List Site) →
    tree_units places (map blank_tree places) (tabulate (length places) (λ i. off_param)) ≡
    blank_units places
unfolding tabulate
units_blank [] = refl
units_blank (site ∷ places) =
    let last : Bool = is_empty places in
    ap (λ rest.
    record { sao = off_param; tree = blank_tree site; end_of_slice_segment_flag = last } ∷ rest)
    (units_blank places)

module _ (cfg : Settings) (none : cfg.effort ≡ 0) (header : SliceHeader) (input : Picture) where
  sao_off : picture_sao cfg header input ≡
      tabulate (length (picture_sites cfg)) (λ i. off_param)
  sao_off =
      offsets_off cfg.effort header.qp (working_picture cfg header input) input none ∙
      ap (λ n. tabulate n (λ i. off_param))
      (sym (length-sites (padded_width cfg) (padded_height cfg)))

  pub coded_blank : coded_units cfg header input ≡ blank_units (picture_sites cfg)
  coded_blank =
      ap₂ (tree_units (picture_sites cfg))
      (trees_blank _ none (picture_sites cfg) [] (nothing_decoded [])) sao_off ∙
      units_blank (picture_sites cfg)

-- ---- what is shown

module _
    (grey : BlankPicturesAreGrey) (flat : FlatPicturesAreShown) (cfg : Settings)
    (valid : IsValid cfg) (none : cfg.effort ≡ 0) where
  shown_grey : (header : SliceHeader) (input : Picture) →
      recon_picture cfg header input ≡ grey_picture cfg
  shown_grey header input =
      some_same (recon_picture cfg header input) (grey_picture cfg)
      (sym (intra_decoded cfg header [] input) ∙
      ap (reconstructed (padded_width cfg) (padded_height cfg) header [])
      (coded_blank cfg none header input) ∙
      coded_units_grey grey flat cfg valid header [])

  units_same : (group : List Picture) (order : List Coded) →
      map (λ c. picture_unit cfg group c.picture) order ≡
      map (λ c. blank_unit cfg (length group) c.picture) order
  units_same group [] = refl
  units_same group (c ∷ order) =
      let header : SliceHeader = header_in cfg (length group) c.picture in
      ap₂ (λ first others. first ∷ others)
      (ap (λ units. unit_bytes (unit_of_slice header (picture_sites cfg) units))
      (coded_blank cfg none header (input_picture group c.picture)))
      (units_same group order)

  groups_same : (groups : List (List Picture)) →
      flat_map (group_bytes cfg) groups ≡ flat_map (blank_bytes cfg) groups
  groups_same [] = refl
  groups_same (group ∷ groups) =
      ap₂ (λ first others. first ++ others)
      (ap (flat_map (λ unit. unit)) (units_same group (coding (length group) cfg.levels)))
      (groups_same groups)

  pub stream_same : (pictures : List Picture) → encode_of cfg pictures ≡ blank_stream cfg pictures
  stream_same [] = refl
  stream_same (picture ∷ pictures) =
      ap (λ bytes. parameter_sets cfg ++ bytes) (groups_same (groups_of cfg (picture ∷ pictures)))

  numbers_grey : (group : List Picture) (numbers : List ℕ) →
      map (picture_shown cfg group) numbers ≡
      map (λ n. crop (grey_picture cfg) cfg.width cfg.height) numbers
  numbers_grey group [] = refl
  numbers_grey group (n ∷ numbers) =
      ap₂ (λ first others. first ∷ others)
      (ap (λ picture. crop picture cfg.width cfg.height)
      (shown_grey (header_in cfg (length group) n) (input_picture group n)))
      (numbers_grey group numbers)

  pub shown_same : (groups : List (List Picture)) →
      flat_map (λ group. (encode_group cfg group).shown) groups ≡
      flat_map (λ group. (blank_group cfg group).shown) groups
  shown_same [] = refl
  shown_same (group ∷ groups) =
      ap₂ (λ first others. first ++ others)
      (numbers_grey group (rising (length group) 0) ∙
      alike (crop (grey_picture cfg) cfg.width cfg.height) (rising (length group) 0) group
      (length-rising (length group) 0))
      (shown_same groups)

module _ (grey : BlankPicturesAreGrey) (flat : FlatPicturesAreShown) where
  pub nothing_chosen : NothingIsChosenAtEffortZero
  nothing_chosen cfg header input valid none = record {
    units = coded_blank cfg none header input;
    shown = shown_grey grey flat cfg valid none header input;
  }

  pub videos_blank : VideosAreBlankAtEffortZero
  videos_blank cfg pictures valid none = record {
    stream = stream_same grey flat cfg valid none pictures;
    shown = shown_same grey flat cfg valid none (groups_of cfg pictures);
  }
