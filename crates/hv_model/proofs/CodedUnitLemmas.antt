-- What the encoder codes in blocks is blank, and decoded to a grey picture.
use Rattle.std.proofs.Common.{◌≡◌, ℕ, zero, suc, ◌+◌, ◌*◌, ◌≤◌, Bool, true, false, cond, List, [], ◌∷◌, map, refl, ap, ◌∙◌, arith}
use Rattle.std.specs.Prelude.{◌-◌, ◌^◌, replicate, pos, Some, option_map, All}
use Rattle.std.specs.List.{list_all}
use Rattle.hv_tables.specs.declared.bins.SliceKind.TheVariants.{I}
use Rattle.hv_types.specs.declared.settings.Settings.{Settings}
use Rattle.hv_types.specs.declared.picture.Picture.{Picture}
use Rattle.hv_types.specs.Configuration.{IsValid, padded_width, padded_height}
use Rattle.hv_stream_model.specs.Headers.{SliceHeader}
use Rattle.hv_plan.specs.Levels.{any_significant}
use Rattle.hv_tree_model.specs.Trees.{Tree, Leaf, Split, Outside, Intra, no_levels, no_unit, no_units, log2TrafoSize, transform_units, any_level, greatest_size, CodingTreeUnit}
use Rattle.hv_tree_model.specs.Sites.{Site, sites, squares, is_outside, crosses}
use Rattle.hv_tree_model.specs.MostProbableModes.{dc}
use Rattle.hv_tree_model.specs.Validity.{AreValid}
use Rattle.hv_filter_model.specs.OffLaws.{IsOff}
use Rattle.hv_recon_model.specs.Reconstruction.{unfiltered}
use Rattle.hv_recon_model.specs.ReconstructionLaws.{AreTrees}
use Rattle.hv_recon_model.specs.BlankLaws.{is_blank_tree, BlankPicturesAreGrey}
use Rattle.hv_slice_model.specs.BlankUnits.{blank_node}
use Rattle.hv_slice_model.specs.Slices.{picture_sites}
use Rattle.hv_slice_model.proofs.BlankUnitLemmas.{blank_units_valid}
use Rattle.hv_deblock_model.specs.TreeSquares.{squares_of_trees}
use Rattle.hv_deblock_model.specs.FlatPictures.{FlatPicturesAreShown}
use Rattle.hv_model.specs.Reconstruction.{DecodedPicture, distances_of, vectors_of, filtered_picture, reconstructed}
use Rattle.hv_model.specs.Encoding.{coded_units, recon_picture}
use Rattle.hv_model.proofs.IntraTreeLemmas.{trees_stay}

zeros_insignificant : (n : ℕ) → any_significant (replicate n (pos 0)) ≡ false
zeros_insignificant zero = refl
zeros_insignificant (suc n) = zeros_insignificant n

no_level_in : (log2 count : ℕ) → any_level (replicate count (no_unit log2)) ≡ false
unfolding no_levels
no_level_in log2 zero = refl
no_level_in log2 (suc count) =
    let luma = zeros_insignificant (2 ^ log2 * 2 ^ log2) in
    let chroma = zeros_insignificant (2 ^ (log2 - 1) * 2 ^ (log2 - 1)) in
    rw (luma, chroma) (no_level_in log2 count)

no_level : (size : ℕ) → any_level (no_units size) ≡ false
unfolding no_units
no_level size = no_level_in (log2TrafoSize size) (transform_units size)

leaf_blank : (size : ℕ) → is_blank_tree (Leaf (Intra dc) (no_units size)) ≡ true
leaf_blank size = rw (no_level size) refl

smallest_blank : (outside : Bool) →
    is_blank_tree (cond outside Outside (Leaf (Intra dc) (no_units zero))) ≡ true
smallest_blank true = refl
smallest_blank false = leaf_blank zero

greater_blank : (size : ℕ) (outside crossing : Bool) (a b c d : Tree) →
    is_blank_tree a ≡ true → is_blank_tree b ≡ true → is_blank_tree c ≡ true →
    is_blank_tree d ≡ true →
    is_blank_tree
    (cond outside Outside
    (cond crossing (Split a b c d) (Leaf (Intra dc) (no_units (suc size))))) ≡ true
greater_blank size true crossing a b c d p q r s = refl
greater_blank size false true a b c d p q r s = rw (p, q, r, s) refl
greater_blank size false false a b c d p q r s = leaf_blank (suc size)

node_blank : (site : Site) (size address : ℕ) → is_blank_tree (blank_node site size address) ≡ true
unfolding blank_node
node_blank site zero address = smallest_blank (is_outside site address)
node_blank site (suc size) address =
    let n : ℕ = squares size in
    greater_blank size (is_outside site address) (crosses site (suc size) address)
    (blank_node site size address) (blank_node site size (address + n))
    (blank_node site size (address + 2 * n)) (blank_node site size (address + 3 * n))
    (node_blank site size address) (node_blank site size (address + n))
    (node_blank site size (address + 2 * n)) (node_blank site size (address + 3 * n))

trees_blank : (sites : List Site) →
    list_all is_blank_tree (map (λ unit. unit.tree) (coded_units sites)) ≡ true
trees_blank [] = refl
trees_blank (site ∷ sites) = rw (node_blank site greatest_size 0, trees_blank sites) refl

-- ---- decoded

trees_valid : (sites : List Site) (units : List CodingTreeUnit) → AreValid I 0 sites units →
    AreTrees I 0 sites (map (λ unit. unit.tree) units)
trees_valid [] [] h = tt
trees_valid [] (unit ∷ units) h = absurd h
trees_valid (site ∷ sites) [] h = absurd h
trees_valid (site ∷ sites) (unit ∷ units) h = (h.1, trees_valid sites units h.3)

choices_off : (sites : List Site) → All IsOff (map (λ unit. unit.sao) (coded_units sites))
choices_off [] k d h = absurd (omega (arith, h))
choices_off (site ∷ rest) zero d h = record { luma = refl; cb = refl; cr = refl }
choices_off (site ∷ rest) (suc k) d h = choices_off rest k d (omega (arith, h))

-- with every header, of whatever slice type
pub coded_units_grey : BlankPicturesAreGrey → FlatPicturesAreShown →
    (cfg : Settings) → IsValid cfg →
    (header : SliceHeader) (references : List DecodedPicture) →
    reconstructed (padded_width cfg) (padded_height cfg) header references
    (coded_units (picture_sites cfg)) ≡
    Some (recon_picture cfg)
coded_units_grey grey flat cfg valid header references =
    let w : ℕ = padded_width cfg in
    let h : ℕ = padded_height cfg in
    let units : List CodingTreeUnit = coded_units (picture_sites cfg) in
    let trees : List Tree = map (λ unit. unit.tree) units in
    let wide : 8 ≤ cfg.width = valid.width_least in
    let high : 8 ≤ cfg.height = valid.height_least in
    let pictures : List Picture = map (λ reference. reference.picture) references in
    let valid_trees : AreTrees I 0 (picture_sites cfg) trees =
    trees_valid (picture_sites cfg) units (blank_units_valid I 0 (picture_sites cfg)) in
    ap (λ (list : List Tree). option_map (filtered_picture w header list units)
    (unfiltered w h header.qp pictures (picture_sites cfg) list))
    (trees_stay 0 (picture_sites cfg) trees valid_trees (distances_of header references) []) ∙
    ap (option_map (filtered_picture w header trees units))
    (grey w h header.qp 0 pictures trees valid_trees (trees_blank (picture_sites cfg))) ∙
    ap (λ picture. Some picture)
    (flat header.qp (squares_of_trees w (vectors_of w trees) trees) (map (λ unit. unit.sao) units)
    w h 128 128 128 (omega arith) (omega arith) (omega arith) (omega arith) (omega arith)
    (omega arith) (omega arith) (choices_off (picture_sites cfg)))
