-- What is given for the choice of a picture of a group is what the definition of a video gives: so
-- the blocks that are decided are those that are chosen.
use Rattle.std.proofs.Common.{◌≡◌, ℕ, zero, suc, ◌*◌, ◌<◌, ◌≤◌, List, [], ◌∷◌, length, map, refl, sym, ap, ap₂, ◌∙◌, subst, arith}
use Rattle.std.specs.Prelude.{All, slice_get, slice_index_or, Option, Some, None, pos, ◌-ℤ◌}
use Rattle.std.specs.Option.{option_and_then, option_copied}
use Rattle.std.proofs.lemmas.Option.{get_or_from_slice_get}
use Rattle.hv_types.specs.declared.settings.Settings.{Settings}
use Rattle.hv_types.specs.declared.picture.Picture.{Picture}
use Rattle.hv_types.specs.Configuration.{padded_width, padded_height, columns, rows, most_levels}
use Rattle.hv_types.specs.GroupInput.{GroupInput}
use Rattle.hv_types.specs.Samples.{Plane}
use Rattle.hv_block.specs.declared.block.Block.{Block}
use Rattle.hv_block.specs.declared.frame.Frame.{Frame}
use Rattle.hv_group_model.specs.Structure.{coded_of}
use Rattle.hv_decision.specs.Orders.{AreOrders}
use Rattle.hv_filter_model.specs.FlatPictures.{flat_picture}
use Rattle.hv_tree_model.specs.Trees.{side}
use Rattle.hv_tree_model.specs.Sites.{Site, site, sites, blocks_over, x0, y0}
use Rattle.hv_recon_model.specs.Reconstruction.{nothing_decoded}
use Rattle.hv_recon.specs.Leaves.{pictures_of}
use Rattle.hv_recon.specs.DecodedBlocks.{trees_of, moving_trees_of, AreOfBlocks}
use Rattle.hv_vector_model.specs.VectorPrediction.{distance}
use Rattle.hv_amvp.specs.declared.scaling.Distances.{Distances}
use Rattle.hv_amvp.specs.Entries.{entries}
use Rattle.hv_search_model.specs.MotionSearch.{vector_between, motion}
use Rattle.hv_search.specs.Motion.{Motion}
use Rattle.hv_mode_model.specs.ModeDecision.{Task, best_trees, best_decoded, coded_trees}
use Rattle.hv_mode_model.specs.NodeLaws.{FindTheSame, ChooseTheSame}
use Rattle.hv_mode_model.proofs.NodeChoiceLemmas.{pictures_by_nodes}
use Rattle.hv_mode.specs.declared.picture_task.PictureTask.{PictureTask}
use Rattle.hv_mode.specs.Motions.{found_of}
use Rattle.hv_mode.specs.Vectors.{references_for}
use Rattle.hv_mode.specs.Pictures.{task_of, plans_of, moving_plans_of, NameTheirUnits}
use Rattle.hv_mode.proofs.FoundNodeLemmas.{found_as_searched}
use Rattle.hv_packet.proofs.HeaderLemmas.{quantiser_in}
use Rattle.hv_slice_model.specs.Slices.{count_of, header_in, list_0}
use Rattle.hv_model.specs.Reconstruction.{DecodedPicture, distances_of}
use Rattle.hv_model.specs.ReferenceLaws.{SetsGiveTheReferences}
use Rattle.hv_model.specs.InterPictures.{PictureSource, picture_task}
use Rattle.hv_serial.specs.CodedBlocks.{HaveUnits, AreChosen}
use Rattle.hv_serial.specs.GivenPictures.{distance_from, IsGiven}
use Rattle.hv_serial.specs.GroupPictures.{ArePadded, source_in, recon_in, reference_pictures, IsFound, ShowReferences}
use Rattle.hv_serial.specs.Slots.{slot_of}
use Rattle.hv_serial.specs.Workspaces.{Shows}
use Rattle.hv_serial.proofs.DistanceLemmas.{chosen_by_distances}
use Rattle.hv_serial.proofs.PaddedPictureLemmas.{padded_of}

-- ---- list 0

listed : (cfg : Settings) (count number : ℕ) → SetsGiveTheReferences → count ≤ 64 →
    cfg.levels ≤ most_levels → number < count →
    list_0 (header_in cfg count number) ≡ (coded_of count cfg.levels number).references
listed cfg count zero sets most few below = refl
listed cfg count (suc k) sets most few below = sets count cfg.levels cfg.qp k most few below

pub list_zero : (group : GroupInput) (number : ℕ) → SetsGiveTheReferences →
    length group.pictures ≤ 64 → group.config.levels ≤ most_levels →
    number < length group.pictures →
    list_0 (source_in group number).header ≡
    (coded_of (length group.pictures) group.config.levels number).references
list_zero group number sets most few below =
    listed group.config (length group.pictures) number sets most few below

pub few_references : (group : GroupInput) (number : ℕ) → AreOrders →
    length group.pictures ≤ 64 → group.config.levels ≤ most_levels →
    number < length group.pictures →
    length (coded_of (length group.pictures) group.config.levels number).references ≤ 2
few_references group number orders most few below =
    let order =
    orders (length group.pictures) group.config.levels (omega (arith, below)) most few in
    order.references_most number below

count_is : (cfg : Settings) (count number : ℕ) → count_of (header_in cfg count number) ≡ number
count_is cfg count zero = refl
count_is cfg count (suc k) = refl

abbrev decoded_as : (ℕ → Picture) → ℕ → DecodedPicture
decoded_as recon n = record { PicOrderCntVal = n; picture = recon n }

pictures_listed : (recon : ℕ → Picture) (rs : List ℕ) →
    map (λ (d : DecodedPicture). d.picture) (map (decoded_as recon) rs) ≡ map recon rs
pictures_listed recon [] = refl
pictures_listed recon (r ∷ rs) = ap (λ rest. recon r ∷ rest) (pictures_listed recon rs)

distances_listed : (number : ℕ) (recon : ℕ → Picture) (rs : List ℕ) →
    map (λ (d : DecodedPicture). pos number -ℤ pos d.PicOrderCntVal) (map (decoded_as recon) rs) ≡
    map (λ r. pos number -ℤ pos r) rs
distances_listed number recon [] = refl
distances_listed number recon (r ∷ rs) =
    ap (λ rest. (pos number -ℤ pos r) ∷ rest) (distances_listed number recon rs)

-- ---- its distances and its pictures, by two entries

distances_same : (number : ℕ) (rs : List ℕ) (d : Distances) → length rs ≤ 2 →
    d.first ≡ distance_from number (slice_get rs 0) →
    d.second ≡ distance_from number (slice_get rs 1) → (entry : ℕ) →
    distance (entries d) entry ≡ distance (map (λ r. pos number -ℤ pos r) rs) entry
unfolding distance
distances_same number [] d few first second zero = first
distances_same number [] d few first second (suc zero) = second
distances_same number [] d few first second (suc (suc entry)) = refl
distances_same number (a ∷ []) d few first second zero = first
distances_same number (a ∷ []) d few first second (suc zero) = second
distances_same number (a ∷ []) d few first second (suc (suc entry)) = refl
distances_same number (a ∷ b ∷ []) d few first second zero = first
distances_same number (a ∷ b ∷ []) d few first second (suc zero) = second
distances_same number (a ∷ b ∷ []) d few first second (suc (suc entry)) = refl
distances_same number (a ∷ b ∷ x ∷ rs) d few first second entry = absurd (omega (arith, few))

module _ (frames : List Frame) (slot : ℕ → ℕ) (recon : ℕ → Picture) where
  abbrev at : ℕ → Option Frame
  at r = slice_get frames (slot r)

  pictures_shown : (rs : List ℕ) (first second : Option Frame) → length rs ≤ 2 →
      All (λ r. Shows frames (slot r) (recon r)) rs →
      first ≡ option_and_then at (slice_get rs 0) →
      second ≡ option_and_then at (slice_get rs 1) →
      pictures_of first second ≡ map recon rs
  pictures_shown [] first second few shows e f = ap (λ o. pictures_of o second) e
  pictures_shown (a ∷ []) first second few shows e f =
      let s = shows 0 a (omega arith) in
      ap₂ pictures_of (e ∙ s.there) f ∙ ap (λ (p : Picture). p ∷ []) s.shown
  pictures_shown (a ∷ b ∷ []) first second few shows e f =
      let s = shows 0 a (omega arith) in
      let t = shows 1 a (omega arith) in
      ap₂ pictures_of (e ∙ s.there) (f ∙ t.there) ∙
      ap₂ (λ (p q : Picture). p ∷ q ∷ []) s.shown t.shown
  pictures_shown (a ∷ b ∷ x ∷ rs) first second few shows e f = absurd (omega (arith, few))

-- ---- vectors

no_vector_to : (effort : ℕ) (input : Option Plane) (x y side : ℕ) →
    vector_between effort input None x y side ≡ None
no_vector_to effort None x y side = refl
no_vector_to effort (Some input) x y side = refl

-- for the first picture there is nothing to refer to
none_found : (group : GroupInput) (entry x y side : ℕ) → motion group 0 entry x y side ≡ None
unfolding motion
none_found group entry x y side = no_vector_to group.config.effort _ x y side

found_alike : (group : GroupInput) (number : ℕ) (found : Option Motion) →
    IsFound group number found → (index : ℕ) →
    index < blocks_over (padded_width group.config) * blocks_over (padded_height group.config) →
    FindTheSame (site (padded_width group.config) (padded_height group.config) index)
    (found_of found) (motion group number)
found_alike group number None is index below =
    λ entry size address few inside even.
    let here : Site = site (padded_width group.config) (padded_height group.config) index in
    sym (ap (λ k. motion group k entry (x0 here address) (y0 here address) (side size)) is ∙
    none_found group entry (x0 here address) (y0 here address) (side size))
found_alike group number (Some m) is index below =
    let wide = is.wide in
    let high = is.high in
    subst (λ w. FindTheSame (site w (padded_height group.config) index) (found_of (Some m))
    (motion group number)) wide
    (subst (λ h. FindTheSame (site m.width h index) (found_of (Some m)) (motion group number)) high
    (found_as_searched m (motion group number) is.each index
    (subst (λ w. index < blocks_over w * blocks_over m.height) (sym wide)
    (subst (λ h. index < blocks_over (padded_width group.config) * blocks_over h) (sym high)
    below))))

-- ---- blocks that are decided

-- by this task, from these references, in a picture of these sides
pub record AreDecided
    (t : Task) (references : List Picture) (width height : ℕ) (blocks : List Block) :
    Type 0 where
  pub trees :
      trees_of width height blocks ≡
      coded_trees t (sites width height) [] (nothing_decoded references)
  pub moving :
      moving_trees_of width height blocks ≡
      best_trees t (sites width height) [] (nothing_decoded references)
  pub decoded :
      AreOfBlocks width height blocks
      (best_decoded t (sites width height) [] (nothing_decoded references))
  pub names : NameTheirUnits width height (plans_of blocks)
  pub moving_names : NameTheirUnits width height (moving_plans_of blocks)

by_other : (one other : Task) (references : List Picture) (width height : ℕ)
    (blocks : List Block) →
    ChooseTheSame one other (sites width height) [] (nothing_decoded references) →
    AreDecided one references width height blocks → AreDecided other references width height blocks
by_other one other references width height blocks same are = record {
  trees = are.trees ∙ same.coded;
  moving = are.moving ∙ same.trees;
  decoded = subst (AreOfBlocks width height blocks) same.decoded are.decoded;
  names = are.names;
  moving_names = are.moving_names;
}

module _ (group : GroupInput) (number : ℕ) (found : Option Motion) (frames : List Frame)
    (t : PictureTask) (given : IsGiven group number found frames t) (padded : ArePadded group)
    (is_found : IsFound group number found) (shows : ShowReferences group number frames)
    (listed_so : list_0 (source_in group number).header ≡
    (coded_of (length group.pictures) group.config.levels number).references)
    (few : length (coded_of (length group.pictures) group.config.levels number).references ≤ 2)
  where
    abbrev cfg : Settings
    cfg = group.config

    abbrev source : PictureSource
    source = source_in group number

    abbrev refers_to : List ℕ
    refers_to = (coded_of (length group.pictures) group.config.levels number).references

    input_is : t.input.now ≡ source.input
    input_is =
        sym (get_or_from_slice_get group.pictures number t.input.now (flat_picture 0 0 0 0 0)
        given.input) ∙
        ap (λ list. slice_index_or list number (flat_picture 0 0 0 0 0)) (sym padded) ∙
        padded_of group.pictures number

    by_code : Task
    by_code = record (picture_task cfg source) {
      distances = entries t.distances;
      vectors = found_of found;
    }

    abbrev by_nodes : Task
    by_nodes = record (picture_task cfg source) { distances = entries t.distances }

    task_is : task_of t ≡ by_code
    unfolding by_code
    task_is =
        let qp = given.qp ∙ quantiser_in cfg (length group.pictures) number in
        λ i. record {
          effort = given.effort i;
          qp = qp i;
          input = input_is i;
          slice_type = given.kind i;
          references = given.references i;
          distances = entries t.distances;
          vectors = found_of (given.found i);
        }

    references_are : references_for t ≡ reference_pictures source
    references_are =
        pictures_shown frames (slot_of (length group.pictures) cfg.levels) (recon_in group)
        refers_to (option_copied t.first) (option_copied t.second) few shows given.first
        given.second ∙
        sym (pictures_listed (recon_in group) (list_0 source.header) ∙
        ap (map (recon_in group)) listed_so)

    distances_are : (entry : ℕ) →
        distance (entries t.distances) entry ≡
        distance (distances_of source.header source.references) entry
    distances_are entry =
        distances_same number refers_to t.distances few given.first_distance
        given.second_distance entry ∙
        ap (λ list. distance list entry)
        (sym (ap (λ n. map (λ (d : DecodedPicture). pos n -ℤ pos d.PicOrderCntVal)
        source.references) (count_is cfg (length group.pictures) number) ∙
        distances_listed number (recon_in group) (list_0 source.header) ∙
        ap (map (λ r. pos number -ℤ pos r)) listed_so))

    vectors_are : motion group number ≡ source.vectors
    vectors_are =
        ap (λ (ps : List Picture). motion (record { config = cfg; pictures = ps }) number)
        (sym padded)

    pub are_chosen : (blocks : List Block) →
        length blocks ≡ columns cfg * rows cfg → HaveUnits (length blocks) blocks →
        AreDecided (task_of t) (references_for t) t.width t.height blocks →
        AreChosen group number source blocks
    unfolding by_code
    are_chosen blocks count whole are =
        let w : ℕ = padded_width cfg in
        let h : ℕ = padded_height cfg in
        let rs : List Picture = reference_pictures source in
        let here : AreDecided by_code rs w h blocks =
        subst (λ n. AreDecided by_code rs n h blocks) given.width
        (subst (λ n. AreDecided by_code rs t.width n blocks) given.height
        (subst (λ list. AreDecided by_code list t.width t.height blocks) references_are
        (subst (λ (s : Task). AreDecided s (references_for t) t.width t.height blocks) task_is
        are))) in
        let nodes =
        pictures_by_nodes by_code source.vectors w h rs
        (λ index below.
        subst (FindTheSame (site w h index) (found_of found)) vectors_are
        (found_alike group number found is_found index below)) in
        let distances =
        chosen_by_distances by_nodes (distances_of source.header source.references) distances_are
        (sites w h) (nothing_decoded rs) in
        let best =
        by_other by_nodes (picture_task cfg source) rs w h blocks distances
        (by_other by_code by_nodes rs w h blocks nodes here) in record {
          header = refl;
          input = sym (ap (λ list. slice_index_or list number (flat_picture 0 0 0 0 0))
              (sym padded) ∙ padded_of group.pictures number);
          count = count;
          whole = whole;
          best = record {
            trees = best.trees;
            moving = best.moving;
            decoded = best.decoded;
            names = best.names;
            moving_names = best.moving_names;
          };
        }
