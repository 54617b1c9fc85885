-- The blocks of a picture that are chosen one after another: each by the edges of the blocks around
-- it, and so all as the picture's choice has them, with vectors and as they are coded.
use Rattle.std.proofs.Common.{map, ◌≡◌, ℕ, zero, suc, ◌+◌, ◌*◌, ◌<◌, ◌≤◌, List, [], ◌∷◌, ◌++◌, length, length-set, take, set, refl, sym, ap, ap₂, subst, ◌∙◌, arith, inl, inr}
use Rattle.std.specs.Prelude.{slice_get, Some, is_some, option_map}
use Rattle.std.proofs.lemmas.Bool.{false≢true, cases_lt}
use Rattle.std.proofs.lemmas.List.{length-map, length-take-le}
use Rattle.std.proofs.lemmas.Option.{slice_get-map, slice_get_within}
use Rattle.hv_lemmas.proofs.OptionLemmas.{some_same}
use Rattle.hv_types.specs.declared.picture.Picture.{Picture}
use Rattle.hv_inter_model.specs.UnitVectors.{unit_with_vector}
use Rattle.hv_block.specs.declared.block.Block.{Block}
use Rattle.hv_block.specs.declared.edges.Neighbours.{Neighbours}
use Rattle.hv_block.specs.Around.{neighbours_of}
use Rattle.hv_block.specs.Samples.{AreWholeSamples}
use Rattle.hv_block.proofs.AroundLemmas.{set_later, neighbours_kept}
use Rattle.hv_tree_model.specs.Trees.{Tree, greatest_size}
use Rattle.hv_tree_model.specs.Sites.{Site, site, sites, sites_from, blocks_over, ctb_side, ctb_column, ctb_row}
use Rattle.hv_tree_model.specs.EarlierUnits.{Square, squares_of, after, look_picture}
use Rattle.hv_tree_model.specs.Plans.{Plan, IsPlan, NamesItsUnits, tree_of}
use Rattle.hv_unit_model.specs.PlanLaws.{ArePlansBefore, LieAround, squares_of_plans}
use Rattle.hv_unit_model.proofs.AroundLemmas.{plans_are_appended}
use Rattle.hv_vector_model.specs.Vectors.{plan_with_vectors, around_with_vectors}
use Rattle.hv_amvp.specs.Entries.{entries}
use Rattle.hv_near.specs.Neighbours.{lists_of_plan, around_of}
use Rattle.hv_syntax.proofs.PictureLemmas.{got_in_front, take_with, lies_around}
use Rattle.hv_recon_model.specs.Reconstruction.{Decoded, nothing_decoded, decoded_tree}
use Rattle.hv_recon_model.proofs.BesideLemmas.{tree_beside}
use Rattle.hv_recon_model.proofs.WholeLocalityLemmas.{some_of_product}
use Rattle.hv_recon.specs.Leaves.{AreSeen, lists_with_vectors}
use Rattle.hv_recon.specs.DecodedBlocks.{trees_from, trees_of, moving_trees_from, moving_trees_of, AreOfBlocks}
use Rattle.hv_recon.proofs.PictureLemmas.{BlocksAreDecoded, none_decoded, seen_so, one_block_more, kept_by, BlocksFrom, from_start, are_of_blocks}
use Rattle.hv_mode_model.specs.Differences.{tree_with_differences, trees_with_differences}
use Rattle.hv_mode_model.specs.ModeDecision.{Task, Given, given_at, decoded_behind, coded_node, best, best_tree, best_trees, best_decoded, coded_trees}
use Rattle.hv_mode_model.proofs.ChosenDecodedLemmas.{decoded_node, corner_x, corner_y}
use Rattle.hv_mode_model.proofs.NeighbourLemmas.{around_with}
use Rattle.hv_mode_model.proofs.SeenChoiceLemmas.{chosen_in_block, coded_in_block}
use Rattle.hv_mode.specs.declared.task.Task.{Task as BlockTask}
use Rattle.hv_mode.specs.Nodes.{given_of, Stands, Decides}
use Rattle.hv_mode.specs.Pictures.{plans_of, moving_plans_of, NameTheirUnits, given_by, before_block, IsSeenBefore, IsChosen, DecidesBlock, AreChosen}
use Rattle.hv_mode.specs.Vectors.{references_of, vectors_of}

pub some_across : (width : ℕ) → 0 < width → 0 < blocks_over width
some_across width some = omega (arith, some)

-- ---- one block

pub is_chosen : (t : BlockTask) (old new : Block) →
    Decides t greatest_size 0 (best (given_of t) greatest_size 0) old new →
    NamesItsUnits t.place (lists_of_plan new.plan) →
    NamesItsUnits t.place (lists_with_vectors new.plan) → IsPlan (lists_of_plan new.plan) →
    AreWholeSamples new.samples →
    IsChosen (record {
      effort = t.effort;
      qp = t.qp;
      input = t.input.now;
      slice_type = t.kind;
      references = t.references;
      distances = entries t.distances;
      vectors = vectors_of t;
    }) (references_of t) t.place t.near.now new
is_chosen t old new decides names moving_names plan samples = record {
  plan = plan;
  samples = samples;
  names = names;
  moving_names = moving_names;
  tree = λ d seen. decides.tree (before_block d) (stands d seen);
  coded = λ d seen. decides.coded (before_block d) (stands d seen);
  seen = λ d seen. (decides.stands (before_block d) (stands d seen)).decoded;
} where
  stands : (d : Decoded) → IsSeenBefore (references_of t) t.place t.near.now d →
      Stands t old 0 (before_block d)
  stands d seen = record {
    decoded = seen old.samples;
    earlier = record {
      count = refl;
      square = λ a below inside. absurd (omega (arith, below));
    };
  }

-- ---- one more

set_there : {A : Type 0} (xs : List A) (i : ℕ) (x : A) → i < length xs →
    slice_get (set xs i x) i ≡ Some x
set_there [] i x below = absurd (omega (arith, below))
set_there (y ∷ xs) zero x below = refl
set_there (y ∷ xs) (suc i) x below = set_there xs i x (omega (arith, below))

pub one_more_chosen : (t : Task) (references : List Picture) (width height count : ℕ)
    (old new : List Block) → 0 < width → count < length old →
    AreChosen t references width height count old →
    DecidesBlock t references (site width height count) old new →
    (length new ≡ length old) × AreChosen t references width height (count + 1) new
one_more_chosen t references width height count old new some inside before
    (block, written, chosen) =
    (ap length written ∙ length-set old count block, all)
  where
    near_kept : (index : ℕ) → index ≤ count →
        neighbours_of old (site width height index) ≡ neighbours_of new (site width height index)
    near_kept index early =
        sym (ap (λ list. neighbours_of list (site width height index)) written ∙
        neighbours_kept old count block (site width height index) (some_across width some) early)

    all : AreChosen t references width height (count + 1) new
    all index other below got = elim (cases_lt index count) [
      | inl early ↦
          subst (λ near. IsChosen t references (site width height index) near other)
          (near_kept index (omega (arith, early)))
          (before index other early
          (sym (set_later old count index block early) ∙
          sym (ap (λ list. slice_get list index) written) ∙ got))
      | inr late ↦
          let here : count ≡ index = omega (arith, late, below) in
          let same : block ≡ other =
          some_same block other
          (sym (set_there old count block inside) ∙
          sym (ap (λ list. slice_get list count) written) ∙
          ap (λ n. slice_get new n) here ∙ got) in
          subst (λ n. IsChosen t references (site width height n)
          (neighbours_of new (site width height n)) other) here
          (subst (λ b. IsChosen t references (site width height count)
          (neighbours_of new (site width height count)) b) same
          (subst (λ near. IsChosen t references (site width height count) near block)
          (near_kept count (omega arith)) chosen))
    ]

-- ---- plans of blocks, as they are coded and with vectors

block_of : (view : Block → Plan) (blocks : List Block) (index : ℕ) (plan : Plan) →
    slice_get (map view blocks) index ≡ Some plan →
    (block : Block) × (slice_get blocks index ≡ Some block) × (view block ≡ plan)
block_of view [] index plan e = absurd (false≢true (ap is_some e))
block_of view (block ∷ blocks) zero plan e = (block, refl, some_same (view block) plan e)
block_of view (block ∷ blocks) (suc index) plan e = block_of view blocks index plan e

whole_with : (block : Block) → IsPlan (lists_of_plan block.plan) →
    IsPlan (lists_with_vectors block.plan)
whole_with block whole = record {
  units = length-map block.plan.units unit_with_vector ∙ whole.units;
  luma = whole.luma;
  cb = whole.cb;
  cr = whole.cr;
}

moving_front : (n : ℕ) (blocks : List Block) →
    map plan_with_vectors (take n (plans_of blocks)) ≡ take n (moving_plans_of blocks)
moving_front zero blocks = refl
moving_front (suc n) [] = refl
moving_front (suc n) (block ∷ blocks) =
    ap (λ rest. lists_with_vectors block.plan ∷ rest) (moving_front n blocks)

-- ---- all blocks of a picture

module _ (t : Task) (references : List Picture) (width height : ℕ) (blocks : List Block)
    (count : length blocks ≡ blocks_over width * blocks_over height)
    (chosen : AreChosen t references width height (length blocks) blocks) where
  abbrev plans : List Plan
  plans = plans_of blocks

  abbrev moving : List Plan
  moving = moving_plans_of blocks

  got : (index : ℕ) (block : Block) → slice_get blocks index ≡ Some block →
      IsChosen t references (site width height index)
      (neighbours_of blocks (site width height index)) block
  got index block there =
      chosen index block (slice_get_within blocks index block there) there

  plan_whole : (index : ℕ) (plan : Plan) → slice_get plans index ≡ Some plan → IsPlan plan
  plan_whole index plan there =
      let b = block_of (λ (b : Block). lists_of_plan b.plan) blocks index plan there in
      subst IsPlan b.2 (got index b.0 b.1).plan

  moving_whole : (index : ℕ) (plan : Plan) → slice_get moving index ≡ Some plan → IsPlan plan
  moving_whole index plan there =
      let b = block_of (λ (b : Block). lists_with_vectors b.plan) blocks index plan there in
      subst IsPlan b.2 (whole_with b.0 (got index b.0 b.1).plan)

  pub all_named : NameTheirUnits width height plans
  all_named index plan there =
      let b = block_of (λ (b : Block). lists_of_plan b.plan) blocks index plan there in
      subst (λ p. NamesItsUnits (site width height index) p) b.2 (got index b.0 b.1).names

  pub all_moving_named : NameTheirUnits width height moving
  all_moving_named index plan there =
      let b = block_of (λ (b : Block). lists_with_vectors b.plan) blocks index plan there in
      subst (λ p. NamesItsUnits (site width height index) p) b.2 (got index b.0 b.1).moving_names

  samples_whole : (index : ℕ) (block : Block) → slice_get blocks index ≡ Some block →
      AreWholeSamples block.samples
  samples_whole index block there = (got index block there).samples

  module _ (first : ℕ) (block : Block) (there : slice_get blocks first ≡ Some block)
      (columns : 0 < blocks_over width) where
    abbrev here : Site
    here = site width height first

    abbrev near : Neighbours
    near = neighbours_of blocks here

    abbrev done : List Square
    done = squares_of_plans width height 0 (take first moving)

    inside : first < length blocks
    inside = slice_get_within blocks first block there

    plans_before : ArePlansBefore here (take first moving)
    plans_before = record {
      count = length-take-le first moving
          (omega (arith, inside, length-map blocks (λ (b : Block). lists_with_vectors b.plan)));
      whole = λ i plan e. moving_whole i plan (got_in_front first moving i plan e).1;
      named = λ i plan e. all_moving_named i plan (got_in_front first moving i plan e).1;
    }

    lies : LieAround here (take first moving) (around_with_vectors (around_of near))
    lies =
        subst (λ list. LieAround here list (around_with_vectors (around_of near)))
        (moving_front first blocks)
        (around_with here (take first plans) (around_of near)
        (lies_around blocks here columns (omega (arith, inside))
        (λ k plan early e. plan_whole k plan e)))

    module _ (d : Decoded) (decoded : BlocksAreDecoded width height references blocks first d) where
      abbrev g : Given
      g = given_by t here near

      abbrev tree : Tree
      tree = best_tree t here done d

      abbrev behind_it : Decoded
      behind_it = decoded_behind (given_at t here done) greatest_size 0 tree d

      seen_before : IsSeenBefore references here near d
      seen_before =
          seen_so width height references blocks samples_whole first (omega (arith, inside)) columns
          d decoded

      in_picture : best g greatest_size 0 (before_block d) ≡ tree
      in_picture =
          chosen_in_block t here (take first moving) (around_with_vectors (around_of near)) d
          plans_before lies

      pub moving_is : tree_of here (lists_with_vectors block.plan) ≡ tree
      moving_is = (got first block there).tree d seen_before ∙ in_picture

      pub coded_is :
          tree_of here (lists_of_plan block.plan) ≡
          tree_with_differences t.distances (look_picture here done) greatest_size 0 [] tree
      coded_is =
          (got first block there).coded d seen_before ∙
          ap (coded_node g greatest_size 0 (before_block d)) in_picture ∙
          coded_in_block t.distances here (take first moving)
          (around_with_vectors (around_of near)) tree plans_before lies

      decodes : decoded_tree t.qp greatest_size (ctb_side * ctb_column here)
          (ctb_side * ctb_row here) tree d ≡ Some behind_it
      decodes =
          ap₂ (λ x y. decoded_tree t.qp greatest_size x y tree d) (sym (corner_x here))
          (sym (corner_y here)) ∙
          decoded_node (given_at t here done) greatest_size 0 (before_block d) (omega arith)

      pub decoded_more : BlocksAreDecoded width height references blocks (first + 1) behind_it
      decoded_more =
          one_block_more width height references blocks samples_whole first (omega (arith, inside))
          columns block d behind_it there decoded
          (subst (λ e. AreSeen here references near block.samples 64 e)
          (ap (λ chosen_tree. decoded_behind g greatest_size 0 chosen_tree d) in_picture)
          ((got first block there).seen d seen_before))
          (kept_by (ctb_side * ctb_column here) (ctb_side * ctb_row here) 64 d behind_it _ decodes
          (tree_beside t.qp greatest_size (ctb_side * ctb_column here) (ctb_side * ctb_row here)
          tree d (omega arith) (omega arith)))

      pub squares_more :
          after greatest_size done tree ≡ squares_of_plans width height 0 (take (first + 1) moving)
      squares_more =
          let plan : Plan = lists_with_vectors block.plan in
          let next : suc first ≡ first + 1 = omega arith in
          let there_too : slice_get moving first ≡ Some plan =
          slice_get-map (λ (b : Block). lists_with_vectors b.plan) blocks first ∙
          ap (option_map (λ (b : Block). lists_with_vectors b.plan)) there in
          ap (λ x. done ++ squares_of greatest_size x) (sym moving_is) ∙
          sym (plans_are_appended here (take first moving) plan plans_before.count) ∙
          ap (λ list. squares_of_plans width height 0 list)
          (sym (take_with moving first plan there_too)) ∙
          ap (λ n. squares_of_plans width height 0 (take n moving)) next

  -- ---- one block after the other

  record Reaches (left first : ℕ) (rest : List Block) (done : List Square) (d : Decoded) :
      Type 0 where
    trees :
        trees_from width height first rest ≡
        coded_trees t (sites_from left width height first) done d
    moving :
        moving_trees_from width height first rest ≡
        best_trees t (sites_from left width height first) done d
    decoded :
        BlocksAreDecoded width height references blocks (length blocks)
        (best_decoded t (sites_from left width height first) done d)

  blocks_reach : (left first : ℕ) (rest : List Block) → length rest ≡ left →
      first + left ≡ length blocks → BlocksFrom blocks first rest → (d : Decoded) →
      BlocksAreDecoded width height references blocks first d →
      Reaches left first rest (squares_of_plans width height 0 (take first moving)) d
  unfolding best_trees best_decoded trees_with_differences
  blocks_reach zero first [] long total from d decoded = record {
    trees = refl;
    moving = refl;
    decoded =
        let last : first ≡ length blocks = omega (arith, total) in
        subst (λ n. BlocksAreDecoded width height references blocks n d) last decoded;
  }
  blocks_reach zero first (block ∷ rest) long total from d decoded = absurd (omega (arith, long))
  blocks_reach (suc left) first [] long total from d decoded = absurd (omega (arith, long))
  blocks_reach (suc left) first (block ∷ rest) long total from d decoded =
      let number : first + 0 ≡ first = omega arith in
      let there : slice_get blocks first ≡ Some block =
      sym (from 0 ∙ ap (slice_get blocks) number) in
      let columns : 0 < blocks_over width =
      some_of_product (blocks_over width) (blocks_over height) first
      (omega (arith, total, count)) in
      let next : (i : ℕ) → first + suc i ≡ first + 1 + i = λ i. omega arith in
      let reached : Decoded = behind_it first block there columns d decoded in
      let others = blocks_reach left (first + 1) rest (omega (arith, long)) (omega (arith, total))
      (λ i. from (suc i) ∙ ap (slice_get blocks) (next i)) reached
      (decoded_more first block there columns d decoded) in
      let squares = squares_more first block there columns d decoded in
      let later : List Site = sites_from left width height (first + 1) in record {
        trees =
            ap₂ (λ x xs. x ∷ xs) (coded_is first block there columns d decoded)
            (others.trees ∙ ap (λ list. coded_trees t later list reached) (sym squares));
        moving =
            ap₂ (λ x xs. x ∷ xs) (moving_is first block there columns d decoded)
            (others.moving ∙ ap (λ list. best_trees t later list reached) (sym squares));
        decoded =
            subst (λ list. BlocksAreDecoded width height references blocks (length blocks)
            (best_decoded t later list reached)) (sym squares) others.decoded;
      }

  all_reached :
      Reaches (blocks_over width * blocks_over height) 0 blocks [] (nothing_decoded references)
  all_reached =
      blocks_reach (blocks_over width * blocks_over height) 0 blocks count
      (omega (arith, count)) (from_start blocks) (nothing_decoded references)
      (none_decoded width height references blocks)

  pub trees_are :
      trees_of width height blocks ≡
      coded_trees t (sites width height) [] (nothing_decoded references)
  unfolding sites
  trees_are = all_reached.trees

  pub moving_trees_are :
      moving_trees_of width height blocks ≡
      best_trees t (sites width height) [] (nothing_decoded references)
  unfolding sites
  moving_trees_are = all_reached.moving

  pub decoded_are :
      AreOfBlocks width height blocks
      (best_decoded t (sites width height) [] (nothing_decoded references))
  unfolding sites
  decoded_are =
      are_of_blocks width height references blocks samples_whole count
      (best_decoded t (sites width height) [] (nothing_decoded references)) all_reached.decoded
