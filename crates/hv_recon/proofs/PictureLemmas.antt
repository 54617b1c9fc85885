-- A picture whose blocks decode by the edges of the blocks around each and the reference pictures:
-- what is decoded behind each block, and the picture that is put together from them.
use Rattle.std.proofs.Common.{◌≡◌, ℕ, zero, suc, ◌+◌, ◌*◌, ◌/◌, ◌%◌, ◌<◌, ◌≤◌, true, List, [], ◌∷◌, length, refl, sym, ap, ap₂, subst, ◌∙◌, arith}
use Rattle.std.specs.Prelude.{nat_lt, ◌&&◌, map, slice_get, slice_index_or, Option, Some, None, option_map, option_and_then}
use Rattle.std.proofs.Math.Dec.{lit<}
use Rattle.std.proofs.Math.Nat.{mod-lt, mul-le-mul_right, add-mul}
use Rattle.std.proofs.lemmas.Bool.{ltb-true}
use Rattle.std.proofs.lemmas.Bool.Decides.{nat_tests}
use Rattle.std.proofs.lemmas.Option.{slice_get-get_or, slice_get-map, get_or_from_slice_get}
use Rattle.hv_lemmas.proofs.ListLemmas.{there_is}
use Rattle.hv_types.specs.declared.picture.Picture.{Picture}
use Rattle.hv_block.specs.declared.block.Block.{Block}
use Rattle.hv_block.specs.Around.{neighbours_of}
use Rattle.hv_block.specs.Samples.{Samples}
use Rattle.hv_tree_model.specs.Trees.{Tree, greatest_size}
use Rattle.hv_tree_model.specs.Sites.{Site, site, sites, sites_from, blocks_over, ctb_side, ctb_column, ctb_row}
use Rattle.hv_tree_model.specs.Plans.{tree_of}
use Rattle.hv_recon_model.specs.Reconstruction.{Decoded, nothing_decoded, decoded_tree, decoded_trees, sample_of, picture_of, unfiltered}
use Rattle.hv_recon_model.proofs.BesideLemmas.{KeepBeside, KeptBeside, tree_beside}
use Rattle.hv_recon_model.proofs.PictureLemmas.{block_below}
use Rattle.hv_recon_model.proofs.WholeLocalityLemmas.{some_of_product}
use Rattle.hv_recon.specs.Leaves.{AreSeen, luma_around, cb_around, cr_around, lists_with_vectors}
use Rattle.hv_recon.specs.DecodedBlocks.{moving_trees_from, BlocksDecode, sample_of_blocks, AreOfBlocks, picture_of_blocks, SamplesAreThoseOfBlocks, PicturesAreTheirBlocks}
use Rattle.hv_recon.proofs.ChoiceLemmas.{where_is, where_never, none_either}
use Rattle.hv_recon.proofs.BlockLemmas.{Part, IsPart, Grid, AreWhole, sample_before, decoded_before, known_sample, seen_next}
use Rattle.hv_recon.proofs.NextBlockLemmas.{LiesInBlock, decoded_next}
use Rattle.hv_types.proofs.SampleLemmas.{plane_same}

-- ---- the three components

abbrev pub luma_part : Part
luma_part = record {
  own = λ s. s.luma;
  right = λ e. e.right_luma;
  bottom = λ e. e.bottom_luma;
}

abbrev pub cb_part : Part
cb_part = record { own = λ s. s.cb; right = λ e. e.right_cb; bottom = λ e. e.bottom_cb }

abbrev pub cr_part : Part
cr_part = record { own = λ s. s.cr; right = λ e. e.right_cr; bottom = λ e. e.bottom_cr }

is_luma : IsPart ctb_side luma_part
is_luma = record {
  some = lit< tt;
  whole = λ s whole. whole.luma;
  right = λ b. refl;
  bottom = λ b. refl;
}

is_cb : IsPart (ctb_side / 2) cb_part
is_cb = record {
  some = lit< tt;
  whole = λ s whole. whole.cb;
  right = λ b. refl;
  bottom = λ b. refl;
}

is_cr : IsPart (ctb_side / 2) cr_part
is_cr = record {
  some = lit< tt;
  whole = λ s whole. whole.cr;
  right = λ b. refl;
  bottom = λ b. refl;
}

abbrev pub luma_grid : ℕ → ℕ → Grid
luma_grid width height = record {
  side = ctb_side;
  across = blocks_over width;
  width = width;
  height = height;
}

abbrev pub chroma_grid : ℕ → ℕ → Grid
chroma_grid width height = record {
  side = ctb_side / 2;
  across = blocks_over width;
  width = width / 2;
  height = height / 2;
}

-- ---- the first n blocks are decoded

module _ (width height : ℕ) (references : List Picture) (blocks : List Block) where
  pub record BlocksAreDecoded (n : ℕ) (d : Decoded) : Type 0 where
    pub luma :
        (x y : ℕ) →
        d.luma x y ≡ decoded_before luma_part (luma_grid width height) blocks n x y
    pub cb :
        (x y : ℕ) → d.cb x y ≡ decoded_before cb_part (chroma_grid width height) blocks n x y
    pub cr :
        (x y : ℕ) → d.cr x y ≡ decoded_before cr_part (chroma_grid width height) blocks n x y
    pub same_references : d.references ≡ references

  none_before : (p : Part) (g : Grid) (x y : ℕ) → decoded_before p g blocks 0 x y ≡ None
  none_before p g x y =
      let k : ℕ = y / g.side * g.across + x / g.side in
      none_either (nat_lt x g.width && nat_lt y g.height) (sample_before p blocks 0 k _)
      (where_never (nat_lt k 0) _ None (λ t. absurd (omega (arith, ltb-true _ _ t))))

  pub none_decoded : BlocksAreDecoded 0 (nothing_decoded references)
  none_decoded = record {
    luma = λ x y. sym (none_before luma_part (luma_grid width height) x y);
    cb = λ x y. sym (none_before cb_part (chroma_grid width height) x y);
    cr = λ x y. sym (none_before cr_part (chroma_grid width height) x y);
    same_references = refl;
  }

  module _ (whole : AreWhole blocks) (n : ℕ) (few : n ≤ length blocks)
      (columns : 0 < blocks_over width) where
    abbrev pub here : Site
    here = site width height n

    pub seen_so : (d : Decoded) → BlocksAreDecoded n d → (own : Samples) →
        AreSeen here references (neighbours_of blocks here) own 0 d
    seen_so d done own = record {
      luma = seen_next luma_part (luma_grid width height) is_luma blocks whole n few columns
          (omega arith) d.luma done.luma own.luma;
      cb = seen_next cb_part (chroma_grid width height) is_cb blocks whole n few columns
          (omega arith) d.cb done.cb own.cb;
      cr = seen_next cr_part (chroma_grid width height) is_cr blocks whole n few columns
          (omega arith) d.cr done.cr own.cr;
      same_references = done.same_references;
    }

    pub one_block_more : (block : Block) (d e : Decoded) → slice_get blocks n ≡ Some block →
        BlocksAreDecoded n d →
        AreSeen here references (neighbours_of blocks here) block.samples 64 e →
        KeepBeside (ctb_side * ctb_column here) (ctb_side * ctb_row here) 64 d e →
        BlocksAreDecoded (n + 1) e
    one_block_more block d e there done seen kept = record {
      luma = decoded_next luma_part (luma_grid width height) is_luma.some (omega arith) blocks n
          (luma_around (neighbours_of blocks here)) block d.luma e.luma there done.luma seen.luma
          (λ x y out. kept.luma x y (record {
            beside = λ right across below down.
                out (record { right = right; across = across; below = below; down = down });
          }));
      cb = decoded_next cb_part (chroma_grid width height) is_cb.some (omega arith) blocks n
          (cb_around (neighbours_of blocks here)) block d.cb e.cb there done.cb seen.cb
          (λ x y out. kept.cb x y (record {
            beside = λ right across below down. out (in_chroma x y right across below down);
          }));
      cr = decoded_next cr_part (chroma_grid width height) is_cr.some (omega arith) blocks n
          (cr_around (neighbours_of blocks here)) block d.cr e.cr there done.cr seen.cr
          (λ x y out. kept.cr x y (record {
            beside = λ right across below down. out (in_chroma x y right across below down);
          }));
      same_references = seen.same_references;
    } where
      in_chroma : (x y : ℕ) → ctb_side * ctb_column here ≤ 2 * x →
          2 * x < ctb_side * ctb_column here + 64 → ctb_side * ctb_row here ≤ 2 * y →
          2 * y < ctb_side * ctb_row here + 64 → LiesInBlock (chroma_grid width height) n x y
      in_chroma x y right across below down = record {
        right = omega (arith, right);
        across = omega (arith, across);
        below = omega (arith, below);
        down = omega (arith, down);
      }

-- ---- one block after the other

pub kept_by : (left top n : ℕ) (d e : Decoded) (r : Option Decoded) → r ≡ Some e →
    KeptBeside left top n d r → KeepBeside left top n d e
kept_by left top n d e r same kept = subst (λ o. KeptBeside left top n d o) same kept

-- the blocks of a list from this number on
abbrev pub BlocksFrom : List Block → ℕ → List Block → Type 0
BlocksFrom blocks first rest = (i : ℕ) → slice_get rest i ≡ slice_get blocks (first + i)

blocks_decode : (width height qp : ℕ) (references : List Picture) (blocks : List Block) →
    BlocksDecode width height qp references blocks → (count first : ℕ) (rest : List Block) →
    length rest ≡ count →
    first + count ≡ length blocks → BlocksFrom blocks first rest → (d : Decoded) →
    BlocksAreDecoded width height references blocks first d →
    (e : Decoded) ×
    (decoded_trees qp (sites_from count width height first)
    (moving_trees_from width height first rest) d ≡ Some e) ×
    BlocksAreDecoded width height references blocks (length blocks) e
unfolding decoded_trees
blocks_decode width height qp references blocks all zero first rest long total from d done =
    let last : first ≡ length blocks = omega (arith, total) in
    (d, refl, subst (λ n. BlocksAreDecoded width height references blocks n d) last done)
blocks_decode width height qp references blocks all (suc count) first [] long total from d done =
    absurd (omega (arith, long))
blocks_decode width height qp references blocks all (suc count) first (block ∷ rest) long total from
    d done =
    let here : Site = site width height first in
    let tree : Tree = tree_of here (lists_with_vectors block.plan) in
    let left : ℕ = ctb_side * ctb_column here in
    let top : ℕ = ctb_side * ctb_row here in
    let number : first + 0 ≡ first = omega arith in
    let there : slice_get blocks first ≡ Some block =
    sym (from 0 ∙ ap (slice_get blocks) number) in
    let few : first ≤ length blocks = omega (arith, total) in
    let columns : 0 < blocks_over width =
    some_of_product (blocks_over width) (blocks_over height) first
    (omega (arith, total, all.count)) in
    let one = all.decodes first block there block.samples d
    (seen_so width height references blocks all.whole first few columns d done block.samples) in
    let kept = kept_by left top 64 d one.0 (decoded_tree qp greatest_size left top tree d) one.1
    (tree_beside qp greatest_size left top tree d (omega arith) (omega arith)) in
    let more = one_block_more width height references blocks all.whole first few columns block d
    one.0 there done one.2 kept in
    let next : (i : ℕ) → first + suc i ≡ first + 1 + i = λ i. omega arith in
    let others = blocks_decode width height qp references blocks all count (first + 1) rest
    (omega (arith, long)) (omega (arith, total))
    (λ i. from (suc i) ∙ ap (slice_get blocks) (next i)) one.0 more in (
      others.0,
      ap (option_and_then (decoded_trees qp (sites_from count width height (first + 1))
          (moving_trees_from width height (first + 1) rest))) one.1 ∙ others.1,
      others.2,
    )

-- ---- each sample

own_sample : (p : Part) (g : Grid) (is_part : IsPart g.side p) (blocks : List Block)
    (whole : AreWhole blocks) (x y : ℕ) → x < g.width → y < g.height →
    y / g.side * g.across + x / g.side < length blocks →
    decoded_before p g blocks (length blocks) x y ≡
    Some (sample_of_blocks g.side g.across (map (λ b. p.own b.samples) blocks) x y)
own_sample p g is_part blocks whole x y wide high inside =
    let side : ℕ = g.side in
    let k : ℕ = y / side * g.across + x / side in
    let i : ℕ = y % side * side + x % side in
    let own : Block → List ℕ = λ b. p.own b.samples in
    let b = there_is blocks k inside in
    let in_picture : nat_lt x g.width && nat_lt y g.height ≡ true = grind (arith, nat_tests) in
    let in_row : y % side < side = mod-lt y is_part.some in
    let rows : (y % side + 1) * side ≤ side * side =
    mul-le-mul_right side (omega (arith, in_row)) in
    let small : i < side * side =
    omega (arith, rows, add-mul (y % side) 1 side, mod-lt x is_part.some) in
    let long : i < length (own b.0) =
    omega (arith, small, is_part.whole b.0.samples (whole k b.0 b.1)) in
    where_is (nat_lt x g.width && nat_lt y g.height) true
    (sample_before p blocks (length blocks) k i) None in_picture ∙
    known_sample p side is_part blocks whole (length blocks) k i b.0 inside b.1 ∙
    slice_get-get_or (own b.0) i 0 long ∙
    ap (λ l. Some (slice_index_or l i 0))
    (sym (get_or_from_slice_get (map own blocks) k (own b.0) []
    (slice_get-map own blocks k ∙ ap (option_map own) b.1)))

pub from_start : (blocks : List Block) → BlocksFrom blocks 0 blocks
from_start blocks i =
    let same : i ≡ 0 + i = omega arith in
    ap (slice_get blocks) same

-- where all are decoded
pub are_of_blocks : (width height : ℕ) (references : List Picture) (blocks : List Block) →
    AreWhole blocks → length blocks ≡ blocks_over width * blocks_over height → (d : Decoded) →
    BlocksAreDecoded width height references blocks (length blocks) d →
    AreOfBlocks width height blocks d
are_of_blocks width height references blocks whole count d all = record {
  luma = λ x y wide high. all.luma x y ∙
      own_sample luma_part (luma_grid width height) is_luma blocks whole x y wide high
      (omega (arith, block_below width height x y wide high, count));
  cb = λ x y wide high. all.cb x y ∙
      own_sample cb_part (chroma_grid width height) is_cb blocks whole x y wide high
      (chroma_below x y wide high);
  cr = λ x y wide high. all.cr x y ∙
      own_sample cr_part (chroma_grid width height) is_cr blocks whole x y wide high
      (chroma_below x y wide high);
} where
  chroma_below : (x y : ℕ) → x < width / 2 → y < height / 2 →
      y / (ctb_side / 2) * blocks_over width + x / (ctb_side / 2) < length blocks
  chroma_below x y wide high =
      let column : 2 * x / 64 ≡ x / 32 = omega arith in
      let row : 2 * y / 64 ≡ y / 32 = omega arith in
      let below = block_below width height (2 * x) (2 * y) (omega (arith, wide))
      (omega (arith, high)) in
      let same : 2 * y / 64 * blocks_over width + 2 * x / 64 ≡
      y / 32 * blocks_over width + x / 32 =
      ap₂ (λ a b. a * blocks_over width + b) row column in
      omega (arith, below, same, count)

pub samples_of_blocks : SamplesAreThoseOfBlocks
unfolding sites
samples_of_blocks width height qp references blocks all =
    let r = blocks_decode width height qp references blocks all
    (blocks_over width * blocks_over height) 0 blocks all.count (omega (arith, all.count)) (from_start blocks) (nothing_decoded references)
    (none_decoded width height references blocks) in
    (r.0, r.1, are_of_blocks width height references blocks all.whole all.count r.0 r.2)

-- ---- the picture

-- where every sample is that of its block
pub picture_is_of_blocks : (width height : ℕ) (blocks : List Block) (d : Decoded) →
    AreOfBlocks width height blocks d →
    picture_of width height d ≡ picture_of_blocks width height blocks
picture_is_of_blocks width height blocks d are =
    let luma = plane_same width height (λ x y. sample_of (d.luma x y)) _
    (λ x y wide high. ap sample_of (are.luma x y wide high)) in
    let cb = plane_same (width / 2) (height / 2) (λ x y. sample_of (d.cb x y)) _
    (λ x y wide high. ap sample_of (are.cb x y wide high)) in
    let cr = plane_same (width / 2) (height / 2) (λ x y. sample_of (d.cr x y)) _
    (λ x y wide high. ap sample_of (are.cr x y wide high)) in
    λ i. record { luma = luma i; cb = cb i; cr = cr i }

pub picture_of_its_blocks : PicturesAreTheirBlocks
unfolding unfiltered
picture_of_its_blocks width height qp references blocks all =
    let r = samples_of_blocks width height qp references blocks all in
    ap (option_map (picture_of width height)) r.1 ∙
    ap Some (picture_is_of_blocks width height blocks r.0 r.2)
