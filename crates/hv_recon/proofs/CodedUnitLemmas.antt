-- A transform unit that is coded: its levels among those of a coding tree block, and which are
-- kept.
use Rattle.std.proofs.Common.{◌≡◌, ℕ, ◌+◌, ◌-◌, ◌*◌, ◌^◌, ◌≤◌, Bool, true, false, List, length, take, drop, refl, sym, ap, ◌∙◌, arith}
use Rattle.std.specs.Prelude.{Option, ℤ}
use Rattle.std.proofs.lemmas.List.{take-take, drop-take, take_at, drop_at, length-map, length-take-le}
use Rattle.hv_types.specs.declared.picture.Picture.{Picture}
use Rattle.hv_block.specs.declared.edges.Neighbours.{Neighbours}
use Rattle.hv_block.specs.Plans.{CtbPlan}
use Rattle.hv_block.specs.Samples.{Samples}
use Rattle.hv_sample_model.specs.Quantisation.{levels}
use Rattle.hv_tree_model.specs.Sites.{Site}
use Rattle.hv_tree_model.specs.Plans.{part}
use Rattle.hv_types.specs.Samples.{Plane}
use Rattle.hv_recon_model.specs.SeenSamples.{Spot, SamplesAround, seen_line}
use Rattle.hv_recon.specs.Coding.{input_block, coded_levels, with_levels}
use Rattle.hv_recon.specs.CodedUnits.{IsUnitCoded, KeepsEarlier}
use Rattle.hv_recon.proofs.NoLevelLemmas.{length-rows}
use Rattle.hv_recon.proofs.PutUnitLemmas.{same_put}

-- ---- the levels of a block among those of a coding tree block

pub length-coded_levels : (log2 mode : ℕ) (is_luma : Bool) (qp : ℕ) (samples : List ℕ)
    (line : List (Option ℕ)) →
    length (coded_levels log2 mode is_luma qp samples line) ≡ 2 ^ log2 * 2 ^ log2
unfolding levels
length-coded_levels log2 mode is_luma qp samples line =
    length-map _ _ ∙ length-rows (2 ^ log2) (2 ^ log2) _

part_written : (all block : List ℤ) (from count : ℕ) → from + count ≤ length all →
    length block ≡ count → part (with_levels all from block) from count ≡ block
part_written all block from count room long =
    let start : length (take from all) ≡ from = length-take-le from all (omega (arith, room)) in
    ap (λ l. take count l) (drop_at (take from all) _ from start) ∙
    take_at block _ count long

start_kept : (all block : List ℤ) (from : ℕ) → from ≤ length all →
    take from (with_levels all from block) ≡ take from all
start_kept all block from room =
    take_at (take from all) _ from (length-take-le from all room)

-- the levels that were written, as the definitions have them, and that those before are kept
pub written : (all block wanted new : List ℤ) (from at count : ℕ) →
    new ≡ with_levels all from block → from ≡ at → block ≡ wanted → length wanted ≡ count →
    at + count ≤ length all →
    (part new at count ≡ wanted) × (take at new ≡ take at all)
written all block wanted new from at count is here same long room =
    let whole : new ≡ with_levels all at wanted = is ∙ (λ i. with_levels all (here i) (same i)) in (
      ap (λ l. part l at count) whole ∙ part_written all wanted at count room long,
      ap (λ l. take at l) whole ∙ start_kept all wanted at (omega (arith, room)),
    )

-- by what the block is seen from
pub same_levels : (log2 mode : ℕ) (is_luma : Bool) (qp qp2 : ℕ) (plane : Plane) (s s2 : Spot)
    (around around2 : SamplesAround) (x x2 y y2 address address2 : ℕ) (old old2 : List ℕ) →
    qp ≡ qp2 → s ≡ s2 → around ≡ around2 → x ≡ x2 → y ≡ y2 → address ≡ address2 → old ≡ old2 →
    coded_levels log2 mode is_luma qp (input_block plane (s.left + x) (s.top + y) log2)
    (seen_line s around old address x y log2) ≡
    coded_levels log2 mode is_luma qp2 (input_block plane (s2.left + x2) (s2.top + y2) log2)
    (seen_line s2 around2 old2 address2 x2 y2 log2)
same_levels log2 mode is_luma qp qp2 plane s s2 around around2 x x2 y y2 address address2 old old2
    a b c d e f g =
    λ i. coded_levels log2 mode is_luma (a i)
    (input_block plane ((b i).left + d i) ((b i).top + e i) log2)
    (seen_line (b i) (c i) (g i) (f i) (d i) (e i) log2)

-- ---- a unit whose levels are kept stays coded

part_of_start : (l : List ℤ) (n from count : ℕ) → from + count ≤ n →
    part (take n l) from count ≡ part l from count
part_of_start l n from count inside =
    let rest : n ≡ from + (n - from) = omega (arith, inside) in
    ap (λ k. take count (drop from (take k l))) rest ∙
    ap (λ k. take count k) (drop-take from (n - from) l) ∙
    take-take count (n - from) (drop from l) (omega (arith, inside))

part_kept : (a b : List ℤ) (n from count : ℕ) → take n b ≡ take n a → from + count ≤ n →
    part a from count ≡ part b from count
part_kept a b n from count same inside =
    sym (part_of_start a n from count inside) ∙ sym (ap (λ l. part l from count) same) ∙
    part_of_start b n from count inside

pub unit_kept : (input : Picture) (place : Site) (near : Neighbours) (mode qp address next : ℕ)
    (p q : CtbPlan) (old new : Samples) → address + 16 ≤ next → KeepsEarlier next p q →
    IsUnitCoded input p place near 2 address mode qp old new →
    IsUnitCoded input q place near 2 address mode qp old new
unit_kept input place near mode qp address next p q old new before kept coded =
    let luma = part_kept p.luma q.luma (64 * next) (64 * address) 1024 kept.luma
    (omega (arith, before)) in
    let cb = part_kept p.cb q.cb (16 * next) (16 * address) 256 kept.cb (omega (arith, before)) in
    let cr = part_kept p.cr q.cr (16 * next) (16 * address) 256 kept.cr (omega (arith, before)) in
    record {
      luma = sym luma ∙ coded.luma;
      cb = sym cb ∙ coded.cb;
      cr = sym cr ∙ coded.cr;
      put = record {
        luma = same_put 64 5 mode true _ _ _ _ _ _ _ _ _ _ _ _ _ _ _ _ _ _ refl refl refl luma
            refl refl refl refl refl coded.put.luma;
        cb = same_put 32 4 mode false _ _ _ _ _ _ _ _ _ _ _ _ _ _ _ _ _ _ refl refl refl cb
            refl refl refl refl refl coded.put.cb;
        cr = same_put 32 4 mode false _ _ _ _ _ _ _ _ _ _ _ _ _ _ _ _ _ _ refl refl refl cr
            refl refl refl refl refl coded.put.cr;
      };
    }
