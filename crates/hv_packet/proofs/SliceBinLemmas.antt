-- The bins of the blocks of a picture, one after another.
use Rattle.std.proofs.Common.{◌≡◌, ℕ, zero, suc, ◌+◌, ◌-◌, ◌*◌, ◌/◌, ◌%◌, ◌<◌, ◌≤◌, [], ◌++◌, refl, sym, ap, ◌∙◌, arith, eq-eqb}
use Rattle.std.specs.Prelude.{nat_eq}
use Rattle.std.proofs.lemmas.Bool.{ne_eqb}
use Rattle.hv_tables.specs.declared.bins.SliceKind.{SliceKind}
use Rattle.hv_tree_model.specs.Sites.{blocks_over, sites_from}
use Rattle.hv_tree_model.specs.Validity.{is_empty}
use Rattle.hv_packet.specs.BlankBins.{block_bins, blocks_bins, picture_bins}

-- no block is behind the last one, and behind that one alone
pub ends : (left index total : ℕ) → left ≡ total - index → index ≤ total →
    nat_eq left 0 ≡ nat_eq index total
ends zero index total e h = sym (eq-eqb index total (omega (arith, e, h)))
ends (suc left) index total e h =
    ne_eqb (suc left) 0 (λ same. omega (arith, same)) ∙
    sym (ne_eqb index total (λ same. omega (arith, e, h, same)))

-- whether a block is behind so many
pub last_of_count : (count width height index : ℕ) →
    is_empty (sites_from count width height index) ≡ nat_eq count 0
last_of_count zero width height index = refl
last_of_count (suc count) width height index = sym (ne_eqb (suc count) 0 (λ e. omega (arith, e)))

module _ (slice_type : SliceKind) (width height : ℕ) where
  -- the bins of all blocks
  pub all_bins : (count : ℕ) → count ≡ blocks_over width * blocks_over height →
      blocks_bins slice_type width height count 0 ≡ picture_bins slice_type width height
  all_bins count e = ap (λ n. blocks_bins slice_type width height n 0) e

  pub no_bins : (count index : ℕ) → count ≡ 0 → blocks_bins slice_type width height count index ≡ []
  no_bins count index e = rw e refl

  -- the bins of a block, and those of the blocks behind it
  pub first_bins : (columns total index : ℕ) → columns ≡ blocks_over width → index < total →
      blocks_bins slice_type width height (total - index) index ≡
      block_bins slice_type width height (index % columns) (index / columns) (nat_eq (index + 1) total) ++
      blocks_bins slice_type width height (total - (index + 1)) (index + 1)
  first_bins columns total index e h =
      let left : ℕ = total - (index + 1) in
      let count : total - index ≡ suc left = omega (arith, h) in
      let last : nat_eq left 0 ≡ nat_eq (index + 1) total =
      ends left (index + 1) total refl (omega (arith, h)) in
      rw (e, count) (ap
      (λ is_last. block_bins slice_type width height (index % blocks_over width) (index / blocks_over width)
      is_last ++ blocks_bins slice_type width height left (index + 1)) last)
