-- The luma mode of intra prediction is read back from its bins (8.4.2): computed for every pair of
-- neighbours' modes and every mode.
use Rattle.std.proofs.Common.{◌≡◌, ℕ, ◌<◌, Bool, true, false, cond, List, ◌∷◌, refl, subst}
use Rattle.std.specs.Prelude.{nat_eq, nat_lt, ◌&&◌, slice_index_or}
use Rattle.std.proofs.lemmas.Bool.{and_parts, ltb-true, leb-true, eqb-true}
use Rattle.std.specs.Prelude.{nat_le}
use Rattle.hv_lemmas.proofs.ComputedLemmas.{all_below, holds_below}
use Rattle.hv_stream_model.specs.Scripts.{Reads, one}
use Rattle.hv_stream_model.proofs.ScriptLemmas.{reads_map}
use Rattle.hv_tables.specs.declared.bins.CtxTable.TheVariants.{PrevIntra}
use Rattle.hv_residual_model.specs.UnitBins.{UnitBin}
use Rattle.hv_residual_model.specs.Binarization.{bypass_at, truncated_unary_bins, fixed_length_bins}
use Rattle.hv_tree_model.specs.MostProbableModes.{candModeList, is_candidate, mpm_idx_of, remaining_of, mode_of_remaining}
use Rattle.hv_tree_model.specs.Validity.{intra_modes}
use Rattle.hv_unit_model.specs.BlockSyntax.{luma_mode}
use Rattle.hv_unit_model.specs.Bins.{bin, luma_mode_bins}
use Rattle.hv_residual_model.proofs.BinarizationLemmas.{reads_small_number, reads_truncated_unary}

-- a candidate has its own place in the list, and any other mode its own number of those that remain
abbrev pub is_found : List ℕ → ℕ → Bool
is_found list mode =
    cond (is_candidate mode list)
    (nat_le (mpm_idx_of mode list) 2 &&
    nat_eq (slice_index_or list (mpm_idx_of mode list) 0) mode)
    (nat_lt (remaining_of list mode) 32 &&
    nat_eq (mode_of_remaining list (remaining_of list mode)) mode)

abbrev pub all_found : ℕ → ℕ → Bool
all_found a b = all_below intra_modes (λ mode. is_found (candModeList a b) mode)

computed : all_below intra_modes (λ a. all_below intra_modes (λ b. all_found a b)) ≡ true
unfolding candModeList remaining_of mode_of_remaining
computed = refl

found : (a b mode : ℕ) → a < intra_modes → b < intra_modes → mode < intra_modes →
    is_found (candModeList a b) mode ≡ true
found a b mode first second m =
    holds_below intra_modes (λ n. is_found (candModeList a b) n)
    (holds_below intra_modes (λ n. all_found a n)
    (holds_below intra_modes (λ n. all_below intra_modes (λ k. all_found n k)) computed a first)
    b second)
    mode m

reads_found : (list : List ℕ) (mode : ℕ) (candidate : Bool) → is_candidate mode list ≡ candidate →
    is_found list mode ≡ true →
    Reads (luma_mode list) (luma_mode_bins list mode) mode
unfolding luma_mode luma_mode_bins
reads_found list mode true e f =
    let t = rw e at f in
    let parts = and_parts (nat_le (mpm_idx_of mode list) 2)
    (nat_eq (slice_index_or list (mpm_idx_of mode list) 0) mode) t in
    let these : List UnitBin =
    bin PrevIntra 0 true ∷ truncated_unary_bins bypass_at 2 0 (mpm_idx_of mode list) in
    rw e (subst (λ m. Reads (luma_mode list) these m) (eqb-true _ _ parts.1)
    (one (reads_map (λ mpm_idx. slice_index_or list mpm_idx 0)
    (reads_truncated_unary bypass_at 2 0 (mpm_idx_of mode list) (leb-true _ _ parts.0)))))
reads_found list mode false e f =
    let t = rw e at f in
    let parts = and_parts (nat_lt (remaining_of list mode) 32)
    (nat_eq (mode_of_remaining list (remaining_of list mode)) mode) t in
    let these : List UnitBin =
    bin PrevIntra 0 false ∷ fixed_length_bins 5 (remaining_of list mode) in
    rw e (subst (λ m. Reads (luma_mode list) these m) (eqb-true _ _ parts.1)
    (one (reads_map (λ remaining. mode_of_remaining list remaining)
    (reads_small_number 5 (remaining_of list mode) (ltb-true _ _ parts.0)))))

pub reads_luma_mode : (a b mode : ℕ) → a < intra_modes → b < intra_modes → mode < intra_modes →
    Reads (luma_mode (candModeList a b)) (luma_mode_bins (candModeList a b) mode) mode
reads_luma_mode a b mode first second m =
    reads_found (candModeList a b) mode (is_candidate mode (candModeList a b)) refl
    (found a b mode first second m)
