use Rattle.std.proofs.Common.{◌≡◌, ◌+◌, ◌*◌, ◌^◌, ℕ, pos, slice_index_or}
use Rattle.hv_residual.proofs.GatheringLemmas.{four_rows}
use Rattle.hv_residual.proofs.gathering.is_clear.Goals as goal

pub returns : goal.returns
returns c =
    let levels = c.args.levels.now in
    let IsZero : ℕ → ℕ → Type 0 = λ x y. slice_index_or levels
    ((4 * c.args.corner.y + y) * 2 ^ c.args.block.log2 + (4 * c.args.corner.x + x)) (pos 0) ≡ pos 0 in
    four_rows IsZero c.is_clear_row.result c.is_clear_row-2.result c.is_clear_row-3.result
    c.is_clear_row-4.result c.is_clear_row.ensures c.is_clear_row-2.ensures c.is_clear_row-3.ensures
    c.is_clear_row-4.ensures
