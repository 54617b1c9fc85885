use Rattle.std.proofs.Common.{◌∙◌, ◌+◌, ◌*◌, ◌^◌, ℕ, ℤ, List, ap, pos, get_or, slice_index_or}
use Rattle.hv_residual.proofs.GatheringLemmas.{gaps_at}
use Rattle.hv_residual.proofs.gathering.by_rows.Goals as goal

pub returns : goal.returns
returns c = λ x y h k.
    let f : ℕ → ℕ → ℤ = λ x y. slice_index_or c.args.levels.now
    ((4 * c.args.corner.y + y) * 2 ^ c.args.block.log2 + (4 * c.args.corner.x + x)) (pos 0) in
    ap (λ (all : List ℤ). get_or all (8 * y + x) (pos 0)) c.with_gaps.ensures ∙
    gaps_at f c.row_of.result c.row_of-2.result c.row_of-3.result c.row_of-4.result
    c.row_of.ensures c.row_of-2.ensures c.row_of-3.ensures c.row_of-4.ensures x y h k
