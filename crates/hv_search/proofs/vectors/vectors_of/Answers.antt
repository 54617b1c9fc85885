use Rattle.std.proofs.Common.{◌≡◌, ℕ, ◌/◌, ◌%◌, ◌≤◌, ap, arith}
use Rattle.std.proofs.Math.Nat.{mul-le-mul_left, mul-le-mul_right}
use Rattle.hv_filter_model.specs.Blocks.{luma_side, blocks_over}
use Rattle.hv_search.proofs.VectorLemmas.{vectors_more}
use Rattle.hv_search.proofs.vectors.vectors_of.Goals as goal

pub append_block-requires-clause-room : goal.append_block-requires-clause-room
append_block-requires-clause-room c =
    let columns : ℕ = c.div_ceil-columns.result in
    let rows : ℕ = c.div_ceil-rows.result in
    let wide : columns ≤ 1024 = omega (arith, c.div_ceil-columns.ensures, c.width.ensures.value, c.args.input.width_most) in
    let high : rows ≤ 1024 = omega (arith, c.div_ceil-rows.ensures, c.height.ensures.value, c.args.input.height_most) in
    omega (arith, c.loop-index.vectors.ok, c.loop-index.invariant.long, c.loop-index-test.true, mul-le-mul_right rows wide, mul-le-mul_left 1024 high)

pub loop-index-preserved : goal.loop-index-preserved
loop-index-preserved c =
    let columns_are : c.div_ceil-columns.result ≡ blocks_over luma_side c.args.input.luma.now.width = omega (arith, c.div_ceil-columns.ensures, c.width.ensures.value) in
    vectors_more c.args.effort c.args.input.luma.now c.args.reference.luma.now c.loop-index.index _ _ c.loop-index.vectors.items c.append_block.new.vectors.items
    c.loop-index.invariant (ap (λ n. c.loop-index.index % n) columns_are) (ap (λ n. c.loop-index.index / n) columns_are) c.in_ok-append_block.ensures.ok
