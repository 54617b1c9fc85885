use Rattle.std.proofs.Common.{◌≡◌, ℕ, ◌+◌, ◌*◌, ◌^◌, List, length, arith, get_or, ap, ap₂, sym, subst, ◌∙◌}
use Rattle.hv_recon.proofs.PutRowLemmas.{AreRowsPut, row_put, long_row, none_put, all_put, row_fits, row_of_block, row_ends, length-row_of_block, row_sample}
use Rattle.hv_recon.proofs.put.put_block.Goals as goal

pub slice_bounds-put_row-end : goal.slice_bounds-put_row-end
slice_bounds-put_row-end c =
    let value = c.side_of-n.ensures.value in
    let whole : length c.args.block.now ≡ c.side_of-n.result * c.side_of-n.result =
    c.requires.block ∙ sym (ap₂ (λ a b. a * b) value value) in
    row_ends c.side_of-n.result c.loop-r.r (length c.args.block.now) (omega arith) whole

pub put_row-requires : goal.put_row-requires
put_row-requires c =
    let value = c.side_of-n.ensures.value in
    let n : ℕ = c.side_of-n.result in
    let whole : length c.args.block.now ≡ n * n =
    c.requires.block ∙ sym (ap₂ (λ a b. a * b) value value) in
    let long = length-row_of_block c.args.block.now n c.loop-r.r (omega arith) whole in
    let fits =
    row_fits c.args.side c.args.x c.args.y c.loop-r.r (2 ^ c.args.log2) (length c.loop-r.samples)
    c.requires.across (omega (arith, value, c.requires.down)) c.loop-r.invariant.0 in
    omega (arith, long, fits, value)

pub loop-r-init : goal.loop-r-init
loop-r-init c = (
  c.requires.whole,
  none_put c.args.side c.args.x c.args.y c.args.log2 c.args.block.now
      c.args.samples.now,
)

pub loop-r-preserved : goal.loop-r-preserved
loop-r-preserved c =
    let value = c.side_of-n.ensures.value in
    let n : ℕ = c.side_of-n.result in
    let whole : length c.args.block.now ≡ n * n =
    c.requires.block ∙ sym (ap₂ (λ a b. a * b) value value) in
    let row : List ℕ = row_of_block c.args.block.now n c.loop-r.r in
    let long = length-row_of_block c.args.block.now n c.loop-r.r (omega arith) whole in
    let fits =
    row_fits c.args.side c.args.x c.args.y c.loop-r.r (2 ^ c.args.log2) (length c.loop-r.samples)
    c.requires.across (omega (arith, value, c.requires.down)) c.loop-r.invariant.0 in
    let put =
    row_put c.args.side c.args.x c.args.y c.args.log2 c.loop-r.r c.args.block.now
    c.args.samples.now c.loop-r.samples row c.requires.across c.requires.down
    (omega (arith, value)) c.loop-r.invariant.0 (long ∙ value)
    (λ j small. row_sample c.args.block.now n c.loop-r.r j (omega (arith, small, value)) ∙
    ap (λ m. get_or c.args.block.now (c.loop-r.r * m + j) 0) value)
    c.loop-r.invariant.1 in (
      ap length c.put_row.ensures ∙
          long_row c.loop-r.samples row ((c.args.y + c.loop-r.r) * c.args.side + c.args.x)
          (omega (arith, long, fits, value)) ∙
          c.loop-r.invariant.0,
      subst (λ new. AreRowsPut c.args.side c.args.x c.args.y c.args.log2 (c.loop-r.r + 1)
          c.args.block.now c.args.samples.now new) (sym c.put_row.ensures) put,
    )

pub returns : goal.returns
returns c = record {
  put = all_put c.args.side c.args.x c.args.y c.args.log2 c.loop-r.r c.args.block.now
      c.args.samples.now c.loop-r.samples (omega (arith, c.side_of-n.ensures.value))
      c.loop-r.invariant.1;
  count = c.loop-r.invariant.0;
}
