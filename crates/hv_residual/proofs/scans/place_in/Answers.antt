use Rattle.std.proofs.Common.{arith}
use Rattle.hv_residual.proofs.ScanLemmas.{length_of_table, place_inside, below_8}
use Rattle.hv_residual.proofs.scans.place_in.Goals as goal

pub bounds-order-from : goal.bounds-order-from
bounds-order-from c =
    let n = length_of_table c.args.scan c.args.log2 c.order.result.now c.requires.log2
    c.order.ensures.order in
    omega (arith, n, c.from.ensures)

pub invariant_of-result : goal.invariant_of-result
invariant_of-result c =
    let n = length_of_table c.args.scan c.args.log2 c.order.result.now c.requires.log2
    c.order.ensures.order in
    let p = place_inside c.args.log2 c.order.result.now c.from.result c.order.ensures.inside
    (omega (arith, n, c.from.ensures)) in
    record {
      column = below_8 c.args.log2 _ c.requires.log2 p.0;
      row = below_8 c.args.log2 _ c.requires.log2 p.1;
    }
