use Rattle.std.proofs.Common.{ℕ, ◌*◌, ◌/◌, length, arith}
use Rattle.hv_sao.specs.Rows.{edge_sample}
use Rattle.hv_sao.proofs.RowLemmas.{part_not_begun, less_begun, part_whole}
use Rattle.hv_sao.proofs.rows.put_edges.Goals as goal

pub returns-then-whole-count : goal.returns-then-whole-count
returns-then-whole-count c =
    let n : ℕ = length c.args.row.samples.now in
    let f : ℕ → ℕ = edge_sample c.args.component c.args.row.samples.now c.args.row.first.now c.args.row.second.now in
    part_whole c.args.lead n n f c.args.out.now c.put_edges_between-then-whole-count.new.out
    (c.put_edges_between-then-whole-count.ensures c.args.out.now
    (less_begun c.args.lead (n / 16 * 16) c.saturating_sub-again.result n f c.args.out.now c.put_edges_between.new.out
    (c.put_edges_between.ensures c.args.out.now (part_not_begun c.args.lead n f c.args.out.now))
    (omega (arith, c.saturating_sub-again.ensures))))
    (omega arith)

pub returns-else-whole-count : goal.returns-else-whole-count
returns-else-whole-count c =
    let n : ℕ = length c.args.row.samples.now in
    let f : ℕ → ℕ = edge_sample c.args.component c.args.row.samples.now c.args.row.first.now c.args.row.second.now in
    part_whole c.args.lead (n / 16 * 16) n f c.args.out.now c.put_edges_between.new.out
    (c.put_edges_between.ensures c.args.out.now (part_not_begun c.args.lead n f c.args.out.now))
    (omega arith)
