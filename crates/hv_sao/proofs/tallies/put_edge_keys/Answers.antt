use Rattle.std.proofs.Common.{◌+◌, ◌∙◌, arith, ap, refl, get_or}
use Rattle.hv_sao.specs.Decisions.{edge_key}
use Rattle.hv_sao.proofs.AddLemmas.{keys_more}
use Rattle.hv_sao.proofs.tallies.put_edge_keys.Goals as goal

pub loop-i-preserved : goal.loop-i-preserved
loop-i-preserved c =
    keys_more c.loop-i.i (c.loop-i.i + 1) c.edge_key.result c.args.row.samples.now c.args.row.first.now c.args.row.second.now c.loop-i.keys
    c.loop-i.invariant refl (omega arith)
    (c.edge_key.ensures.value ∙ ap (λ k. edge_key k (get_or c.args.row.samples.now c.loop-i.i 0)) c.edge_category-category.ensures.value)
    c.edge_key.ensures.most
