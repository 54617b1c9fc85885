use Rattle.std.proofs.Common.{ℕ, length, pos, ◌+ℤ◌, ◌+◌, ◌≡◌, ◌∙◌, ap, refl, subst, get_or, arith}
use Rattle.hv_lemmas.specs.Clipping.{clip1}
use Rattle.hv_filter_model.specs.SampleAdaptiveOffset.{SaoOffsetVal}
use Rattle.hv_sao.specs.Rows.{BeginsPart, edge_sample}
use Rattle.hv_sao.proofs.RowLemmas.{part_begun}
use Rattle.hv_sao.proofs.rows.put_edges_between.Goals as goal

pub loop-i-init : goal.loop-i-init
loop-i-init c = λ base h. h

pub loop-i-preserved : goal.loop-i-preserved
loop-i-preserved c = λ base h.
    let s : ℕ = get_or c.args.row.samples.now c.loop-i.i 0 in
    part_begun c.args.lead c.loop-i.i (c.loop-i.i + 1) (length c.args.row.samples.now) c.shown_sample.result
    (edge_sample c.args.component c.args.row.samples.now c.args.row.first.now c.args.row.second.now) base c.loop-i.out
    (c.loop-i.invariant base h) refl (omega arith) (omega arith)
    (c.shown_sample.ensures
    ∙ ap (λ k. clip1 (pos s +ℤ SaoOffsetVal c.args.component k)) c.edge_category-category.ensures.value)

pub returns : goal.returns
returns c = λ base h.
    let end : c.loop-i.i ≡ c.args.to = omega arith in
    subst
    (λ n.
    BeginsPart c.args.lead n (length c.args.row.samples.now)
    (edge_sample c.args.component c.args.row.samples.now c.args.row.first.now c.args.row.second.now) base c.loop-i.out)
    end (c.loop-i.invariant base h)
