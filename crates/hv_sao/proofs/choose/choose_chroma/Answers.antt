use Rattle.std.proofs.Common.{◌≡◌, ◌+◌, [], ◌∷◌, refl, ◌∙◌, ap, arith}
use Rattle.hv_lemmas.specs.Lists.{tabulate}
use Rattle.hv_plan.specs.declared.offsets.SaoKind.TheVariants.{Off, Edge}
use Rattle.hv_filter_model.specs.Costs.{first_least}
use Rattle.hv_filter_model.specs.OffsetDecision.{Block, candidate, band_choice, edge_pair, chroma_cost}
use Rattle.hv_sao.specs.Decisions.{block_of, IsMeasured, IsCandidate, IsCountedByEdge}
use Rattle.hv_sao.specs.Prices.{off_pair, band_pair}
use Rattle.hv_sao.proofs.PriceLemmas.{pair_first, pair_more, pushed, tabulate_none, chroma_priced, made_is, IsPricedPairOf}
use Rattle.hv_sao.proofs.choose.choose_chroma.Goals as goal

pub edges-init : goal.edges-init
edges-init c =
    let cb : Block = block_of c.args.cb.deblocked.now c.args.cb.input.now c.args.cb.area in
    let cr : Block = block_of c.args.cr.deblocked.now c.args.cr.input.now c.args.cr.area in
    let cb_measured : IsMeasured cb c.squared_differences-cb_squares.result =
    record { bytes = c.args.cb.inside.bytes; squares = c.squared_differences-cb_squares.ensures.value } in
    let cr_measured : IsMeasured cr c.squared_differences-cr_squares.result =
    record { bytes = c.args.cr.inside.bytes; squares = c.squared_differences-cr_squares.ensures.value } in
    let cb_off : IsCandidate cb Off c.off_candidate.result = c.off_candidate.ensures cb cb_measured in
    let cr_off : IsCandidate cr Off c.off_candidate-2.result = c.off_candidate-2.ensures cr cr_measured in
    let off : IsPricedPairOf (chroma_cost c.args.qp cb cr) (off_pair cb cr) c.price_chroma-off.result =
    chroma_priced c.args.qp cb cr c.off_candidate.result c.off_candidate-2.result c.price_chroma-off.result (candidate cb Off) (candidate cr Off)
    (made_is cb Off c.off_candidate.result cb_off) (made_is cr Off c.off_candidate-2.result cr_off) cb_off.component cr_off.component
    c.price_chroma-off.ensures.cb c.price_chroma-off.ensures.cr c.price_chroma-off.ensures.cost in
    let band : IsPricedPairOf (chroma_cost c.args.qp cb cr) (band_pair c.args.qp cb cr) c.price_chroma.result =
    chroma_priced c.args.qp cb cr c.best_band-cb_band.result c.best_band-cr_band.result c.price_chroma.result (band_choice c.args.qp cb) (band_choice c.args.qp cr)
    c.best_band-cb_band.ensures.made c.best_band-cr_band.ensures.made c.best_band-cb_band.ensures.best c.best_band-cr_band.ensures.best
    c.price_chroma.ensures.cb c.price_chroma.ensures.cr c.price_chroma.ensures.cost in
    pair_more (chroma_cost c.args.qp cb cr) (off_pair cb cr) [] (band_pair c.args.qp cb cr ∷ tabulate 0 (edge_pair cb cr)) (band_pair c.args.qp cb cr)
    c.price_chroma-off.result c.price_chroma.result c.cheaper_pair-best.result
    (pair_first (chroma_cost c.args.qp cb cr) (off_pair cb cr) c.price_chroma-off.result off) band c.cheaper_pair-best.ensures
    (ap (λ t. band_pair c.args.qp cb cr ∷ t) (tabulate_none (edge_pair cb cr)))

pub edges-preserved : goal.edges-preserved
edges-preserved c =
    let cb : Block = block_of c.args.cb.deblocked.now c.args.cb.input.now c.args.cb.area in
    let cr : Block = block_of c.args.cr.deblocked.now c.args.cr.input.now c.args.cr.area in
    let cb_counted : IsCountedByEdge c.edges.class cb c.tally_edges.result c.squared_differences-cb_squares.result =
    record {
      counts = c.tally_edges.ensures.counts;
      measured = record { bytes = c.args.cb.inside.bytes; squares = c.squared_differences-cb_squares.ensures.value };
    } in
    let cr_counted : IsCountedByEdge c.edges.class cr c.tally_edges-in-edges.result c.squared_differences-cr_squares.result =
    record {
      counts = c.tally_edges-in-edges.ensures.counts;
      measured = record { bytes = c.args.cr.inside.bytes; squares = c.squared_differences-cr_squares.ensures.value };
    } in
    let cb_edge : IsCandidate cb (Edge c.edges.class) c.edge_candidate-cb_edge.result = c.edge_candidate-cb_edge.ensures cb cb_counted in
    let cr_edge : IsCandidate cr (Edge c.edges.class) c.edge_candidate-cr_edge.result = c.edge_candidate-cr_edge.ensures cr cr_counted in
    let edge : IsPricedPairOf (chroma_cost c.args.qp cb cr) (edge_pair cb cr c.edges.class) c.price_chroma-in-edges.result =
    chroma_priced c.args.qp cb cr c.edge_candidate-cb_edge.result c.edge_candidate-cr_edge.result c.price_chroma-in-edges.result
    (candidate cb (Edge c.edges.class)) (candidate cr (Edge c.edges.class))
    (made_is cb (Edge c.edges.class) c.edge_candidate-cb_edge.result cb_edge) (made_is cr (Edge c.edges.class) c.edge_candidate-cr_edge.result cr_edge)
    cb_edge.component cr_edge.component c.price_chroma-in-edges.ensures.cb c.price_chroma-in-edges.ensures.cr c.price_chroma-in-edges.ensures.cost in
    pair_more (chroma_cost c.args.qp cb cr) (off_pair cb cr) (band_pair c.args.qp cb cr ∷ tabulate c.edges.class (edge_pair cb cr))
    (band_pair c.args.qp cb cr ∷ tabulate (c.edges.class + 1) (edge_pair cb cr)) (edge_pair cb cr c.edges.class)
    c.edges.best c.price_chroma-in-edges.result c.cheaper_pair-best-in-edges.result c.edges.invariant edge c.cheaper_pair-best-in-edges.ensures
    (ap (λ t. band_pair c.args.qp cb cr ∷ t) (pushed c.edges.class (c.edges.class + 1) (edge_pair cb cr) refl))

pub returns : goal.returns
returns c =
    let cb : Block = block_of c.args.cb.deblocked.now c.args.cb.input.now c.args.cb.area in
    let cr : Block = block_of c.args.cr.deblocked.now c.args.cr.input.now c.args.cr.area in
    let end : c.edges.class ≡ 4 = omega arith in
    c.edges.invariant.best
    ∙ ap (λ n. first_least (chroma_cost c.args.qp cb cr) (off_pair cb cr) (band_pair c.args.qp cb cr ∷ tabulate n (edge_pair cb cr))) end
