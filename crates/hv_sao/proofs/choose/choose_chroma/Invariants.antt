use Rattle.std.proofs.Common.{◌∷◌}
use Rattle.hv_lemmas.specs.Lists.{tabulate}
use Rattle.hv_filter_model.specs.OffsetDecision.{edge_pair, chroma_cost}
use Rattle.hv_sao.specs.Decisions.{block_of}
use Rattle.hv_sao.specs.Prices.{IsBestPair, off_pair, band_pair}
use Rattle.hv_sao.proofs.choose.choose_chroma.Given as goal

abbrev pub invariant-edges : goal.invariant-edges
invariant-edges l =
    let cb = block_of l.cb.deblocked.now l.cb.input.now l.cb.area in
    let cr = block_of l.cr.deblocked.now l.cr.input.now l.cr.area in
    IsBestPair (chroma_cost l.qp cb cr) (off_pair cb cr) (band_pair l.qp cb cr ∷ tabulate l.class (edge_pair cb cr)) l.best
