use Rattle.std.proofs.Common.{◌≡◌, ◌+◌, ◌/◌, ◌%◌, ℕ, min, sym, ◌∙◌, ap, ap₂, subst, arith}
use Rattle.hv_plan.specs.declared.offsets.SaoComponent.{SaoComponent}
use Rattle.hv_plan.specs.declared.offsets.SaoParam.{SaoParam}
use Rattle.hv_filter_model.specs.Blocks.{luma_side, chroma_side, blocks_over}
use Rattle.hv_filter_model.specs.SampleAdaptiveOffset.{IsValidComponent}
use Rattle.hv_filter_model.specs.OffsetDecision.{Chroma, block_of as numbered_block, luma_choice, chroma_choice}
use Rattle.hv_sao.specs.Decisions.{block_of}
use Rattle.hv_sao.specs.Prices.{pair_of}
use Rattle.hv_sao.proofs.AreaLemmas.{block_is}
use Rattle.hv_sao.proofs.ValidityLemmas.{luma_valid, chroma_valid, IsValidPair}
use Rattle.hv_sao.proofs.choose.choose_sao.Goals as goal

pub returns-clause-value : goal.returns-clause-value
returns-clause-value c =
    let count : ℕ = blocks_over luma_side c.args.place.width in
    let is : c.div_ceil-across.result ≡ c.args.place.width / 64 + min 1 (c.args.place.width % 64) = c.div_ceil-across.ensures in
    let across : c.div_ceil-across.result ≡ count = omega (arith, is) in
    let luma : block_of c.of-luma.result.deblocked.now c.of-luma.result.input.now c.of-luma.result.area ≡
    numbered_block luma_side count c.args.place.index c.args.deblocked.now.luma c.args.input.now.luma =
    block_is c.of-luma.result.deblocked.now c.of-luma.result.input.now c.args.deblocked.now.luma c.args.input.now.luma c.of-luma.result.area
    luma_side c.div_ceil-across.result count c.args.place.index c.of-luma.ensures.deblocked c.of-luma.ensures.input c.of-luma.ensures.area across in
    let cb : block_of c.of-cb.result.deblocked.now c.of-cb.result.input.now c.of-cb.result.area ≡
    numbered_block chroma_side count c.args.place.index c.args.deblocked.now.cb c.args.input.now.cb =
    block_is c.of-cb.result.deblocked.now c.of-cb.result.input.now c.args.deblocked.now.cb c.args.input.now.cb c.of-cb.result.area
    chroma_side c.div_ceil-across.result count c.args.place.index c.of-cb.ensures.deblocked c.of-cb.ensures.input c.of-cb.ensures.area across in
    let cr : block_of c.of-cr.result.deblocked.now c.of-cr.result.input.now c.of-cr.result.area ≡
    numbered_block chroma_side count c.args.place.index c.args.deblocked.now.cr c.args.input.now.cr =
    block_is c.of-cr.result.deblocked.now c.of-cr.result.input.now c.args.deblocked.now.cr c.args.input.now.cr c.of-cr.result.area
    chroma_side c.div_ceil-across.result count c.args.place.index c.of-cr.ensures.deblocked c.of-cr.ensures.input c.of-cr.ensures.area across in
    let pair : pair_of c.choose_chroma-chroma.result ≡
    chroma_choice c.args.qp (numbered_block chroma_side count c.args.place.index c.args.deblocked.now.cb c.args.input.now.cb)
    (numbered_block chroma_side count c.args.place.index c.args.deblocked.now.cr c.args.input.now.cr) =
    c.choose_chroma-chroma.ensures ∙ ap₂ (λ b d. chroma_choice c.args.qp b d) cb cr in
    let made : SaoComponent → Chroma → SaoParam = λ y p. record { luma = y; cb = p.cb; cr = p.cr } in
    ap₂ made (c.choose_luma.ensures ∙ ap (λ b. luma_choice c.args.qp b) luma) pair

pub returns-clause-valid : goal.returns-clause-valid
returns-clause-valid c =
    let pair : IsValidPair (pair_of c.choose_chroma-chroma.result) =
    subst (λ p. IsValidPair p) (sym c.choose_chroma-chroma.ensures)
    (chroma_valid c.args.qp (block_of c.of-cb.result.deblocked.now c.of-cb.result.input.now c.of-cb.result.area)
    (block_of c.of-cr.result.deblocked.now c.of-cr.result.input.now c.of-cr.result.area)) in
    record {
      luma = subst (λ y. IsValidComponent y) (sym c.choose_luma.ensures)
          (luma_valid c.args.qp (block_of c.of-luma.result.deblocked.now c.of-luma.result.input.now c.of-luma.result.area));
      cb = pair.cb;
      cr = pair.cr;
      chroma = pair.kinds;
    }
