use Rattle.std.proofs.Common.{◌≡◌, ℕ, ◌+◌, refl, sym, ◌∙◌, ap, subst, arith}
use Rattle.hv_lemmas.specs.Lists.{tabulate}
use Rattle.hv_plan.specs.declared.offsets.SaoComponent.{SaoComponent}
use Rattle.hv_plan.specs.declared.offsets.SaoKind.TheVariants.{Band}
use Rattle.hv_filter_model.specs.Costs.{first_least}
use Rattle.hv_filter_model.specs.OffsetDecision.{Block, candidate}
use Rattle.hv_sao.specs.Decisions.{block_of, IsCounted}
use Rattle.hv_sao.specs.Prices.{own_cost, IsBest}
use Rattle.hv_sao.proofs.PriceLemmas.{best_first, best_more, pushed, tabulate_none, own_priced, IsPricedOf}
use Rattle.hv_sao.proofs.choose.best_band.Goals as goal

pub bands-init : goal.bands-init
bands-init c =
    let b : Block = block_of c.args.block.deblocked.now c.args.block.input.now c.args.block.area in
    let counted : IsCounted b c.tally_values.result c.args.squares =
    record { counts = c.tally_values.ensures.counts; measured = c.requires.squares } in
    let priced : IsPricedOf b (own_cost c.args.qp b) (candidate b (Band 0)) c.price_alone-best.result =
    own_priced c.args.qp b (Band 0) c.band_candidate.result c.price_alone-best.result (c.band_candidate.ensures b (c.band_offsets-bands.ensures.value b c.args.squares counted) counted.measured)
    c.price_alone-best.ensures.candidate c.price_alone-best.ensures.cost in
    subst (λ xs. IsBest b (own_cost c.args.qp b) (candidate b (Band 0)) xs c.price_alone-best.result)
    (sym (tabulate_none (λ i. candidate b (Band (i + 1)))))
    (best_first b (own_cost c.args.qp b) (candidate b (Band 0)) c.price_alone-best.result priced.component priced.cost priced.made)

pub bands-preserved : goal.bands-preserved
bands-preserved c =
    let b : Block = block_of c.args.block.deblocked.now c.args.block.input.now c.args.block.area in
    let F : ℕ → SaoComponent = λ i. candidate b (Band (i + 1)) in
    let counted : IsCounted b c.tally_values.result c.args.squares =
    record { counts = c.tally_values.ensures.counts; measured = c.requires.squares } in
    let priced : IsPricedOf b (own_cost c.args.qp b) (F c.bands.i) c.price_alone.result =
    own_priced c.args.qp b (Band (c.bands.i + 1)) c.band_candidate-in-bands.result c.price_alone.result (c.band_candidate-in-bands.ensures b (c.band_offsets-bands.ensures.value b c.args.squares counted) counted.measured)
    c.price_alone.ensures.candidate c.price_alone.ensures.cost in
    best_more b (own_cost c.args.qp b) (candidate b (Band 0)) (tabulate c.bands.i F) (tabulate (c.bands.i + 1) F) (F c.bands.i)
    c.bands.best c.price_alone.result c.cheaper-best.result c.bands.invariant priced.component priced.cost priced.made c.cheaper-best.ensures
    (pushed c.bands.i (c.bands.i + 1) F refl)

pub returns : goal.returns
returns c =
    let b : Block = block_of c.args.block.deblocked.now c.args.block.input.now c.args.block.area in
    let F : ℕ → SaoComponent = λ i. candidate b (Band (i + 1)) in
    let end : c.bands.i ≡ 28 = omega arith in
    record {
      made = c.bands.invariant.made;
      best = c.bands.invariant.best
          ∙ ap (λ n. first_least (own_cost c.args.qp b) (candidate b (Band 0)) (tabulate n F)) end;
    }
