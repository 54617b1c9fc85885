use Rattle.std.proofs.Common.{◌≡◌, ℕ, ◌+◌, ◌++◌, [], ◌∷◌, refl, sym, ◌∙◌, ap, subst, append_assoc, append-nil, arith}
use Rattle.hv_lemmas.specs.Lists.{tabulate}
use Rattle.hv_plan.specs.declared.offsets.SaoComponent.{SaoComponent}
use Rattle.hv_plan.specs.declared.offsets.SaoKind.TheVariants.{Off, Band, Edge}
use Rattle.hv_filter_model.specs.Costs.{first_least}
use Rattle.hv_filter_model.specs.OffsetDecision.{Block, candidate}
use Rattle.hv_sao.specs.Decisions.{block_of, IsMeasured, IsCounted, IsCountedByEdge}
use Rattle.hv_sao.specs.Prices.{luma_cost, IsBest}
use Rattle.hv_sao.proofs.PriceLemmas.{best_first, best_more, pushed, tabulate_none, luma_priced, IsPricedOf}
use Rattle.hv_sao.proofs.choose.choose_luma.Goals as goal

pub bands-init : goal.bands-init
bands-init c =
    let b : Block = block_of c.args.block.deblocked.now c.args.block.input.now c.args.block.area in
    let measured : IsMeasured b c.squared_differences-squares.result =
    record { bytes = c.args.block.inside.bytes; squares = c.squared_differences-squares.ensures.value } in
    let priced : IsPricedOf b (luma_cost c.args.qp b) (candidate b Off) c.price_luma-best.result =
    luma_priced c.args.qp b Off c.off_candidate.result c.price_luma-best.result (c.off_candidate.ensures b measured)
    c.price_luma-best.ensures.candidate c.price_luma-best.ensures.cost in
    subst (λ xs. IsBest b (luma_cost c.args.qp b) (candidate b Off) xs c.price_luma-best.result) (sym (tabulate_none (λ p. candidate b (Band p))))
    (best_first b (luma_cost c.args.qp b) (candidate b Off) c.price_luma-best.result priced.component priced.cost priced.made)

pub bands-preserved : goal.bands-preserved
bands-preserved c =
    let b : Block = block_of c.args.block.deblocked.now c.args.block.input.now c.args.block.area in
    let F : ℕ → SaoComponent = λ p. candidate b (Band p) in
    let counted : IsCounted b c.tally_values.result c.squared_differences-squares.result =
    record {
      counts = c.tally_values.ensures.counts;
      measured = record { bytes = c.args.block.inside.bytes; squares = c.squared_differences-squares.ensures.value };
    } in
    let priced : IsPricedOf b (luma_cost c.args.qp b) (F c.bands.position) c.price_luma.result =
    luma_priced c.args.qp b (Band c.bands.position) c.band_candidate.result c.price_luma.result (c.band_candidate.ensures b (c.band_offsets-bands.ensures.value b c.squared_differences-squares.result counted) counted.measured)
    c.price_luma.ensures.candidate c.price_luma.ensures.cost in
    best_more b (luma_cost c.args.qp b) (candidate b Off) (tabulate c.bands.position F) (tabulate (c.bands.position + 1) F) (F c.bands.position)
    c.bands.best c.price_luma.result c.cheaper-best.result c.bands.invariant priced.component priced.cost priced.made c.cheaper-best.ensures
    (pushed c.bands.position (c.bands.position + 1) F refl)

pub edges-init : goal.edges-init
edges-init c =
    let b : Block = block_of c.args.block.deblocked.now c.args.block.input.now c.args.block.area in
    let F : ℕ → SaoComponent = λ p. candidate b (Band p) in
    let G : ℕ → SaoComponent = λ k. candidate b (Edge k) in
    let end : c.bands.position ≡ 29 = omega arith in
    subst (λ xs. IsBest b (luma_cost c.args.qp b) (candidate b Off) xs c.bands.best)
    (ap (λ n. tabulate n F) end ∙ sym (ap (λ t. tabulate 29 F ++ t) (tabulate_none G) ∙ append-nil (tabulate 29 F)))
    c.bands.invariant

pub edges-preserved : goal.edges-preserved
edges-preserved c =
    let b : Block = block_of c.args.block.deblocked.now c.args.block.input.now c.args.block.area in
    let F : ℕ → SaoComponent = λ p. candidate b (Band p) in
    let G : ℕ → SaoComponent = λ k. candidate b (Edge k) in
    let counted : IsCountedByEdge c.edges.class b c.tally_edges-tallies.result c.squared_differences-squares.result =
    record {
      counts = c.tally_edges-tallies.ensures.counts;
      measured = record { bytes = c.args.block.inside.bytes; squares = c.squared_differences-squares.ensures.value };
    } in
    let priced : IsPricedOf b (luma_cost c.args.qp b) (G c.edges.class) c.price_luma-in-edges.result =
    luma_priced c.args.qp b (Edge c.edges.class) c.edge_candidate.result c.price_luma-in-edges.result (c.edge_candidate.ensures b counted)
    c.price_luma-in-edges.ensures.candidate c.price_luma-in-edges.ensures.cost in
    best_more b (luma_cost c.args.qp b) (candidate b Off) (tabulate 29 F ++ tabulate c.edges.class G) (tabulate 29 F ++ tabulate (c.edges.class + 1) G)
    (G c.edges.class) c.edges.best c.price_luma-in-edges.result c.cheaper-best-in-edges.result c.edges.invariant priced.component priced.cost priced.made
    c.cheaper-best-in-edges.ensures
    (ap (λ t. tabulate 29 F ++ t) (pushed c.edges.class (c.edges.class + 1) G refl)
    ∙ sym (append_assoc (tabulate 29 F) (tabulate c.edges.class G) (G c.edges.class ∷ [])))

pub returns : goal.returns
returns c =
    let b : Block = block_of c.args.block.deblocked.now c.args.block.input.now c.args.block.area in
    let F : ℕ → SaoComponent = λ p. candidate b (Band p) in
    let G : ℕ → SaoComponent = λ k. candidate b (Edge k) in
    let end : c.edges.class ≡ 4 = omega arith in
    c.edges.invariant.best
    ∙ ap (λ n. first_least (luma_cost c.args.qp b) (candidate b Off) (tabulate 29 F ++ tabulate n G)) end
