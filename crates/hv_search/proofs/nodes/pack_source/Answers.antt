use Rattle.std.proofs.Common.{◌≡◌, ◌+◌, ◌*◌, ◌<◌, ℕ, take, drop, List, arith, ◌∙◌}
use Rattle.hv_search.specs.Nodes.{woven_rows}
use Rattle.hv_search.proofs.StoreLemmas.{below_more}
use Rattle.hv_search.proofs.WeaveLemmas.{woven_is}
use Rattle.hv_search.proofs.nodes.pack_source.Goals as goal

pub loop-pair-preserved : goal.loop-pair-preserved
loop-pair-preserved c =
    let p : ℕ = c.loop-place.place in
    let k : ℕ = c.loop-pair.pair in
    let s : List ℕ = c.args.source.now in
    let now : List ℕ = c.store.new.samples in (
      (λ z q h g. c.store.ensures.before (64 * z + 16 * q) 16 (omega arith) ∙ c.loop-pair.invariant.0 z q h g),
      below_more (λ q. take 16 (drop (64 * p + 16 * q) now) ≡ woven_rows s c.args.stride p q) k
          (λ q h. c.store.ensures.before (64 * p + 16 * q) 16 (omega arith) ∙ c.loop-pair.invariant.1 q h)
          (c.store.ensures.placed ∙ woven_is s c.args.stride p k _ _ _ c.woven_8-rows.result c.load.result c.load-in-loop-pair.result c.woven_8-rows.ensures c.load.ensures c.load-in-loop-pair.ensures
          (omega (arith, c.column_of-column.ensures.value)) (omega (arith, c.row_of-row.ensures.value)) (omega (arith, c.row_of-row.ensures.value))),
    )

pub loop-place-preserved : goal.loop-place-preserved
loop-place-preserved c = λ p q h g.
    below_more (λ p. (q : ℕ) → q < 4 → take 16 (drop (64 * p + 16 * q) c.loop-pair.packed) ≡ woven_rows c.args.source.now c.args.stride p q) c.loop-place.place
    (λ p h q g. c.loop-pair.invariant.0 p q h g) (λ q g. c.loop-pair.invariant.1 q (omega (arith, c.loop-pair-test.false))) p h q g
