use Rattle.std.proofs.Common.{◌≡◌, ◌+◌, ◌*◌, ℕ, take, drop, List, refl, arith, ◌∙◌, subst}
use Rattle.hv_search.specs.Nodes.{weave, piece}
use Rattle.hv_search.proofs.StoreLemmas.{below_more}
use Rattle.hv_search.proofs.WeaveLemmas.{row_more, square_in_row}
use Rattle.hv_search.proofs.nodes.pack_window.Goals as goal

pub loop-c-preserved : goal.loop-c-preserved
loop-c-preserved c =
    let y : ℕ = c.loop-y.y in
    let k : ℕ = c.loop-c.c in
    let r : List ℕ = c.args.reference.now in
    let first = c.requires.inside y (omega (arith, c.loop-y-test.true)) in
    let second = c.requires.inside (y + 1) (omega (arith, c.loop-y-test.true)) in (
      (λ z h. c.store.ensures.before (160 * z) 160 (omega arith) ∙ c.loop-c.invariant.0 z h),
      row_more r c.loop-c.window c.store.new.samples c.woven_16-row.result c.load.result c.load-in-loop-c.result (y * c.args.stride) ((y + 1) * c.args.stride) (16 * k) (16 * (k + 1)) (32 * k) (32 * (k + 1)) (160 * y)
          (omega arith) (omega arith) (c.store.ensures.joined (160 * y) (32 * k) refl) c.loop-c.invariant.1 c.woven_16-row.ensures c.load.ensures c.load-in-loop-c.ensures
          (omega (arith, first, c.loop-c-test.true)) (omega (arith, second, c.loop-c-test.true)),
    )

pub loop-y-preserved : goal.loop-y-preserved
loop-y-preserved c =
    let r : List ℕ = c.args.reference.now in
    let s : ℕ = c.args.stride in
    let e : c.loop-c.c ≡ 5 = omega (arith, c.loop-c-test.false, c.loop-c.auto.c-end) in
    below_more (λ y. take 160 (drop (160 * y) c.loop-c.window) ≡ weave (piece r s 0 y 80) (piece r s 0 (y + 1) 80)) c.loop-y.y c.loop-c.invariant.0
    (subst (λ k. take (32 * k) (drop (160 * c.loop-y.y) c.loop-c.window) ≡ weave (piece r s 0 c.loop-y.y (16 * k)) (piece r s 0 (c.loop-y.y + 1) (16 * k))) e c.loop-c.invariant.1)

pub returns : goal.returns
returns c = λ y x h k.
    square_in_row c.args.reference.now c.loop-y.window (y * c.args.stride) ((y + 1) * c.args.stride) (160 * y) x k (c.requires.inside y (omega arith)) (c.requires.inside (y + 1) (omega arith)) (c.loop-y.invariant y (omega (arith, c.loop-y-test.false)))
