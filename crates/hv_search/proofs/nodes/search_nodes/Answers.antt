use Rattle.std.proofs.Common.{◌≡◌, ◌+◌, ◌*◌, ◌/◌, ◌%◌, ◌<◌, ◌≤◌, ℕ, get_or, List, arith, sym, ap, ap₂, ◌∙◌}
use Rattle.hv_search.specs.Nodes.{least_of, key_at, score_at, square_sad, node_sad, column_at, row_at}
use Rattle.hv_search.proofs.LeastKeyLemmas.{least_of_none, least_key_shows, key_step}
use Rattle.hv_search.proofs.NodeLemmas.{woven_is_square, inside_64, sixteen_is, thirty_two_is, sixty_four_is, small_at_8, small_at_16, small_at_32, small_at_64}
use Rattle.hv_search.proofs.nodes.search_nodes.Goals as goal

pub loop-dy-init : goal.loop-dy-init
loop-dy-init c = (
  (λ p h. c.fresh_keys.ensures.eights p h ∙ sym (least_of_none 4294967295 _)),
  (λ p h. c.fresh_keys.ensures.sixteens p h ∙ sym (least_of_none 4294967295 _)),
  (λ p h. c.fresh_keys.ensures.thirty_twos p h ∙ sym (least_of_none 4294967295 _)),
  c.fresh_keys.ensures.whole ∙ sym (least_of_none 4294967295 _),
)

-- place 17 dy + dx is displacement (dx, dy)
at_place : (s r : List ℕ) (stride p side dx dy : ℕ) → dx < 17 → node_sad s r stride (8 * column_at p) (8 * row_at p) side dx dy ≡ score_at s r stride p side (17 * dy + dx)
at_place s r stride p side dx dy h =
    let e : dx ≡ (17 * dy + dx) % 17 = omega arith in
    let f : dy ≡ (17 * dy + dx) / 17 = omega arith in
    ap₂ (λ x y. node_sad s r stride (8 * column_at p) (8 * row_at p) side x y) e f

pub loop-dx-preserved : goal.loop-dx-preserved
loop-dx-preserved c =
    let s : List ℕ = c.args.source.now in
    let r : List ℕ = c.args.reference.now in
    let stride : ℕ = c.args.stride in
    let dx : ℕ = c.loop-dx.dx in
    let dy : ℕ = c.loop-dy.dy in
    let t : ℕ = 17 * dy + dx in
    let hx : dx < 17 = c.loop-dx-test.true in
    let hy : dy < 17 = c.loop-dy-test.true in
    let hs = c.requires.first in
    let hr = c.requires.second in
    let sums : List ℕ = c.sums_of_row.new.sums in
    let value : (p : ℕ) → p < 64 → get_or sums (64 * dx + p) 0 ≡ square_sad s r stride dx dy p = λ p h.
    c.sums_of_row.ensures.value p dx h hx ∙ woven_is_square s r c.pack_source.new.packed c.pack_window.new.window stride p dx dy hs hr c.pack_source.ensures c.pack_window.ensures h hx hy (inside_64 p h).0 (inside_64 p h).1 in
    let k = c.keep_least.ensures in
    let n = c.number_of.ensures.value in (
      (λ p h. key_step (score_at s r stride p 8) t (17 * dy + (dx + 1)) _ _ _ _ (omega arith) (k.eights p h) (c.loop-dx.invariant.0 p h) (value p h ∙ at_place s r stride p 8 dx dy hx) n),
      (λ p h. key_step (score_at s r stride p 16) t (17 * dy + (dx + 1)) _ _ _ _ (omega arith) (k.sixteens p h) (c.loop-dx.invariant.1 p h) (sixteen_is s r sums stride (64 * dx) dx dy hs hr hx hy value p h ∙ at_place s r stride p 16 dx dy hx) n),
      (λ p h. key_step (score_at s r stride p 32) t (17 * dy + (dx + 1)) _ _ _ _ (omega arith) (k.thirty_twos p h) (c.loop-dx.invariant.2 p h) (thirty_two_is s r sums stride (64 * dx) dx dy hs hr hx hy value p h ∙ at_place s r stride p 32 dx dy hx) n),
      key_step (score_at s r stride 0 64) t (17 * dy + (dx + 1)) _ _ _ _ (omega arith) k.whole c.loop-dx.invariant.3 (sixty_four_is s r sums stride (64 * dx) dx dy hs hr hx hy value ∙ at_place s r stride 0 64 dx dy hx) n,
    )

done : (dy : ℕ) → 17 ≤ dy → dy ≤ 17 → 17 * dy ≡ 289
done dy h k = omega arith

pub returns-clause-eights : goal.returns-clause-eights
returns-clause-eights c = λ p h.
    let s : List ℕ = c.args.source.now in
    let r : List ℕ = c.args.reference.now in
    let score : ℕ → ℕ = score_at s r c.args.stride p 8 in
    least_key_shows score (small_at_8 s r c.args.stride (λ k. c.type_inv.source k) (λ k. c.type_inv.reference k) c.requires.first c.requires.second p h) _ (c.loop-dy.invariant.0 p h ∙ ap (least_of 4294967295 (key_at score)) (done c.loop-dy.dy c.loop-dy-test.false c.loop-dy.auto.dy-end))

pub returns-clause-sixteens : goal.returns-clause-sixteens
returns-clause-sixteens c = λ p h.
    let s : List ℕ = c.args.source.now in
    let r : List ℕ = c.args.reference.now in
    let score : ℕ → ℕ = score_at s r c.args.stride p 16 in
    least_key_shows score (small_at_16 s r c.args.stride (λ k. c.type_inv.source k) (λ k. c.type_inv.reference k) c.requires.first c.requires.second p h) _ (c.loop-dy.invariant.1 p h ∙ ap (least_of 4294967295 (key_at score)) (done c.loop-dy.dy c.loop-dy-test.false c.loop-dy.auto.dy-end))

pub returns-clause-thirty_twos : goal.returns-clause-thirty_twos
returns-clause-thirty_twos c = λ p h.
    let s : List ℕ = c.args.source.now in
    let r : List ℕ = c.args.reference.now in
    let score : ℕ → ℕ = score_at s r c.args.stride p 32 in
    least_key_shows score (small_at_32 s r c.args.stride (λ k. c.type_inv.source k) (λ k. c.type_inv.reference k) c.requires.first c.requires.second p h) _ (c.loop-dy.invariant.2 p h ∙ ap (least_of 4294967295 (key_at score)) (done c.loop-dy.dy c.loop-dy-test.false c.loop-dy.auto.dy-end))

pub returns-clause-whole : goal.returns-clause-whole
returns-clause-whole c =
    let s : List ℕ = c.args.source.now in
    let r : List ℕ = c.args.reference.now in
    let score : ℕ → ℕ = score_at s r c.args.stride 0 64 in
    least_key_shows score (small_at_64 s r c.args.stride (λ k. c.type_inv.source k) (λ k. c.type_inv.reference k) c.requires.first c.requires.second) _ (c.loop-dy.invariant.3 ∙ ap (least_of 4294967295 (key_at score)) (done c.loop-dy.dy c.loop-dy-test.false c.loop-dy.auto.dy-end))
