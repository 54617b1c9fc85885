use Rattle.std.proofs.Common.{◌≡◌, ℕ, ◌+◌, ◌*◌, ◌^◌, ◌-◌, ◌/◌, ◌%◌, ◌<◌, ◌≤◌, ◌++◌, slice_set, arith, length-set, refl, ap, ap₂, sym, ◌∙◌, take}
use Rattle.std.specs.Prelude.{Option}
use Rattle.std.proofs.lemmas.List.{append-nil}
use Rattle.hv_lemmas.specs.Lists.{tabulate}
use Rattle.hv_recon_model.specs.SeenSamples.{Spot, SamplesAround, look_around}
use Rattle.hv_recon.specs.Views.{spot_of, around_of}
use Rattle.hv_recon.proofs.FilledLineLemmas.{left_at, above_at, none_filled, none_behind, filled_next, filled_further, whole_squares, twice_whole, few_squares, run_ends, place_down, place_along}
use Rattle.hv_recon.proofs.around.View.line_by_squares.Goals as goal

-- twice a side is so many squares
squares_of : (log2 side square samples : ℕ) → side ≡ 2 ^ log2 → samples ≡ 8 * square →
    4 ≤ side → side ≤ samples → 2 ^ log2 % square ≡ 0 →
    (0 < square) × (2 * side ≡ 2 * side / square * square)
squares_of log2 side square samples value squares some inside whole =
    let positive : 0 < square = omega (arith, squares, some, inside) in
    (positive, twice_whole side square positive (ap (λ n. n % square) value ∙ whole))

pub loop-p-init : goal.loop-p-init
loop-p-init g c = (
  refl,
  none_filled
      (left_at (spot_of c.args.self.now) (around_of c.args.self.now.around) c.args.own.now
      c.args.address c.args.x c.args.y c.args.log2) _ (0 * g.row.SQUARE) (omega arith),
)

pub down_column-run-requires-clause-down : goal.down_column-run-requires-clause-down
down_column-run-requires-clause-down g c =
    let value = c.side_of-n.ensures.value in
    let all =
    squares_of c.args.log2 c.side_of-n.result g.row.SQUARE c.args.self.now.side value
    c.requires.square c.side_of-n.ensures.some (omega (arith, value, c.requires.down))
    c.requires.squares in
    let rows = whole_squares c.args.y g.row.SQUARE c.requires.row in
    let few =
    few_squares (c.args.y / g.row.SQUARE) (2 * c.side_of-n.result / g.row.SQUARE) g.row.SQUARE all.0
    (omega (arith, all.1, rows, value, c.requires.down, c.requires.square)) in
    omega (arith, few, c.loop-p-test.true)

pub along_row-run-requires-clause-across : goal.along_row-run-requires-clause-across
along_row-run-requires-clause-across g c =
    let value = c.side_of-n.ensures.value in
    let all =
    squares_of c.args.log2 c.side_of-n.result g.row.SQUARE c.args.self.now.side value
    c.requires.square c.side_of-n.ensures.some (omega (arith, value, c.requires.down))
    c.requires.squares in
    let columns = whole_squares c.args.x g.row.SQUARE c.requires.column in
    let few =
    few_squares (c.args.x / g.row.SQUARE) (2 * c.side_of-n.result / g.row.SQUARE) g.row.SQUARE all.0
    (omega (arith, all.1, columns, value, c.requires.across, c.requires.square)) in
    omega (arith, few, c.loop-q-test.true)

pub loop-i-preserved : goal.loop-i-preserved
loop-i-preserved g c =
    let v = c.args.self.now in
    let s : Spot = spot_of v in
    let around : SamplesAround = around_of v.around in
    let square : ℕ = g.row.SQUARE in
    let n : ℕ = 2 * c.side_of-n.result in
    let at : ℕ = c.loop-p.p * square + c.loop-i.i in
    let value = c.side_of-n.ensures.value in
    let all =
    squares_of c.args.log2 c.side_of-n.result square v.side value c.requires.square
    c.side_of-n.ensures.some (omega (arith, value, c.requires.down)) c.requires.squares in
    let ends =
    run_ends c.loop-p.p c.loop-i.i (n / square) square n c.loop-p-test.true c.loop-i-test.true
    all.1 in
    let place =
    place_down v.side c.args.y n (c.args.y / square) (n / square) c.loop-p.p c.loop-i.i square
    (whole_squares c.args.y square c.requires.row) all.1 c.loop-p-test.true c.loop-i-test.true in
    let same : n ≡ 2 * 2 ^ c.args.log2 = omega (arith, value) in
    let look : ℕ → Option ℕ =
    look_around s around c.args.own.now c.args.address (v.side + c.args.x - 1) in (
      length-set c.loop-i.line at _ ∙ c.loop-i.invariant.0,
      filled_next
          (left_at s around c.args.own.now c.args.address c.args.x c.args.y c.args.log2)
          c.loop-i.line at _ c.at.result (omega arith)
          (omega (arith, ends, c.loop-i.invariant.0, c.side_of-n.ensures.few))
          c.loop-i.invariant.1
          (c.at.ensures ∙
          sym (c.down_column-run.ensures (square - 1 - c.loop-i.i)
          (omega (arith, c.loop-i-test.true))) ∙ ap look place ∙
          ap (λ m. look (v.side + c.args.y + (m - at) - 1)) same),
    )

pub loop-q-init : goal.loop-q-init
loop-q-init g c =
    let v = c.args.self.now in
    let s : Spot = spot_of v in
    let around : SamplesAround = around_of v.around in
    let square : ℕ = g.row.SQUARE in
    let n : ℕ = 2 * c.side_of-n.result in
    let value = c.side_of-n.ensures.value in
    let f : ℕ → Option ℕ =
    left_at s around c.args.own.now c.args.address c.args.x c.args.y c.args.log2 in
    let all =
    squares_of c.args.log2 c.side_of-n.result square v.side value c.requires.square
    c.side_of-n.ensures.some (omega (arith, value, c.requires.down)) c.requires.squares in
    let count : c.loop-p.p ≡ n / square = omega arith in
    let filled : c.loop-p.p * square ≡ n = ap (λ p. p * square) count ∙ sym all.1 in
    let corner : v.side + c.args.y - 1 ≡ v.side + c.args.y + (2 * 2 ^ c.args.log2 - n) - 1 =
    omega (arith, value) in
    let list = slice_set c.loop-p.line n c.look.result in (
      length-set c.loop-p.line n _ ∙ c.loop-p.invariant.0,
      ap (λ k. take k list) (let end : n + 1 + 0 * square ≡ n + 1 = omega arith in end) ∙
          filled_next f c.loop-p.line n (n + 1) c.look.result refl
          (omega (arith, c.loop-p.invariant.0, c.side_of-n.ensures.few))
          (ap (λ k. take k c.loop-p.line) (sym filled) ∙ c.loop-p.invariant.1 ∙
          ap (λ k. tabulate k f) filled)
          (c.look.ensures ∙
          ap (look_around s around c.args.own.now c.args.address (v.side + c.args.x - 1)) corner) ∙
          sym (append-nil (tabulate (n + 1) f)) ∙
          ap (λ t. tabulate (n + 1) f ++ t)
          (none_behind (above_at s around c.args.own.now c.args.address c.args.x c.args.y)
          (0 * square) (omega arith)),
    )

pub loop-k-preserved : goal.loop-k-preserved
loop-k-preserved g c =
    let v = c.args.self.now in
    let s : Spot = spot_of v in
    let around : SamplesAround = around_of v.around in
    let square : ℕ = g.row.SQUARE in
    let n : ℕ = 2 * c.side_of-n.result in
    let at : ℕ = c.loop-q.q * square + c.loop-k.k in
    let value = c.side_of-n.ensures.value in
    let all =
    squares_of c.args.log2 c.side_of-n.result square v.side value c.requires.square
    c.side_of-n.ensures.some (omega (arith, value, c.requires.down)) c.requires.squares in
    let ends =
    run_ends c.loop-q.q c.loop-k.k (n / square) square n c.loop-q-test.true c.loop-k-test.true
    all.1 in
    let place =
    place_along v.side c.args.x (c.args.x / square) c.loop-q.q c.loop-k.k square
    (whole_squares c.args.x square c.requires.column) in (
      length-set c.loop-k.line (n + 1 + c.loop-q.q * square + c.loop-k.k) _ ∙
          c.loop-k.invariant.0,
      filled_further (above_at s around c.args.own.now c.args.address c.args.x c.args.y)
          (tabulate (n + 1)
          (left_at s around c.args.own.now c.args.address c.args.x c.args.y c.args.log2))
          c.loop-k.line (n + 1) at (n + 1 + c.loop-q.q * square + c.loop-k.k)
          (n + 1 + (c.loop-q.q * square + (c.loop-k.k + 1)))
          (c.loop-q.q * square + (c.loop-k.k + 1)) c.at-in-loop-k.result
          (omega arith) (omega arith) (omega arith)
          (omega (arith, ends, c.loop-k.invariant.0, c.side_of-n.ensures.few))
          c.loop-k.invariant.1
          (c.at-in-loop-k.ensures ∙
          sym (c.along_row-run.ensures c.loop-k.k c.loop-k-test.true) ∙
          ap (λ x. look_around s around c.args.own.now c.args.address x (v.side + c.args.y - 1))
          place),
    )

pub returns : goal.returns
returns g c =
    let v = c.args.self.now in
    let s : Spot = spot_of v in
    let around : SamplesAround = around_of v.around in
    let square : ℕ = g.row.SQUARE in
    let n : ℕ = 2 * c.side_of-n.result in
    let value = c.side_of-n.ensures.value in
    let f : ℕ → Option ℕ =
    left_at s around c.args.own.now c.args.address c.args.x c.args.y c.args.log2 in
    let h : ℕ → Option ℕ = above_at s around c.args.own.now c.args.address c.args.x c.args.y in
    let all =
    squares_of c.args.log2 c.side_of-n.result square v.side value c.requires.square
    c.side_of-n.ensures.some (omega (arith, value, c.requires.down)) c.requires.squares in
    let count : c.loop-q.q ≡ n / square = omega arith in
    let filled : c.loop-q.q * square ≡ n = ap (λ q. q * square) count ∙ sym all.1 in
    let places : 4 * 2 ^ c.args.log2 + 1 ≡ n + 1 + c.loop-q.q * square =
    omega (arith, value, filled) in
    let left : n + 1 ≡ 2 * 2 ^ c.args.log2 + 1 = omega (arith, value) in
    let above : c.loop-q.q * square ≡ 2 * 2 ^ c.args.log2 = omega (arith, value, filled) in
    ap (λ k. take k c.loop-q.line) places ∙ c.loop-q.invariant.1 ∙
    ap₂ (λ a b. tabulate a f ++ tabulate b h) left above
