use Rattle.std.proofs.Common.{◌≡◌, ℕ, ◌+◌, ◌-◌, ◌*◌, ◌%◌, ◌/◌, ◌<◌, ◌≤◌, ◌∙◌, List, arith, ap, sym, ℤ, pos, ◌+ℤ◌, w64, to_z, of_z, length}
use Rattle.std.proofs.lemmas.Nat.{mul-add-lt}
use Rattle.std.proofs.Math.Nat.{add-mul, mul-le-mul_right}
use Rattle.std.proofs.lemmas.Int.{to_z-of_z}
use Rattle.hv_types.specs.Samples.{sample_at}
use Rattle.hv_interp.specs.Windows.{nearest_in}
use Rattle.hv_interp.proofs.PlaceLemmas.{HasFirst-put}
use Rattle.hv_interp.proofs.WindowLemmas.{nearest_sample, shown_at}
use Rattle.hv_interp.proofs.window.copy_window.Goals as goal

pub loop-j-preserved : goal.loop-j-preserved
loop-j-preserved c =
    let x : ℤ = to_z w64 (of_z w64 c.args.x) in
    let y : ℤ = to_z w64 (of_z w64 c.args.y) in
    let n : ℕ = c.args.side in
    let j : ℕ = c.loop-j.j in
    let part : List ℕ = c.put_row.new.out in
    let below : j + 1 ≤ n = omega (arith, c.loop-j-test.true) in
    let room : j * n + n ≤ n * n = omega (arith, mul-le-mul_right n below, add-mul j 1 n) in
    let count : length part ≡ n = omega (arith, c.put_row.ensures.count, room, c.loop-j.auto.window, c.requires.room) in
    HasFirst-put 0 (j * n) (j * n + n - j * n) ((j + 1) * n)
    (λ k. nearest_sample c.args.reference.now (x +ℤ pos (k % n)) (y +ℤ pos (k / n)))
    c.loop-j.window part (omega (arith, room, c.loop-j.auto.window, c.requires.room)) c.loop-j.invariant
    (λ i inside.
    let across : i < n = omega (arith, inside, count) in
    c.put_row.ensures.each i (omega (arith, inside, c.put_row.ensures.count)) ∙
    ap (λ row. sample_at c.args.reference.now (nearest_in c.args.reference.now.width (x +ℤ pos i)) row)
    (c.nearest-row.ensures.value ∙ ap (λ height. nearest_in height (y +ℤ pos j)) c.height.ensures.value) ∙
    sym (shown_at c.args.reference.now x y n j i across))
    (omega (arith, count, add-mul j 1 n))

pub returns : goal.returns
returns c =
    let kept_x = to_z-of_z w64 c.args.x c.ranges.x in
    let kept_y = to_z-of_z w64 c.args.y c.ranges.y in
    let n : ℕ = c.args.side in
    let ended : n ≤ c.loop-j.j = c.loop-j-test.false in
    let rows : n * n ≤ c.loop-j.j * n = mul-le-mul_right n ended in
    record {
      whole = λ y below. omega (arith, mul-le-mul_right n below, add-mul y 1 n, c.loop-j.auto.window, c.requires.room);
      each = rw (← kept_x, ← kept_y) (λ i j across down.
          ap pos (c.loop-j.invariant (j * n + i) (omega (arith, mul-add-lt j n i n down across, rows)) ∙
          shown_at c.args.reference.now (to_z w64 (of_z w64 c.args.x)) (to_z w64 (of_z w64 c.args.y)) n j i across));
    }
