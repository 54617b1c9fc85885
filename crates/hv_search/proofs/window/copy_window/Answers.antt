use Rattle.std.proofs.Common.{◌≡◌, ℕ, ◌+◌, ◌-◌, ◌*◌, ◌%◌, ◌/◌, ◌<◌, ◌≤◌, ◌∙◌, List, arith, ap, sym, ℤ, pos, ◌+ℤ◌, w64, to_z, of_z, length}
use Rattle.std.proofs.lemmas.Nat.{mul-add-lt}
use Rattle.std.proofs.Math.Nat.{add-mul, mul-le-mul_right}
use Rattle.std.proofs.lemmas.Int.{to_z-of_z}
use Rattle.hv_types.specs.Samples.{sample_at}
use Rattle.hv_search_model.specs.MotionSearch.{nearest}
use Rattle.hv_search.specs.Windows.{plane_of_grid, nearest_sample}
use Rattle.hv_interp.proofs.PlaceLemmas.{HasFirst-put}
use Rattle.hv_search.proofs.WindowLemmas.{shown_at}
use Rattle.hv_search.proofs.window.copy_window.Goals as goal

pub loop-j-preserved : goal.loop-j-preserved
loop-j-preserved c =
    let x : ℤ = to_z w64 (of_z w64 c.args.x) in
    let y : ℤ = to_z w64 (of_z w64 c.args.y) in
    let n : ℕ = c.args.side in
    let j : ℕ = c.loop-j.j in
    let part : List ℕ = c.put_row.new.out in
    let below : j + 1 ≤ n = omega (arith, c.loop-j-test.true) in
    let room : j * n + n ≤ n * n = omega (arith, mul-le-mul_right n below, add-mul j 1 n) in
    let count : length part ≡ n = omega (arith, c.put_row.ensures.count, room, c.loop-j.auto.out, c.requires.room) in
    HasFirst-put 0 (j * n) (j * n + n - j * n) ((j + 1) * n)
    (λ k. nearest_sample (plane_of_grid c.args.grid) (x +ℤ pos (k % n)) (y +ℤ pos (k / n)))
    c.loop-j.out part (omega (arith, room, c.loop-j.auto.out, c.requires.room)) c.loop-j.invariant
    (λ i inside.
    let across : i < n = omega (arith, inside, count) in
    c.put_row.ensures.each i (omega (arith, inside, c.put_row.ensures.count)) ∙
    ap (λ row. sample_at (plane_of_grid c.args.grid) (nearest c.args.grid.width (x +ℤ pos i)) row) c.place_near-row.ensures.value ∙
    sym (shown_at (plane_of_grid c.args.grid) x y n j i across))
    (omega (arith, count, add-mul j 1 n))

pub returns-clause-shows : goal.returns-clause-shows
returns-clause-shows c =
    let x = to_z-of_z w64 c.args.x c.ranges.x in
    let y = to_z-of_z w64 c.args.y c.ranges.y in
    let n : ℕ = c.args.side in
    rw (← x, ← y) (λ i j across down.
    let ended : n ≤ c.loop-j.j = c.loop-j-test.false in
    let rows : n * n ≤ c.loop-j.j * n = mul-le-mul_right n ended in
    c.loop-j.invariant (j * n + i) (omega (arith, mul-add-lt j n i n down across, rows)) ∙
    shown_at (plane_of_grid c.args.grid) (to_z w64 (of_z w64 c.args.x)) (to_z w64 (of_z w64 c.args.y)) n j i across)
