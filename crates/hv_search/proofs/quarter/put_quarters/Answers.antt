use Rattle.std.proofs.Common.{◌≡◌, ℕ, ◌+◌, ◌-◌, ◌*◌, ◌/◌, ◌%◌, ◌≤◌, ◌<◌, length, List, ap₂, ◌∙◌, sym, arith}
use Rattle.std.proofs.lemmas.Nat.{mod-mul-add, div-mul-add}
use Rattle.std.proofs.Math.Nat.{add-mul, mul-le-mul_right, mul_comm}
use Rattle.hv_types.specs.Samples.{Plane}
use Rattle.hv_search_model.specs.MotionSearch.{mean_of_square}
use Rattle.hv_search.specs.Windows.{plane_of_grid}
use Rattle.hv_interp.proofs.PlaceLemmas.{HasFirst-put}
use Rattle.hv_search.proofs.QuarterLemmas.{quarter_is}
use Rattle.hv_search.proofs.quarter.put_quarters.Goals as goal

pub loop-y-preserved : goal.loop-y-preserved
loop-y-preserved c =
    let n : ℕ = c.args.luma.width / 4 in
    let m : ℕ = c.args.luma.height / 4 in
    let y : ℕ = c.loop-y.y in
    let plane : Plane = plane_of_grid c.args.luma in
    let part : List ℕ = c.decimate.new.out in
    let f : ℕ → ℕ = λ k. mean_of_square plane (k % n) (k / n) in
    let below : y + 1 ≤ m = omega (arith, c.loop-y-test.true) in
    let room : y * n + n ≤ m * n = omega (arith, mul-le-mul_right n below, add-mul y 1 n) in
    let inside : y * n + n ≤ length c.loop-y.out = omega (arith, room, c.loop-y.auto.out, c.requires.room, mul_comm n m) in
    let count : length part ≡ n = omega (arith, c.decimate.auto.out, inside) in
    HasFirst-put 0 (y * n) (y * n + n - y * n) ((y + 1) * n) f c.loop-y.out part (omega (arith, inside)) c.loop-y.invariant
    (λ i here.
    let across : i < n = omega (arith, here, count) in
    c.decimate.ensures i here ∙
    quarter_is plane y i c.four_rows.result.now c.four_rows.ensures.value c.four_rows.ensures.count (omega (arith, across, c.requires.wide)) ∙
    sym (ap₂ (mean_of_square plane) (mod-mul-add y n i across) (div-mul-add y n i across)))
    (omega (arith, count, add-mul y 1 n))

pub returns-clause-each : goal.returns-clause-each
returns-clause-each c = λ k below.
    let n : ℕ = c.args.luma.width / 4 in
    let ended : c.args.luma.height / 4 ≤ c.loop-y.y = c.loop-y-test.false in
    c.loop-y.invariant k (omega (arith, below, mul-le-mul_right n ended, mul_comm n (c.args.luma.height / 4)))
