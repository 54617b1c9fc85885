use Rattle.std.proofs.Common.{ℕ, ◌≡◌, ◌+◌, ◌-◌, ◌*◌, ◌∙◌, List, ap, arith, slice_index_or}
use Rattle.hv_interp.specs.Filters.{woven_place}
use Rattle.hv_interp.proofs.ColumnLemmas.{part_woven}
use Rattle.hv_interp.proofs.PlaceLemmas.{HasFirst-put, place_inside}
use Rattle.hv_interp.proofs.columns.weave_rows.Goals as goal

pub loop-g-preserved : goal.loop-g-preserved
loop-g-preserved c =
    let n : ℕ = c.args.size in
    let y : ℕ = c.loop-y.y in
    let x : ℕ = 16 * c.loop-g.g in
    let at : ℕ = y * (2 * n) + 32 * c.loop-g.g in
    let samples : List ℕ = c.args.samples.now in
    let part : List ℕ = c.weave_16.new.out in
    let room = place_inside (2 * n) c.args.rows y (2 * x) (omega arith) (omega (arith, c.requires.sixteens)) in
    HasFirst-put 0 at (at + 32 - at) (y * (2 * n) + 32 * (c.loop-g.g + 1))
    (λ k. slice_index_or samples (woven_place n c.args.stride k) 0) c.loop-g.woven part
    (omega (arith, room, c.loop-g.auto.woven, c.requires.room)) c.loop-g.invariant
    (λ i below.
    let same : y * (2 * n) + 2 * x + i ≡ at + i = omega arith in
    part_woven samples part n c.args.stride y x (omega (arith, c.requires.sixteens)) c.weave_16.ensures.even c.weave_16.ensures.odd i
    (omega (arith, below, c.weave_16.ensures.count)) ∙
    ap (λ k. slice_index_or samples (woven_place n c.args.stride k) 0) same)
    (omega (arith, c.weave_16.ensures.count))
