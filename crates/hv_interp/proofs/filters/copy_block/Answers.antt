use Rattle.std.proofs.Common.{ℕ, ◌+◌, ◌*◌, ◌/◌, arith}
use Rattle.hv_interp.proofs.PlaceLemmas.{HasFirst-set, place_is, part_copied, place_inside}
use Rattle.std.proofs.Common.{ap, sym, slice_index_or, List}
use Rattle.hv_interp.specs.Filters.{place_of}
use Rattle.hv_interp.proofs.filters.copy_block.Goals as goal

pub loop-g-preserved : goal.loop-g-preserved
loop-g-preserved c =
    let y : ℕ = c.loop-y.y in
    part_copied c.args.samples.now c.loop-g.out c.copy_32.new.out c.args.size c.args.stride y (32 * c.loop-g.g) 32 (y * c.args.size + 32 * (c.loop-g.g + 1))
    (omega arith) (omega arith) (omega (arith, c.loop-g.auto.out, c.requires.room)) (omega (arith, c.requires.inside y (omega arith)))
    c.copy_32.ensures (omega arith) c.loop-g.invariant

pub loop-e-preserved : goal.loop-e-preserved
loop-e-preserved c =
    let y : ℕ = c.loop-y.y in
    let x : ℕ = c.args.size / 32 * 32 + 8 * c.loop-e.e in
    part_copied c.args.samples.now c.loop-e.out c.copy_8.new.out c.args.size c.args.stride y x 8
    (y * c.args.size + (c.args.size / 32 * 32 + 8 * (c.loop-e.e + 1)))
    (omega arith) (omega arith) (omega (arith, c.loop-e.auto.out, c.requires.room)) (omega (arith, c.requires.inside y (omega arith)))
    c.copy_8.ensures (omega arith) c.loop-e.invariant

pub loop-r-preserved : goal.loop-r-preserved
loop-r-preserved c =
    let n : ℕ = c.args.size in
    let y : ℕ = c.loop-y.y in
    let samples : List ℕ = c.args.samples.now in
    let x : ℕ = n / 8 * 8 + c.loop-r.r in
    HasFirst-set 0 (y * n + x) (y * n + (n / 8 * 8 + (c.loop-r.r + 1))) (λ k. slice_index_or samples (place_of n c.args.stride k) 0) c.loop-r.out _
    (omega (arith, place_inside n n y x (omega arith) (omega arith), c.loop-r.auto.out, c.requires.room)) c.loop-r.invariant
    (ap (λ k. slice_index_or samples k 0) (sym (place_is n c.args.stride y x (omega arith)))) (omega arith)
