use Rattle.std.proofs.Common.{ℕ, ◌+◌, ◌*◌, ◌∙◌, slice_index_or, arith, ap, ap₂, ℤ, pos, ◌+ℤ◌, w64, to_z, of_z, refl}
use Rattle.std.proofs.lemmas.List.{length-set}
use Rattle.std.proofs.lemmas.Int.{to_z-of_z}
use Rattle.hv_types.specs.Samples.{sample_at}
use Rattle.hv_interp.specs.Windows.{nearest_in}
use Rattle.hv_interp.proofs.PlaceLemmas.{HasFirst-set}
use Rattle.hv_interp.proofs.window.put_near.Goals as goal

pub loop-i-preserved : goal.loop-i-preserved
loop-i-preserved c =
    let x : ℤ = to_z w64 (of_z w64 c.args.x) in
    let sample : ℕ = slice_index_or c.samples-samples.result.now (c.args.row * c.width-width.result + c.nearest.result) 0 in (
      length-set c.loop-i.out c.loop-i.i sample ∙ c.loop-i.invariant.0,
      HasFirst-set 0 c.loop-i.i (c.loop-i.i + 1)
          (λ i. sample_at c.args.reference.now (nearest_in c.args.reference.now.width (x +ℤ pos i)) c.args.row)
          c.loop-i.out sample (omega (arith, c.loop-i.invariant.0, c.loop-i-test.true)) c.loop-i.invariant.1
          (ap₂ (λ samples width. slice_index_or samples (c.args.row * width + c.nearest.result) 0) c.samples-samples.ensures.value c.width-width.ensures.value ∙
          ap (λ column. sample_at c.args.reference.now column c.args.row)
          (c.nearest.ensures.value ∙ ap (λ width. nearest_in width (x +ℤ pos c.loop-i.i)) c.width-width.ensures.value)) refl,
    )

pub returns-clause-each : goal.returns-clause-each
returns-clause-each c =
    let kept = to_z-of_z w64 c.args.x c.ranges.x in
    rw (← kept) (λ i below. c.loop-i.invariant.1 i (omega (arith, below, c.loop-i-test.false)))
