use Rattle.std.proofs.Common.{◌≡◌, ℕ, ◌+◌, ◌-◌, ◌*◌, ap, arith, length-set, refl, sym, subst, ◌∙◌, take}
use Rattle.std.proofs.lemmas.List.{length-replicate, take_all}
use Rattle.std.specs.Prelude.{slice_index}
use Rattle.hv_lemmas.specs.Lists.{tabulate}
use Rattle.hv_block.proofs.EdgeLemmas.{tabulate-filled}
use Rattle.hv_block.proofs.edges.last_column.Goals as goal

pub loop-y-init : goal.loop-y-init
unfolding tabulate
loop-y-init g c = (length-replicate g.row.SIDE _, refl)

pub loop-y-preserved : goal.loop-y-preserved
loop-y-preserved g c =
    let side : ℕ = g.row.SIDE in
    let at : c.loop-y.y * side + side - 1 ≡ c.loop-y.y * side + (side - 1) = omega arith in (
      length-set c.loop-y.out c.loop-y.y _ ∙ c.loop-y.invariant.0,
      tabulate-filled (λ y. slice_index c.args.samples.now (y * side + (side - 1))) c.loop-y.out
          c.loop-y.y _ (omega (arith, c.loop-y.invariant.0)) c.loop-y.invariant.1
          (ap (slice_index c.args.samples.now) at),
    )

pub returns : goal.returns
returns g c =
    let all : c.loop-y.y ≡ g.row.SIDE = omega arith in
    let Filled : ℕ → Type 0 =
    λ n. take n c.loop-y.out ≡
    tabulate n (λ y. slice_index c.args.samples.now (y * g.row.SIDE + (g.row.SIDE - 1))) in
    sym (take_all g.row.SIDE c.loop-y.out (omega (arith, c.loop-y.invariant.0))) ∙
    subst Filled all c.loop-y.invariant.1
