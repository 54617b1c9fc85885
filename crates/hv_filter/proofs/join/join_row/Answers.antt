use Rattle.std.proofs.Common.{◌≡◌, ◌+◌, ◌*◌, ◌<◌, ◌≤◌, min, arith, refl, sym, subst, ap}
use Rattle.std.proofs.Math.Nat.{mul-le-mul_right, add-mul}
use Rattle.hv_sao.proofs.PlaneLemmas.{block_inside, blocks_reach}
use Rattle.hv_filter.proofs.JoinLemmas.{filled_as}
use Rattle.hv_filter.proofs.join.join_row.Goals as goal

pub loop-column-init : goal.loop-column-init
loop-column-init g c =
    filled_as (c.args.y * c.args.plane.now.width) _ _ c.args.plane.now.width _
    c.args.plane.now.height _ c.args.plane.now (omega arith) refl refl c.requires.before

pub join_part-requires-clause-inside : goal.join_part-requires-clause-inside
join_part-requires-clause-inside g c =
    omega (
      arith,
      c.width-width.ensures.value,
      c.loop-column.invariant.whole.wide,
      block_inside c.width-width.result c.args.side c.loop-column.column c.requires.least
          (subst (λ d. c.loop-column.column < d) c.div_ceil-column-end.ensures
          c.loop-column-test.true),
    )

pub join_part-requires-clause-before : goal.join_part-requires-clause-before
join_part-requires-clause-before g c =
    let inside : c.loop-column.column * c.args.side < c.width-width.result =
    block_inside c.width-width.result c.args.side c.loop-column.column c.requires.least
    (subst (λ d. c.loop-column.column < d) c.div_ceil-column-end.ensures
    c.loop-column-test.true) in
    let wide : c.args.plane.now.width ≡ c.loop-column.plane.width =
    sym c.loop-column.invariant.whole.wide in
    filled_as _ _ _ _ _ _ _ c.loop-column.plane
    (omega (
      arith,
      ap (λ k. c.args.y * k) wide,
      inside,
      c.width-width.ensures.value,
    ))
    wide (sym c.loop-column.invariant.whole.high) c.loop-column.invariant

pub loop-column-preserved : goal.loop-column-preserved
loop-column-preserved g c =
    let wide : c.loop-column.plane.width ≡ c.args.plane.now.width =
    c.loop-column.invariant.whole.wide in
    filled_as _ _ _ _ _ _ _ c.join_part.new.plane
    (ap (λ k. c.args.y * k + min ((c.loop-column.column + 1) * c.args.side) k) wide) wide
    c.loop-column.invariant.whole.high c.join_part.ensures

pub returns : goal.returns
returns g c =
    let reach : c.width-width.result ≤ c.div_ceil-column-end.result * c.args.side =
    subst (λ d. c.width-width.result ≤ d * c.args.side) (sym c.div_ceil-column-end.ensures)
    (blocks_reach c.width-width.result c.args.side c.requires.least) in
    let all : c.div_ceil-column-end.result * c.args.side ≤ c.loop-column.column * c.args.side =
    mul-le-mul_right c.args.side c.loop-column-test.false in
    filled_as _ _ _ _ _ _ _ c.loop-column.plane
    (omega (
      arith,
      reach,
      all,
      c.width-width.ensures.value,
      add-mul c.args.y 1 c.args.plane.now.width,
    ))
    refl refl c.loop-column.invariant
