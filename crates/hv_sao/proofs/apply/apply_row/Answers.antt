use Rattle.std.proofs.Common.{◌≤◌, ◌<◌, ◌+◌, ◌*◌, ℕ, arith, subst, length, sym}
use Rattle.std.proofs.Math.Nat.{mul-le-mul_right}
use Rattle.hv_sao.specs.Planes.{IsWritten, block_sample}
use Rattle.hv_sao.proofs.PlaneLemmas.{block_inside, blocks_reach, choice_inside, block_written}
use Rattle.hv_sao.proofs.apply.apply_row.Goals as goal

pub bounds-sao-first : goal.bounds-sao-first
bounds-sao-first c =
    let inside : c.loop-column.column * c.args.side < c.width-width.result =
    block_inside c.width-width.result c.args.side c.loop-column.column c.requires.least
    (subst (λ d. c.loop-column.column < d) c.div_ceil-column-end.ensures c.loop-column-test.true) in
    choice_inside c.args.deblocked.now.width c.args.side c.loop-column.column c.args.first _ (omega (arith, c.width-width.ensures.value)) c.requires.room

pub loop-column-preserved : goal.loop-column-preserved
loop-column-preserved c =
    let n : ℕ = c.loop-column.column * c.args.side in
    let inside : n < c.width-width.result =
    block_inside c.width-width.result c.args.side c.loop-column.column c.requires.least
    (subst (λ d. c.loop-column.column < d) c.div_ceil-column-end.ensures c.loop-column-test.true) in
    let there : c.args.first + c.loop-column.column < length c.args.sao.now =
    choice_inside c.args.deblocked.now.width c.args.side c.loop-column.column c.args.first _ (omega (arith, c.width-width.ensures.value)) c.requires.room in
    block_written c.args.component c.args.sao.now c.args.first c.args.side c.width-width.result c.args.y c.loop-column.column c.min.result _
    c.of-choice.result c.args.deblocked.now c.args.shown.now c.loop-column.shown c.apply_part.new.shown
    c.requires.least inside c.min.ensures there c.of-choice.ensures c.loop-column.invariant c.apply_part.ensures

pub returns : goal.returns
returns c =
    let reach : c.width-width.result ≤ c.div_ceil-column-end.result * c.args.side =
    subst (λ d. c.width-width.result ≤ d * c.args.side) (sym c.div_ceil-column-end.ensures)
    (blocks_reach c.width-width.result c.args.side c.requires.least) in
    let all : c.div_ceil-column-end.result * c.args.side ≤ c.loop-column.column * c.args.side =
    mul-le-mul_right c.args.side c.loop-column-test.false in
    subst
    (λ k.
    IsWritten 0 c.args.y k
    (block_sample c.args.component c.args.sao.now c.args.first c.args.side c.args.deblocked.now c.args.y)
    c.args.shown.now c.loop-column.shown)
    (omega (arith, reach, all, c.width-width.ensures.value)) c.loop-column.invariant
