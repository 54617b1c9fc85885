use Rattle.std.proofs.Common.{arith}
use Rattle.hv_search.proofs.PlainLemmas.{none_at_0, none_across, none_below, some_inside}
use Rattle.hv_search.proofs.plain.plain_vector.Goals as goal

pub returns-then-effort-eq0 : goal.returns-then-effort-eq0
returns-then-effort-eq0 c =
    none_at_0 c.args.effort c.args.input.luma.now c.args.reference.luma.now c.args.square.x c.args.square.y c.args.square.side c.if-effort-eq0.true

pub returns-then-x-side : goal.returns-then-x-side
returns-then-x-side c =
    none_across c.args.effort c.args.input.luma.now c.args.reference.luma.now c.args.square.x c.args.square.y c.args.square.side
    (omega (arith, c.if-effort-eq0.false)) (omega (arith, c.if-x-side.true, c.from-side.ensures, c.width.ensures.value))

pub returns-then-y-side : goal.returns-then-y-side
returns-then-y-side c =
    none_below c.args.effort c.args.input.luma.now c.args.reference.luma.now c.args.square.x c.args.square.y c.args.square.side
    (omega (arith, c.if-effort-eq0.false)) (omega (arith, c.if-x-side.false, c.from-side.ensures, c.width.ensures.value))
    (omega (arith, c.if-y-side.true, c.from-side.ensures, c.height.ensures.value))

pub returns : goal.returns
returns c =
    some_inside c.args.effort c.args.input.luma.now c.args.reference.luma.now c.args.square.x c.args.square.y c.args.square.side
    c.best_vector.result (omega (arith, c.if-effort-eq0.false)) (omega (arith, c.if-x-side.false, c.from-side.ensures, c.width.ensures.value))
    (omega (arith, c.if-y-side.false, c.from-side.ensures, c.height.ensures.value)) c.best_vector.ensures
