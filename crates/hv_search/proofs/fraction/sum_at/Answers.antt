use Rattle.std.proofs.Common.{◌+◌, ◌*◌, ◌∙◌, ap₂, arith, drop}
use Rattle.std.proofs.lemmas.Int.{ints}
use Rattle.hv_types.specs.declared.window.Window.{Window}
use Rattle.hv_search.proofs.FieldLemmas.{part_sum_is}
use Rattle.hv_search.proofs.fraction.sum_at.Goals as goal

pub returns : goal.returns
returns c =
    let first : Window = c.window-first.result in
    let second : Window = c.window_at-second.result in
    c.sad_of_pair.ensures ∙
    part_sum_is c.args.field c.args.part c.args.mv c.ahead-right.result c.ahead-down.result
    first.samples.now second.samples.now first.stride first.columns first.rows second.stride second.columns
    (omega (arith, ints, c.ahead-right.ensures.value)) (omega (arith, ints, c.ahead-down.ensures.value)) c.ahead-right.ensures.most c.ahead-down.ensures.most
    c.window-first.ensures.stride (omega (arith, c.window-first.ensures.columns, c.from-side.ensures)) (omega (arith, c.window-first.ensures.rows, c.from-side.ensures))
    c.window_at-second.ensures.stride c.window_at-second.ensures.columns
    first.whole
    (c.window-first.ensures.samples ∙
    ap₂ (λ a b. drop ((c.args.field.y + b) * c.args.field.input.now.width + (c.args.field.x + a)) c.args.field.input.now.samples) c.from.ensures c.from-2.ensures)
    c.window_at-second.ensures.samples
