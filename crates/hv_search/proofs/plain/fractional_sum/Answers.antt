use Rattle.std.proofs.Common.{◌∙◌, arith}
use Rattle.hv_types.specs.declared.window.Window.{Window}
use Rattle.hv_search.proofs.FractionLemmas.{fractional_sum_is}
use Rattle.hv_search.proofs.plain.fractional_sum.Goals as goal

pub returns : goal.returns
returns c =
    let first : Window = c.window-first.result in
    let second : Window = c.window_of-second.result in
    c.sad_of_pair.ensures ∙
    fractional_sum_is c.args.input.now c.args.reference.now c.args.mv c.args.square.x c.args.square.y c.args.square.side
    first.samples.now second.samples.now first.stride first.columns first.rows second.stride second.columns
    c.window-first.ensures.stride (omega (arith, c.window-first.ensures.columns, c.from.ensures)) (omega (arith, c.window-first.ensures.rows, c.from-2.ensures))
    (omega (arith, c.window_of-second.ensures.stride, c.from-columns.ensures)) (omega (arith, c.window_of-second.ensures.columns, c.from-columns.ensures))
    first.whole c.window-first.ensures.samples (c.window_of-second.ensures.samples ∙ c.predict_inter.ensures)
