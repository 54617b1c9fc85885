use Rattle.hv_syntax.proofs.ModeLemmas.{list_apart, list_low, list_high}
use Rattle.hv_syntax.proofs.modes.most_probable.Goals as goal

pub returns-then-left-above : goal.returns-then-left-above
returns-then-left-above c =
    list_apart c.args.left c.args.above _ c.if-left-above.true c.third_mode.ensures

pub returns-then-left-lt2 : goal.returns-then-left-lt2
returns-then-left-lt2 c = list_low c.args.left c.args.above c.if-left-above.false c.if-left-lt2.true

pub returns : goal.returns
returns c =
    list_high c.args.left c.args.above c.from.result c.if-left-above.false c.if-left-lt2.false
    c.from.ensures
