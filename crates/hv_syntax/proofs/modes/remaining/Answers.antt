use Rattle.std.proofs.Common.{◌∙◌}
use Rattle.hv_syntax.proofs.ModeLemmas.{remaining_is}
use Rattle.hv_syntax.proofs.modes.remaining.Goals as goal

pub returns : goal.returns
returns c =
    c.saturating_sub.ensures ∙
    remaining_is c.args.first c.args.second c.args.third c.args.mode c.from.result c.from-2.result
    c.from-3.result c.from.ensures c.from-2.ensures c.from-3.ensures
