use Rattle.std.proofs.Common.{subst, sym}
use Rattle.hv_deblock.specs.Lines.{KeepsOuter}
use Rattle.hv_deblock.proofs.KeptLemmas.{normal_keeps}
use Rattle.hv_deblock.proofs.filters.NormalFilterLineFilter.filtered.Goals as goal

pub returns-clause-kept : goal.returns-clause-kept
returns-clause-kept c =
    subst (KeepsOuter 2 c.args.line) (sym c.normal_line.ensures) (normal_keeps c.args.self.now.tc c.args.self.now.smooth_p c.args.self.now.smooth_q c.args.line)
