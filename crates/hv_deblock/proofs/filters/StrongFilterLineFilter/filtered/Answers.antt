use Rattle.std.proofs.Common.{subst, sym}
use Rattle.hv_deblock.specs.Lines.{KeepsOuter}
use Rattle.hv_deblock.proofs.KeptLemmas.{strong_keeps}
use Rattle.hv_deblock.proofs.filters.StrongFilterLineFilter.filtered.Goals as goal

pub returns-clause-kept : goal.returns-clause-kept
returns-clause-kept c =
    subst (KeepsOuter 1 c.args.line) (sym c.strong_line.ensures) (strong_keeps c.args.self.now.tc c.args.line)
