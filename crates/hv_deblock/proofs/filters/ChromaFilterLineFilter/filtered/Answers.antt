use Rattle.std.proofs.Common.{subst, sym}
use Rattle.hv_deblock.specs.Lines.{KeepsOuter}
use Rattle.hv_deblock.proofs.KeptLemmas.{chroma_keeps}
use Rattle.hv_deblock.proofs.filters.ChromaFilterLineFilter.filtered.Goals as goal

pub returns-clause-kept : goal.returns-clause-kept
returns-clause-kept c =
    subst (KeepsOuter 3 c.args.line) (sym c.chroma_line.ensures) (chroma_keeps c.args.self.now.tc c.args.line)
