use Rattle.hv_lemmas.specs.Lists.{tabulate}
use Rattle.hv_mode.specs.LumaModes.{mode_score, further_mode}
use Rattle.hv_mode.proofs.ScoreLemmas.{IsBest}
use Rattle.hv_mode.proofs.luma_mode.best_mode.Given as goal

abbrev pub invariant-modes : goal.invariant-modes
invariant-modes l =
    let b = l.block in
    IsBest (mode_score b.log2 b.qp b.candidates b.samples.now b.line.now)
    (tabulate l.i (further_mode l.effort)) l.best
