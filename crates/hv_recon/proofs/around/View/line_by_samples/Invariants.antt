use Rattle.std.proofs.Common.{◌≡◌, ◌+◌, ◌++◌, length, take}
use Rattle.hv_lemmas.specs.Lists.{tabulate}
use Rattle.hv_recon.specs.Views.{spot_of, around_of}
use Rattle.hv_recon.proofs.FilledLineLemmas.{left_at, above_at}
use Rattle.hv_recon.proofs.around.View.line_by_samples.Given as goal

abbrev pub invariant-loop-i : goal.invariant-loop-i
invariant-loop-i l =
    (length l.line ≡ 129) ×
    (take l.i l.line ≡
    tabulate l.i (left_at (spot_of l.self) (around_of l.self.around) l.own l.address l.x l.y l.log2))

abbrev pub invariant-loop-k : goal.invariant-loop-k
invariant-loop-k l =
    (length l.line ≡ 129) ×
    (take (l.n + 1 + l.k) l.line ≡
    tabulate (l.n + 1) (left_at (spot_of l.self) (around_of l.self.around) l.own l.address l.x l.y
    l.log2) ++
    tabulate l.k (above_at (spot_of l.self) (around_of l.self.around) l.own l.address l.x l.y))
