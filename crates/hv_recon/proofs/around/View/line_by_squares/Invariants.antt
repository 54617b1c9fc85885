use Rattle.std.proofs.Common.{◌≡◌, ◌+◌, ◌*◌, ◌++◌, length, take}
use Rattle.hv_lemmas.specs.Lists.{tabulate}
use Rattle.hv_recon.specs.Views.{spot_of, around_of}
use Rattle.hv_recon.proofs.FilledLineLemmas.{left_at, above_at}
use Rattle.hv_recon.proofs.around.View.line_by_squares.Given as goal

abbrev pub invariant-loop-p : goal.invariant-loop-p
invariant-loop-p g l =
    (length l.line ≡ 129) ×
    (take (l.p * g.row.SQUARE) l.line ≡
    tabulate (l.p * g.row.SQUARE)
    (left_at (spot_of l.self) (around_of l.self.around) l.own l.address l.x l.y l.log2))

abbrev pub invariant-loop-i : goal.invariant-loop-i
invariant-loop-i g l =
    (length l.line ≡ 129) ×
    (take (l.p * g.row.SQUARE + l.i) l.line ≡
    tabulate (l.p * g.row.SQUARE + l.i)
    (left_at (spot_of l.self) (around_of l.self.around) l.own l.address l.x l.y l.log2))

abbrev pub invariant-loop-q : goal.invariant-loop-q
invariant-loop-q g l =
    (length l.line ≡ 129) ×
    (take (l.n + 1 + l.q * g.row.SQUARE) l.line ≡
    tabulate (l.n + 1) (left_at (spot_of l.self) (around_of l.self.around) l.own l.address l.x l.y
    l.log2) ++
    tabulate (l.q * g.row.SQUARE)
    (above_at (spot_of l.self) (around_of l.self.around) l.own l.address l.x l.y))

abbrev pub invariant-loop-k : goal.invariant-loop-k
invariant-loop-k g l =
    (length l.line ≡ 129) ×
    (take (l.n + 1 + (l.q * g.row.SQUARE + l.k)) l.line ≡
    tabulate (l.n + 1) (left_at (spot_of l.self) (around_of l.self.around) l.own l.address l.x l.y
    l.log2) ++
    tabulate (l.q * g.row.SQUARE + l.k)
    (above_at (spot_of l.self) (around_of l.self.around) l.own l.address l.x l.y))
