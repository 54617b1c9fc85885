use Rattle.hv_syntax.proofs.CountLemmas.{count_first, count_second, count_third, count_other}
use Rattle.hv_syntax.proofs.counting.count_mode_by.Goals as goal

pub returns-then-mode-first-clause-value : goal.returns-then-mode-first-clause-value
returns-then-mode-first-clause-value c =
    count_first c.args.first c.args.second c.args.third c.args.mode c.if-mode-first.true

pub returns-then-mode-second-clause-value : goal.returns-then-mode-second-clause-value
returns-then-mode-second-clause-value c =
    count_second c.args.first c.args.second c.args.third c.args.mode c.if-mode-first.false
    c.if-mode-second.true

pub returns-then-mode-third-clause-value : goal.returns-then-mode-third-clause-value
returns-then-mode-third-clause-value c =
    count_third c.args.first c.args.second c.args.third c.args.mode c.if-mode-first.false
    c.if-mode-second.false c.if-mode-third.true

pub returns-clause-value : goal.returns-clause-value
returns-clause-value c =
    count_other c.args.first c.args.second c.args.third c.args.mode c.if-mode-first.false
    c.if-mode-second.false c.if-mode-third.false
