use Rattle.std.proofs.Common.{arith, refl}
use Rattle.hv_lemmas.specs.Lists.{tabulate}
use Rattle.hv_plan.specs.declared.prediction.Scan.TheVariants.{Vertical}
use Rattle.hv_residual_model.specs.ScanOrder.{scan_order}
use Rattle.hv_residual.proofs.ScanLemmas.{order_at}
use Rattle.hv_residual.proofs.scans.vertical.Goals as goal

pub returns-then-log2-eq0-clause-order : goal.returns-then-log2-eq0-clause-order
unfolding scan_order tabulate
returns-then-log2-eq0-clause-order c = order_at Vertical _ 0 _ c.if-log2-eq0.true refl

pub returns-then-log2-eq1-clause-order : goal.returns-then-log2-eq1-clause-order
unfolding scan_order tabulate
returns-then-log2-eq1-clause-order c = order_at Vertical _ 1 _ c.if-log2-eq1.true refl

pub returns-then-log2-eq2-clause-order : goal.returns-then-log2-eq2-clause-order
unfolding scan_order tabulate
returns-then-log2-eq2-clause-order c = order_at Vertical _ 2 _ c.if-log2-eq2.true refl

pub returns-clause-order : goal.returns-clause-order
unfolding scan_order tabulate
returns-clause-order c = order_at Vertical _ 3 _ (omega arith) refl
