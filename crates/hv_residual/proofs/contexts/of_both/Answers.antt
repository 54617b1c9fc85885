use Rattle.std.proofs.Common.{◌≡◌, map, ap, sym, true}
use Rattle.hv_lemmas.specs.Lists.{tabulate}
use Rattle.hv_plan.specs.declared.prediction.Scan.{Scan}
use Rattle.hv_plan.specs.declared.prediction.Scan.TheVariants.{Diagonal, Horizontal, Vertical}
use Rattle.hv_residual_model.specs.ScanOrder.{scan_order}
use Rattle.hv_residual_model.specs.ResidualContexts.{by_neighbours}
use Rattle.hv_residual.proofs.contexts.of_both.Goals as goal

pub returns-in-Diagonal-clause-value : goal.returns-in-Diagonal-clause-value
unfolding scan_order tabulate
returns-in-Diagonal-clause-value c =
    let e : map (by_neighbours true true) (scan_order Diagonal 2) ≡ map (by_neighbours true true) (scan_order c.args.scan 2) =
    ap (λ (s : Scan). map (by_neighbours true true) (scan_order s 2)) (sym c.in-Diagonal.is) in e

pub returns-in-Horizontal-clause-value : goal.returns-in-Horizontal-clause-value
unfolding scan_order tabulate
returns-in-Horizontal-clause-value c =
    let e : map (by_neighbours true true) (scan_order Horizontal 2) ≡ map (by_neighbours true true) (scan_order c.args.scan 2) =
    ap (λ (s : Scan). map (by_neighbours true true) (scan_order s 2)) (sym c.in-Horizontal.is) in e

pub returns-in-Vertical-clause-value : goal.returns-in-Vertical-clause-value
unfolding scan_order tabulate
returns-in-Vertical-clause-value c =
    let e : map (by_neighbours true true) (scan_order Vertical 2) ≡ map (by_neighbours true true) (scan_order c.args.scan 2) =
    ap (λ (s : Scan). map (by_neighbours true true) (scan_order s 2)) (sym c.in-Vertical.is) in e
