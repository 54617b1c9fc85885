-- The line as it was made.
use Rattle.std.proofs.Common.{◌∙◌}
use Rattle.hv_run.proofs.ReportLemmas.{reported}
use Rattle.hv_run.proofs.report.report_error.Goals as goal

pub returns : goal.returns
returns g c =
    reported c.put_line.result _ _ _ (c.as_str.ensures.value ∙ c.error_line.ensures) c.put_line.ensures.ok c.put_line.ensures.err
