-- The status and the line of an error.
use Rattle.hv_run.proofs.ConclusionLemmas.{concluded_error}
use Rattle.hv_run.proofs.run.encode_and_report.Goals as goal

pub returns-in-Err : goal.returns-in-Err
returns-in-Err g c =
    concluded_error c.args.config.now _ _ _ c.picture_bytes.result c.in-Err.error c.status_of.result c.picture_bytes.ensures.value c.status_of.ensures
    c.in-Err.ensures.ends c.report_error.ensures
