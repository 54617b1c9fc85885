-- A source that never fails tells its bytes, and its count of faults stays.
use Rattle.hv_run.specs.Input.{input_bytes}
use Rattle.hv_run.proofs.InputLemmas.{input_told, never_rises}
use Rattle.std.proofs.Common.{Some}
use Rattle.hv_run.proofs.known_ends.encode_steady.Goals as goal

pub returns-clause-concludes : goal.returns-clause-concludes
returns-clause-concludes g c cfg a = c.run_encode.ensures.concludes cfg a

pub returns-clause-complete : goal.returns-clause-complete
returns-clause-complete g c cfg a no_write no_report =
    c.run_encode.ensures.complete cfg (input_bytes cfg c.args.source.now) a
    (input_told cfg c.args.source.now) never_rises no_write no_report
