use Rattle.hv_stream_model.proofs.UnitLemmas.{escape-runs, strip-runs}
use Rattle.hv_stream_model.proofs.unit_laws.zero_runs_laws.Goals as goal

pub returns-clause-escape : goal.returns-clause-escape
returns-clause-escape c = escape-runs

pub returns-clause-strip : goal.returns-clause-strip
returns-clause-strip c = strip-runs
