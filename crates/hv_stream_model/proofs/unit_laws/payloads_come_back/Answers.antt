use Rattle.hv_stream_model.proofs.UnitLemmas.{strip-escape}
use Rattle.hv_stream_model.proofs.unit_laws.payloads_come_back.Goals as goal

pub returns : goal.returns
returns c = strip-escape
