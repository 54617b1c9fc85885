use Rattle.hv_stream_model.proofs.BitLemmas.{AreBits-take, AreBits-drop, AreBytes-append, AreBytes-bytes_high_first}
use Rattle.hv_stream_model.proofs.digit_laws.parts_laws.Goals as goal

pub returns-clause-front : goal.returns-clause-front
returns-clause-front c = AreBits-take

pub returns-clause-rest : goal.returns-clause-rest
returns-clause-rest c = AreBits-drop

pub returns-clause-joined : goal.returns-clause-joined
returns-clause-joined c = AreBytes-append

pub returns-clause-number : goal.returns-clause-number
returns-clause-number c = AreBytes-bytes_high_first
