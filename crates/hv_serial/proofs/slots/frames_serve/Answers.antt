-- All groups were computed.
use Rattle.hv_serial.proofs.SlotLemmas.{served}
use Rattle.hv_serial.proofs.slots.frames_serve.Goals as goal

pub returns : goal.returns
returns c = served
