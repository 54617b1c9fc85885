-- There are three levels at most.
use Rattle.std.proofs.Common.{arith}
use Rattle.hv_serial.proofs.SlotLemmas.{few_spans}
use Rattle.hv_serial.proofs.slots.slot_of.Goals as goal

pub overflow_add-result : goal.overflow_add-result
overflow_add-result c =
    omega (
      arith,
      few_spans c.levels-span.result c.levels-span.ensures.most,
      c.requires,
      c.count.ensures.value,
      c.count.ensures.most,
    )
