-- What was lent and has its length is what was written.
use Rattle.std.proofs.Common.{◌≡◌, List, length, drop, take_at}
use Rattle.hv_block.specs.Lending.{refilled}

pub refilled_is : {A : Type 0} (old written : List A) → length written ≡ length old →
    refilled old written ≡ written
refilled_is old written same = take_at written (drop (length written) old) (length old) same
