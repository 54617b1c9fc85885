use Rattle.std.proofs.Common.{◌≡◌, ◌+◌, ◌*◌, ◌%◌, ◌^◌, ◌<◌, ◌≤◌, length}
use Rattle.hv_cabac.specs.Bytes.{total, HasRoom}
use Rattle.hv_cabac.proofs.register.put_rest.Given as goal

-- `left` digits are not out yet, and the total is as at the start
abbrev pub invariant-loop-left : goal.invariant-loop-left
invariant-loop-left l = record {
  few : l.left ≤ 16;
  whole : l.left % 8 ≡ 0;
  small : l.rest < 2 ^ l.left;
  places : 8 * length l.out.items + l.left ≡ 8 * length l.fn.out.items + l.fn.bits;
  same : HasRoom l.fn.out.items l.fn.bits l.fn.low →
      total l.out.items l.left l.rest ≡ total l.fn.out.items l.fn.bits l.fn.low;
}

abbrev pub decreases-loop-left : goal.decreases-loop-left
decreases-loop-left l = l.left
