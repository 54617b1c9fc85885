use Rattle.std.proofs.Common.{◌≡◌, ◌+◌, ◌-◌, ◌^◌, ◌≤◌, length}
use Rattle.hv_cabac.specs.Bytes.{number}
use Rattle.hv_cabac.proofs.register.add_carry.Given as goal

-- the one is still to be added at the place before `at`
abbrev pub invariant-loop-at : goal.invariant-loop-at
invariant-loop-at l = record {
  inside : l.at ≤ length l.out;
  same : length l.out ≡ length l.fn.out;
  pending : number l.out + 256 ^ (length l.out - l.at) ≡ number l.fn.out + 1;
}

abbrev pub decreases-loop-at : goal.decreases-loop-at
decreases-loop-at l = l.at
