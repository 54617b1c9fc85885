use Rattle.std.proofs.Common.{◌≡◌, None, replicate, vec_capacity, vec_len}
use Rattle.hv_reorder.proofs.reorder.Reorder.new.Given as goal

abbrev pub invariant-loop : goal.invariant-loop
invariant-loop g l = record {
  room : vec_capacity l.places ≡ l.fn.capacity;
  count : vec_len l.places ≡ l.counter;
  empty : l.places.items ≡ replicate l.counter None;
}
