use Rattle.std.proofs.Common.{◌≡◌, ◌<◌, ◌≤◌, ◌+◌, ◌-◌, ◌*◌, ◌^◌, ℕ, get_or}
use Rattle.hv_sample_model.specs.IntraPrediction.{left, above}
use Rattle.hv_intra.specs.References.{projected}
use Rattle.hv_intra.proofs.reference.fill_from_above.Given as goal

abbrev pub invariant-loop-i : goal.invariant-loop-i
invariant-loop-i l = (k : ℕ) → 2 ^ l.neighbours.side.log2 ≤ k → k < 2 ^ l.neighbours.side.log2 + l.i →
    get_or l.reference k 0 ≡ above l.neighbours.side.log2 l.neighbours.line.now (k - 2 ^ l.neighbours.side.log2)

abbrev pub invariant-loop-i-2 : goal.invariant-loop-i-2
invariant-loop-i-2 l = record {
  main : (k : ℕ) → 2 ^ l.neighbours.side.log2 ≤ k → k ≤ 3 * 2 ^ l.neighbours.side.log2 →
      get_or l.reference k 0 ≡ above l.neighbours.side.log2 l.neighbours.line.now (k - 2 ^ l.neighbours.side.log2);
  before : (k : ℕ) → 2 ^ l.neighbours.side.log2 ≤ k + l.i → k < 2 ^ l.neighbours.side.log2 →
      get_or l.reference k 0 ≡ left l.neighbours.side.log2 l.neighbours.line.now (projected l.mode.number (2 ^ l.neighbours.side.log2 - 1 - k));
}
