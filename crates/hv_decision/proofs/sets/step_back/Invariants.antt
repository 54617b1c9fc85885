-- the pictures so far have gone back, and the others not yet
use Rattle.std.proofs.Common.{◌≡◌, ◌<◌, ◌≤◌, ℕ, length}
use Rattle.std.specs.Prelude.{slice_index_or}
use Rattle.hv_decision.specs.Coding.{coded_as}
use Rattle.hv_decision.specs.Sets.{life_before}
use Rattle.hv_decision.specs.declared.row.Life.{Life}
use Rattle.hv_decision.proofs.sets.step_back.Given as goal

abbrev pub invariant-loop-picture : goal.invariant-loop-picture
invariant-loop-picture l = record {
  count : length l.lives.items ≡ length l.initial.lives.items;
  back : (d : Life) (p : ℕ) → p < l.picture → slice_index_or l.lives.items p d ≡
      life_before (slice_index_or l.initial.lives.items p d) (coded_as l.coded) l.fn.place p;
  others : (d : Life) (p : ℕ) → l.picture ≤ p →
      slice_index_or l.lives.items p d ≡ slice_index_or l.initial.lives.items p d;
}
