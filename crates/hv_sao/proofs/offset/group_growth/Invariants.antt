use Rattle.std.proofs.Common.{◌≡◌, ◌≤◌, ◌*◌}
use Rattle.std.specs.Int.RustNames.{unsigned_abs}
use Rattle.hv_sao.specs.Decisions.{growths_to}
use Rattle.hv_sao.proofs.offset.group_growth.Given as goal

abbrev pub invariant-loop-j : goal.invariant-loop-j
invariant-loop-j l = record {
  value : l.all ≡ growths_to l.j l.tallies l.at l.base l.offset;
  small : unsigned_abs l.all ≤ 16777216 * l.j;
}
