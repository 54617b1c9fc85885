use Rattle.std.proofs.Common.{◌≡◌, ◌≤◌, ◌*◌, pos}
use Rattle.std.specs.Int.RustNames.{unsigned_abs}
use Rattle.hv_sao.specs.Decisions.{counts_to, sums_to}
use Rattle.hv_sao.proofs.offset.total.Given as goal

abbrev pub invariant-loop-j : goal.invariant-loop-j
invariant-loop-j l = record {
  count : pos l.count ≡ counts_to l.j l.tallies l.at;
  sum : l.sum ≡ sums_to l.j l.tallies l.at;
  few : l.count ≤ 4096 * l.j;
  small : unsigned_abs l.sum ≤ 1044480 * l.j;
}
