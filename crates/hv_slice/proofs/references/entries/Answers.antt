use Rattle.std.proofs.Common.{arith}
use Rattle.hv_group_model.specs.Structure.{reference_set}
use Rattle.hv_decision.specs.Sets.{set_entries}
use Rattle.hv_decision.proofs.SetLemmas.{length-set_entries}
use Rattle.hv_slice.proofs.SetEntryLemmas.{one_entry}
use Rattle.hv_slice.proofs.references.entries.Goals as goal

pub bounds-entries-from : goal.bounds-entries-from
bounds-entries-from c =
    omega (
      arith,
      c.from.ensures,
      c.loop-i-test.true,
      c.set_len-i-end.ensures.most,
      c.requires.levels,
    )

pub loop-i-preserved : goal.loop-i-preserved
loop-i-preserved c =
    let set = reference_set c.args.structure.now.count c.args.structure.now.levels c.args.picture in
    let size = length-set_entries set in
    one_entry c.loop-i.entries (set_entries set) c.loop-i.i c.from.result c.set_entry.result
    c.from.ensures c.loop-i.invariant.0
    (omega (arith, c.loop-i-test.true, c.set_len-i-end.ensures.most, c.requires.levels))
    (omega (arith, c.loop-i-test.true, c.set_len-i-end.ensures.value, size))
    c.loop-i.invariant.1 c.set_entry.ensures
