use Rattle.hv_mode.proofs.ErrorLemmas.{own_row}
use Rattle.hv_mode.proofs.errors.own_window.Goals as goal

pub invariant_of-result : goal.invariant_of-result
invariant_of-result c = record {
  whole = λ y below.
      own_row c.args.own.now c.args.side c.args.square.row c.args.square.column c.args.columns y
      c.requires.whole c.requires.right c.requires.bottom below;
}
