use Rattle.std.proofs.Common.{◌∙◌, ap, arith}
use Rattle.std.specs.Option.{option_and_then}
use Rattle.hv_search_model.specs.MotionSearch.{luma_of}
use Rattle.hv_search.proofs.MotionLemmas.{luma_past, searched_none}
use Rattle.hv_search.proofs.picture.searched.Goals as goal
use Rattle.hv_search.proofs.picture.searched.Goals.{in_default-via-in-Some+else-k-pictures, in_default-via-in_default}

pub returns-in_default-clause-is : goal.returns-in_default-clause-is
returns-in_default-clause-is c = elim c.in_default.branch [
  | in_default-via-in-Some+else-k-pictures w ↦
      searched_none c.args.group.now.input c.args.effort c.args.input.luma.now c.args.reference c.new.result.items
      (ap (option_and_then (luma_of c.args.group.now.input)) w.in-Some.is ∙ luma_past c.args.group.now.input w.in-Some.k (omega (arith, w.if-k-pictures.false, c.requires.pictures))) c.new.ensures.items
  | in_default-via-in_default w ↦
      searched_none c.args.group.now.input c.args.effort c.args.input.luma.now c.args.reference c.new.result.items
      (ap (option_and_then (luma_of c.args.group.now.input)) w.in_default.is) c.new.ensures.items
]
