use Rattle.std.proofs.Common.{ℕ, [], refl}
use Rattle.std.specs.Prelude.{Some}
use Rattle.hv_block.specs.declared.block.Block.{Block}
use Rattle.hv_mode.specs.declared.task.Task.{Task}
use Rattle.hv_mode.specs.Nodes.{leaf_choice}
use Rattle.hv_mode.specs.SplitNodes.{unit_choices}
use Rattle.hv_mode.specs.WaitingNodes.{Tried, more_trees, with_entry}
use Rattle.hv_mode.proofs.CandidateLemmas.{units_in_order}
use Rattle.hv_mode.proofs.FrameLemmas.{same_refl, same_trans}
use Rattle.hv_mode.proofs.TriedLemmas.{waits_as}
use Rattle.hv_mode.proofs.tried.try_units.Goals as goal

pub returns-clause-kept : goal.returns-clause-kept
returns-clause-kept c =
    let address : ℕ = c.args.address in
    same_trans address c.args.out.now c.try_entry-least-2.new.out c.try_intra.new.out
    (same_trans address c.args.out.now c.try_entry-least.new.out c.try_entry-least-2.new.out
    c.try_entry-least.ensures.kept c.try_entry-least-2.ensures.kept)
    c.try_intra.ensures.kept

pub returns-clause-waits : goal.returns-clause-waits
returns-clause-waits c =
    let task : Task = c.args.task.now in
    let size : ℕ = c.args.size in
    let address : ℕ = c.args.address in
    let old : Block = c.args.out.now in
    let none : Tried = λ before. [] in
    let first : Tried = with_entry task size address 0 none in
    let second : Tried = with_entry task size address 1 first in
    let one = c.try_entry-least.ensures.waits none old (same_refl address old)
    (λ before here. refl) in
    let two = c.try_entry-least-2.ensures.waits first old c.try_entry-least.ensures.kept one in
    let three = c.try_intra.ensures.waits second old
    (same_trans address old c.try_entry-least.new.out c.try_entry-least-2.new.out
    c.try_entry-least.ensures.kept c.try_entry-least-2.ensures.kept) two in
    waits_as task size address (more_trees second (leaf_choice task size address))
    (unit_choices task size address) old c.try_intra.new.waiting (Some c.try_intra.result)
    (λ before here. units_in_order task size address before) three
