use Rattle.std.proofs.Common.{ℕ, sym, ◌∙◌}
use Rattle.std.specs.Prelude.{Some}
use Rattle.hv_plan.specs.declared.prediction.Mv.{Mv}
use Rattle.hv_mode.specs.declared.task.Task.{Task}
use Rattle.hv_mode.specs.InterChoices.{inter_choice}
use Rattle.hv_mode.specs.WaitingNodes.{more_trees, with_entry}
use Rattle.hv_mode.proofs.CandidateLemmas.{is_named, none_more, one_more}
use Rattle.hv_mode.proofs.FrameLemmas.{same_refl, decides_since}
use Rattle.hv_mode.proofs.TriedLemmas.{is_none, waits_as}
use Rattle.hv_mode.proofs.tried.try_entry.Goals as goal

-- none was found
pub returns-in_default-clause-kept : goal.returns-in_default-clause-kept
returns-in_default-clause-kept c = same_refl c.args.address c.args.out.now

pub returns-in_default-clause-waits : goal.returns-in_default-clause-waits
returns-in_default-clause-waits c = λ trees old same waits.
    let task : Task = c.args.task.now in
    let size : ℕ = c.args.size in
    let address : ℕ = c.args.address in
    let entry : ℕ = c.args.entry in
    waits_as task size address trees (with_entry task size address entry trees) old
    c.args.waiting.now c.args.least
    (none_more task size address entry trees old (sym c.found.ensures ∙
    is_none c.found.result c.in_default.not-Some)) waits

-- one was
pub decide_inter-requires-clause-named : goal.decide_inter-requires-clause-named
decide_inter-requires-clause-named c =
    is_named c.args.task.now c.args.size c.args.address c.args.entry c.in-Some.mv
    (sym c.found.ensures ∙ c.in-Some.is)

pub returns-clause-kept : goal.returns-clause-kept
returns-clause-kept c = c.decide_inter.ensures.kept

pub returns-clause-waits : goal.returns-clause-waits
returns-clause-waits c = λ trees old same waits.
    let task : Task = c.args.task.now in
    let size : ℕ = c.args.size in
    let address : ℕ = c.args.address in
    let entry : ℕ = c.args.entry in
    let mv : Mv = c.in-Some.mv in
    waits_as task size address (more_trees trees (inter_choice task size address entry mv))
    (with_entry task size address entry trees) old c.keep_less.new.waiting
    (Some c.keep_less.result)
    (one_more task size address entry trees old mv (sym c.found.ensures ∙ c.in-Some.is))
    (c.keep_less.ensures trees (inter_choice task size address entry mv) old
    (decides_since task size address (inter_choice task size address entry mv) old
    c.args.out.now c.decide_inter.new.out same c.decide_inter.ensures) waits)
