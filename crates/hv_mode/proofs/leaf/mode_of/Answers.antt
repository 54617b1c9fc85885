use Rattle.std.proofs.Common.{ℕ, ◌≤◌, List, sym, ap, ap₂, subst, ◌∙◌}
use Rattle.hv_tree_model.specs.MostProbableModes.{candidates}
use Rattle.hv_tree_model.specs.Plans.{look_around}
use Rattle.hv_near.specs.Neighbours.{lists_of_plan, around_of}
use Rattle.hv_vector_model.specs.Vectors.{around_with_vectors}
use Rattle.hv_mode.specs.LumaModes.{mode_of_block}
use Rattle.hv_mode.specs.Nodes.{given_of}
use Rattle.hv_mode.proofs.ModeLemmas.{mode_most}
use Rattle.hv_mode.proofs.StillLemmas.{candidates_alike, around_alike, shown_coded}
use Rattle.hv_mode.proofs.leaf.mode_of.Goals as goal

pub returns-clause-most : goal.returns-clause-most
returns-clause-most g c =
    subst (λ mode. mode ≤ 34) (sym c.choose_luma_mode.ensures) (mode_most _ _ _ _ _ _)

-- the squares that were chosen have the modes of those of the plan
pub returns-clause-mode : goal.returns-clause-mode
returns-clause-mode g c = λ earlier shown.
    let task = c.args.task.now in
    let here = task.place in
    let around = around_of task.near.now in
    let plan = lists_of_plan c.args.out.now.plan in
    let squares = shown_coded here plan c.args.address earlier shown in
    c.choose_luma_mode.ensures ∙
    ap (λ (list : List ℕ). mode_of_block c.args.log2 task.qp task.effort list
    c.read_luma.new.out c.luma_line-line.result)
    (c.most_probable_modes-modes.ensures task.kind task.references squares.coded squares.shows
    c.requires.inside ∙
    candidates_alike task.kind task.references here (look_around here around)
    (look_around here (around_with_vectors around)) (around_alike around here) c.args.address
    squares.coded earlier squares.alike) ∙
    ap₂ (λ (samples line : List ℕ). mode_of_block c.args.log2 task.qp task.effort
    (candidates (given_of task).surroundings c.args.address earlier) samples line)
    c.read_luma.ensures c.luma_line-line.ensures.value
