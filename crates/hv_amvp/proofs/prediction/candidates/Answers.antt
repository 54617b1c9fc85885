use Rattle.std.proofs.Common.{◌≡◌, List, length, ap, ◌∙◌, sym}
use Rattle.hv_plan.specs.declared.prediction.Unit.{Unit}
use Rattle.hv_tree_model.specs.Plans.{Plan, look_around}
use Rattle.hv_near.specs.Neighbours.{lists_of_plan, around_of}
use Rattle.hv_vector_model.specs.declared.motion.Neighbourhood.{Neighbourhood}
use Rattle.hv_vector_model.specs.VectorPrediction.{mvpListL0}
use Rattle.hv_vector_model.specs.Vectors.{neighbourhood_of, plan_with_vectors, around_with_vectors}
use Rattle.hv_amvp.specs.Entries.{entries}
use Rattle.hv_amvp.specs.Own.{own_squares}
use Rattle.hv_amvp.proofs.OwnLemmas.{own_shows, same_neighbourhood}
use Rattle.hv_amvp.proofs.prediction.candidates.Goals as goal

pub returns : goal.returns
returns c = λ earlier shown.
    let plan : Plan = lists_of_plan c.args.plan.now in
    let all : length plan.units ≡ 64 =
    ap length (sym c.units.ensures.value) ∙ c.units.ensures.count in
    let seen : List Unit → Neighbourhood =
    λ units. neighbourhood_of (look_around c.args.place (around_with_vectors
    (around_of c.args.near.now))) c.args.size c.args.address
    (own_squares units c.args.address) in
    c.candidates_by.ensures ∙
    ap (mvpListL0 (entries c.args.distances) c.args.reference)
    (c.neighbourhood-around.ensures ∙ ap seen c.units.ensures.value ∙
    same_neighbourhood c.args.place (around_with_vectors (around_of c.args.near.now))
    (plan_with_vectors plan) c.args.size c.args.address
    (own_squares plan.units c.args.address) earlier
    (own_shows c.args.place plan c.args.address all c.requires.inside) shown)
