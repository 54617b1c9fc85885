use Rattle.std.proofs.Common.{map, refl, arith, take, ◌∷◌, []}
use mir.Val.{of_z}
use mir.Syntax.{w16}
use Rattle.hv_transform.proofs.LaneProductLemmas.{quad_is}
use Rattle.hv_lanes.proofs.LaneSumLemmas.{always}
use Rattle.hv_transform.proofs.products.quads.Goals as goal

pub returns : goal.returns
returns c =
    let l0 = quad_is c.args.a.now c.args.b.now c.args.weights.now (map (of_z w16) (take 16 c.args.weights.now)) 0 0 refl (omega arith) (omega arith) (omega arith) (omega arith) c.requires.first c.requires.second c.requires.weights in
    let l1 = quad_is c.args.a.now c.args.b.now c.args.weights.now (map (of_z w16) (take 16 c.args.weights.now)) 1 2 refl (omega arith) (omega arith) (omega arith) (omega arith) c.requires.first c.requires.second c.requires.weights in
    let l2 = quad_is c.args.a.now c.args.b.now c.args.weights.now (map (of_z w16) (take 16 c.args.weights.now)) 2 4 refl (omega arith) (omega arith) (omega arith) (omega arith) c.requires.first c.requires.second c.requires.weights in
    let l3 = quad_is c.args.a.now c.args.b.now c.args.weights.now (map (of_z w16) (take 16 c.args.weights.now)) 3 6 refl (omega arith) (omega arith) (omega arith) (omega arith) c.requires.first c.requires.second c.requires.weights in
    λ i. l0 i ∷ l1 i ∷ l2 i ∷ l3 i ∷ []

pub overflow_cast-m-2 : goal.overflow_cast-m-2
overflow_cast-m-2 c = (always _, (always _, (always _, (always _, (always _, (always _, (always _, (always _, tt))))))))

pub overflow_cast-m-4 : goal.overflow_cast-m-4
overflow_cast-m-4 c = (always _, (always _, (always _, (always _, (always _, (always _, (always _, (always _, tt))))))))

pub overflow_cast-m-3 : goal.overflow_cast-m-3
overflow_cast-m-3 c = (always _, (always _, (always _, (always _, (always _, (always _, (always _, (always _, tt))))))))
