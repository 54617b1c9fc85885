use Rattle.std.proofs.Common.{ℕ, ◌*◌, List, refl, arith, subst, sym, pos, ◌+ℤ◌, ◌-ℤ◌}
use Rattle.std.proofs.lemmas.Int.{ints}
use Rattle.hv_types.specs.Samples.{Plane}
use Rattle.hv_search.specs.Nodes.{column_at, row_at, ShowsBest}
use Rattle.hv_search.specs.Windows.{plane_of_grid, Shows}
use Rattle.hv_search.proofs.FullLemmas.{all_shown, node_shown}
use Rattle.hv_search.proofs.WindowLemmas.{shows_from, came}
use Rattle.hv_search.proofs.full.full_keys.Goals as goal

pub returns : goal.returns
returns c =
    let input : Plane = plane_of_grid c.args.input in
    let reference : Plane = plane_of_grid c.args.reference in
    let x : ℕ = c.args.x in
    let y : ℕ = c.args.y in
    let s : List ℕ = c.copy_window.new.out in
    let r : List ℕ = c.copy_window-2.new.out in
    let shows_s : Shows input (pos x) (pos y) 80 s =
    shows_from input _ _ (pos x) (pos y) 80 s (came c.corner.result (pos x) c.corner.ensures.near (omega (arith, ints, c.corner.ensures.value))) (came c.corner-2.result (pos y) c.corner-2.ensures.near (omega (arith, ints, c.corner-2.ensures.value))) c.copy_window.ensures.shows in
    let shows_r : Shows reference (pos x +ℤ c.args.centre.x -ℤ pos 8) (pos y +ℤ c.args.centre.y -ℤ pos 8) 80 r =
    shows_from reference _ _ _ _ 80 r (came c.corner-left.result _ c.corner-left.ensures.near (omega (arith, ints, c.corner-left.ensures.value))) (came c.corner-top.result _ c.corner-top.ensures.near (omega (arith, ints, c.corner-top.ensures.value))) c.copy_window-2.ensures.shows in
    let best = c.search_nodes.ensures in
    let keys = c.key_list.ensures in
    let shown = node_shown input reference x y c.args.centre s r c.copy_window.ensures.count c.copy_window-2.ensures.count shows_s shows_r in
    all_shown input reference x y c.args.centre c.key_list.result
    (λ p below across down. shown (8 * column_at p) (8 * row_at p) 8 (omega (arith, below)) (omega (arith, below)) across down p _ refl refl (subst (λ key. ShowsBest s r 80 p 8 key) (sym (keys.eights p below)) (best.eights p below)))
    (λ p below across down. shown (8 * column_at p) (8 * row_at p) 16 (omega (arith, below)) (omega (arith, below)) across down p _ refl refl (subst (λ key. ShowsBest s r 80 p 16 key) (sym (keys.sixteens p below)) (best.sixteens p below)))
    (λ p below across down. shown (8 * column_at p) (8 * row_at p) 32 (omega (arith, below)) (omega (arith, below)) across down p _ refl refl (subst (λ key. ShowsBest s r 80 p 32 key) (sym (keys.thirty_twos p below)) (best.thirty_twos p below)))
    (λ across down. shown (8 * column_at 0) (8 * row_at 0) 64 (omega arith) (omega arith) across down 0 _ refl refl (subst (λ key. ShowsBest s r 80 0 64 key) (sym keys.whole) best.whole))
