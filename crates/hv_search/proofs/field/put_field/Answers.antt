use Rattle.std.proofs.Common.{ℤ, pos, ◌+ℤ◌, ◌-ℤ◌, arith}
use Rattle.std.proofs.lemmas.Int.{ints}
use Rattle.hv_search.specs.Windows.{plane_of_grid}
use Rattle.hv_search.proofs.FieldLemmas.{window_shown, fractions_from}
use Rattle.hv_search.proofs.WindowLemmas.{shows_from, came}
use Rattle.hv_search.proofs.field.put_field.Goals as goal

pub returns-clause-shows : goal.returns-clause-shows
returns-clause-shows c =
    let x : ℤ = pos c.args.x +ℤ c.args.centre.x in
    let y : ℤ = pos c.args.y +ℤ c.args.centre.y in
    fractions_from c.args.reference.now x y c.predict_fractions.new.out
    (c.predict_fractions.ensures.shows c.args.reference.now (x -ℤ pos 12) (y -ℤ pos 12)
    (window_shown (plane_of_grid c.grid_of.result) c.args.reference.now (x -ℤ pos 12) (y -ℤ pos 12) c.copy_window.new.out
    c.grid_of.ensures c.copy_window.ensures.count
    (shows_from (plane_of_grid c.grid_of.result) _ _ (x -ℤ pos 12) (y -ℤ pos 12) 104 c.copy_window.new.out
    (came c.corner-left.result (x -ℤ pos 12) c.corner-left.ensures.near (omega (arith, ints, c.corner-left.ensures.value)))
    (came c.corner-top.result (y -ℤ pos 12) c.corner-top.ensures.near (omega (arith, ints, c.corner-top.ensures.value)))
    c.copy_window.ensures.shows)))
