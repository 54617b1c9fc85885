-- Several parts that are put, one behind another.
use Rattle.std.proofs.Common.{List, ◌++◌}
use Rattle.hv_residual_model.specs.UnitBins.{UnitBin, PutsUnit}
use Rattle.hv_residual.proofs.PuttingLemmas.{Stands, puts_both}

pub puts_3 : {S : Type 0} (s : Stands S) (a b c d : S) (u v w : List UnitBin) →
    PutsUnit s a b u → PutsUnit s b c v →
    PutsUnit s c d w →
    PutsUnit s a d (u ++ (v ++ w))
puts_3 s a b c d u v w p1 p2 p3 =
    puts_both s a b d u (v ++ w) p1 (puts_both s b c d v w p2 p3)

pub puts_4 : {S : Type 0} (s : Stands S) (a b c d e : S) (u v w x : List UnitBin) →
    PutsUnit s a b u → PutsUnit s b c v →
    PutsUnit s c d w → PutsUnit s d e x →
    PutsUnit s a e (u ++ (v ++ (w ++ x)))
puts_4 s a b c d e u v w x p1 p2 p3 p4 =
    puts_both s a b e u (v ++ (w ++ x)) p1
    (puts_3 s b c d e v w x p2 p3 p4)

pub puts_5 : {S : Type 0} (s : Stands S) (a b c d e f : S) (u v w x y : List UnitBin) →
    PutsUnit s a b u → PutsUnit s b c v →
    PutsUnit s c d w → PutsUnit s d e x →
    PutsUnit s e f y →
    PutsUnit s a f (u ++ (v ++ (w ++ (x ++ y))))
puts_5 s a b c d e f u v w x y p1 p2 p3 p4 p5 =
    puts_both s a b f u (v ++ (w ++ (x ++ y))) p1
    (puts_4 s b c d e f v w x y p2 p3 p4 p5)

pub puts_6 : {S : Type 0} (s : Stands S) (a b c d e f g : S) (u v w x y z : List UnitBin) →
    PutsUnit s a b u → PutsUnit s b c v →
    PutsUnit s c d w → PutsUnit s d e x →
    PutsUnit s e f y → PutsUnit s f g z →
    PutsUnit s a g (u ++ (v ++ (w ++ (x ++ (y ++ z)))))
puts_6 s a b c d e f g u v w x y z p1 p2 p3 p4 p5 p6 =
    puts_both s a b g u (v ++ (w ++ (x ++ (y ++ z)))) p1
    (puts_5 s b c d e f g v w x y z p2 p3 p4 p5 p6)

pub puts_7 : {S : Type 0} (s : Stands S) (a b c d e f g h : S) (u v w x y z t : List UnitBin) →
    PutsUnit s a b u → PutsUnit s b c v →
    PutsUnit s c d w → PutsUnit s d e x →
    PutsUnit s e f y → PutsUnit s f g z →
    PutsUnit s g h t →
    PutsUnit s a h (u ++ (v ++ (w ++ (x ++ (y ++ (z ++ t))))))
puts_7 s a b c d e f g h u v w x y z t p1 p2 p3 p4 p5 p6 p7 =
    puts_both s a b h u (v ++ (w ++ (x ++ (y ++ (z ++ t))))) p1
    (puts_6 s b c d e f g h v w x y z t p2 p3 p4 p5 p6 p7)
