use Rattle.std.proofs.Common.{◌≡◌, refl, arith, Bool, true, w8, to_z, of_z}
use Rattle.std.specs.Prelude.{ℤ, pos}
use Rattle.std.specs.Int.RustNames.{unsigned_abs}
use Rattle.std.specs.List.{list_all}
use Rattle.std.proofs.Math.Dec.{leb}
use Rattle.std.proofs.lemmas.Bool.{leb-true}
use Rattle.std.proofs.lemmas.List.Sums.{AllPass-from_list_all}
use Rattle.hv_tables.specs.Angles.{angles}
use Rattle.hv_tables.proofs.angles.intra_pred_angle.Goals as goal

is_small : ℤ → Bool
is_small angle = leb (unsigned_abs (to_z w8 (of_z w8 angle))) 32

all_small : list_all is_small angles ≡ true
unfolding is_small
all_small = refl

pub returns-clause-most : goal.returns-clause-most
unfolding is_small
returns-clause-most c =
    leb-true _ _
    (AllPass-from_list_all is_small angles all_small c.from.result (pos 0) (omega (arith, c.from.ensures)))
