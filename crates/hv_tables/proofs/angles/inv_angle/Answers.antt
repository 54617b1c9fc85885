use Rattle.std.proofs.Common.{◌≡◌, refl, arith, Bool, true, to_z, of_z}
use Rattle.std.specs.Prelude.{ℤ, pos}
use Rattle.std.specs.Int.RustNames.{unsigned_abs}
use Rattle.std.specs.List.{list_all}
use Rattle.std.proofs.Math.Dec.{leb}
use Rattle.std.proofs.lemmas.Bool.{leb-true}
use Rattle.std.proofs.lemmas.List.Sums.{AllPass-from_list_all}
use mir.Syntax.{w16}
use Rattle.hv_tables.specs.Angles.{inverse_angles}
use Rattle.hv_tables.proofs.angles.inv_angle.Goals as goal

is_small : ℤ → Bool
is_small angle = leb (unsigned_abs (to_z w16 (of_z w16 angle))) 4096

all_small : list_all is_small inverse_angles ≡ true
unfolding is_small
all_small = refl

pub returns-clause-most : goal.returns-clause-most
unfolding is_small
returns-clause-most c =
    leb-true _ _
    (AllPass-from_list_all is_small inverse_angles all_small c.from.result (pos 0) (omega (arith, c.from.ensures)))
