-- Signed numbers that pass through 32 bits.
use Rattle.std.proofs.Common.{◌≡◌, ℤ, ap, ◌∙◌}
use Rattle.std.proofs.lemmas.Int.{to_z-of_z}
use mir.Syntax.{w32}
use mir.Val.{SFits, to_z, of_z}

-- a number that is passed on is itself
pub passed : {B : Type 0} (f : ℤ → B) (x : ℤ) (y : B) → SFits w32 x →
    y ≡ f (to_z w32 (of_z w32 x)) → y ≡ f x
passed f x y fits e = e ∙ ap f (to_z-of_z w32 x fits)
