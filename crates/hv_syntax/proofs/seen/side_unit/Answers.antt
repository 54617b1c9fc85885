use Rattle.std.proofs.Common.{refl}
use Rattle.hv_syntax.proofs.seen.side_unit.Goals as goal

pub returns-in-Some : goal.returns-in-Some
returns-in-Some c = rw (c.in-Some.is, c.nth_unit.ensures) refl
