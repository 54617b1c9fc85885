use Rattle.std.proofs.Common.{refl}
use Rattle.hv_show.proofs.OffsetLemmas.{off_valid}
use Rattle.hv_show.proofs.offsets.is_valid_off.Goals as goal

pub returns : goal.returns
returns c = λ yes.
    off_valid c.args.component c.requires (c.if-not-lies_between.ensures refl)
    (c.if-not-lies_between-2.ensures refl) (c.if-not-lies_between-3.ensures refl) (c.lies_between-3.ensures yes)
