use Rattle.std.proofs.Common.{refl, arith}
use Rattle.hv_show.proofs.OffsetLemmas.{edge_valid}
use Rattle.hv_show.proofs.offsets.is_valid_edge.Goals as goal

pub returns : goal.returns
returns c = λ yes.
    edge_valid c.args.component c.args.class c.requires (omega (arith, c.if-class-ge4.false))
    (c.if-not-lies_between.ensures refl) (c.if-not-lies_between-2.ensures refl) (c.if-not-lies_between-3.ensures refl)
    (c.lies_between-3.ensures yes)
