use Rattle.std.proofs.Common.{◌≡◌, ap, sym}
use Rattle.hv_tables.specs.declared.bins.SliceKind.TheVariants.{I, P}
use Rattle.hv_tables.specs.ContextTables.{values_of_kind}
use Rattle.hv_tables.proofs.contexts.init_values.Goals as goal

pub returns-in-I-clause-value : goal.returns-in-I-clause-value
unfolding values_of_kind
returns-in-I-clause-value c =
    let e : values_of_kind I ≡ values_of_kind c.args.kind = ap values_of_kind (sym c.in-I.is) in e

pub returns-in-P-clause-value : goal.returns-in-P-clause-value
unfolding values_of_kind
returns-in-P-clause-value c =
    let e : values_of_kind P ≡ values_of_kind c.args.kind = ap values_of_kind (sym c.in-P.is) in e
