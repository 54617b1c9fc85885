-- The laws of the tables of context variables (9.3.2.2), for context_tables_laws and init_values.
use Rattle.std.proofs.Common.{◌≡◌, ◌+◌, ◌≤◌, length, refl, arith}
use Rattle.hv_tables.specs.declared.bins.SliceKind.{SliceKind}
use Rattle.hv_tables.specs.declared.bins.SliceKind.TheVariants.{I, P}
use Rattle.hv_tables.specs.declared.bins.CtxTable.{CtxTable}
use Rattle.hv_tables.specs.declared.bins.CtxTable.TheVariants.{Split}
use Rattle.hv_tables.specs.ContextTables.{initValue, offset_of, tables, values_of_kind}
use Rattle.hv_tables.specs.ContextTableLaws.{AreAdjacent, AreFull, HaveValues, HavePlaces, HaveSums, CoordinatesAreAlike}

pub adjacent : AreAdjacent 0 tables
adjacent = search

pub full : AreFull
full Split = refl
full _ = refl

pub have_values : HaveValues
have_values I Split = refl
have_values I _ = refl
have_values P Split = refl
have_values P _ = refl

-- where a table ends
ends : (kind : SliceKind) (table : CtxTable) → offset_of table + length (initValue kind table) ≤ 140
ends I Split = omega arith
ends I _ = omega arith
ends P Split = omega arith
ends P _ = omega arith

pub have_places : HavePlaces
have_places kind context valid = omega (arith, ends kind context.table)

pub have_sums : HaveSums
have_sums I Split = refl
have_sums I _ = refl
have_sums P Split = refl
have_sums P _ = refl

pub alike : CoordinatesAreAlike
alike I = refl
alike P = refl

pub length-values_of_kind : (kind : SliceKind) → length (values_of_kind kind) ≡ 140
unfolding values_of_kind
length-values_of_kind I = refl
length-values_of_kind P = refl
