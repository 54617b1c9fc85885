use Rattle.std.proofs.Common.{ap, arith, length}
use Rattle.hv_decision.proofs.TableLemmas.{table_of, levels_few, length_rows, row_of_table, depth_of_table, entries_of_table}
use Rattle.hv_decision.proofs.structure.Structure.row.Goals as goal

pub index-requires : goal.index-requires
index-requires c =
    omega (
      arith,
      c.from.ensures,
      c.requires,
      c.self.inside.rows.ok.0,
      length_rows (table_of c.self.view_is c.self.invariant),
    )

pub returns-clause-value : goal.returns-clause-value
returns-clause-value c =
    row_of_table (table_of c.self.view_is c.self.invariant) c.args.k c.from.result
    c.index.result.now c.requires c.from.ensures c.index.ensures

pub returns-clause-depth : goal.returns-clause-depth
returns-clause-depth c =
    let is = returns-clause-value c in
    omega (
      arith,
      ap (λ r. r.coded.depth) is,
      depth_of_table (table_of c.self.view_is c.self.invariant) c.args.k c.requires,
    )

pub returns-clause-entries : goal.returns-clause-entries
returns-clause-entries c =
    let is = returns-clause-value c in
    omega (
      arith,
      ap (λ r. length r.entries) is,
      entries_of_table (table_of c.self.view_is c.self.invariant) c.args.k c.requires,
    )

pub returns-clause-levels : goal.returns-clause-levels
returns-clause-levels c = levels_few (table_of c.self.view_is c.self.invariant)
