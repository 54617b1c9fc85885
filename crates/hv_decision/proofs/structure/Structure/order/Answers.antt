use Rattle.std.proofs.Common.{arith}
use Rattle.hv_decision.proofs.TableLemmas.{table_of, length_order, picture_of_table, picture_below}
use Rattle.hv_decision.proofs.structure.Structure.order.Goals as goal

pub index-requires : goal.index-requires
index-requires c =
    omega (
      arith,
      c.from.ensures,
      c.requires,
      c.self.inside.order.ok.0,
      length_order (table_of c.self.view_is c.self.invariant),
    )

pub returns-clause-value : goal.returns-clause-value
returns-clause-value c =
    picture_of_table (table_of c.self.view_is c.self.invariant)
    c.args.i c.from.result c.index.result.now c.requires c.from.ensures c.index.ensures

pub returns-clause-below : goal.returns-clause-below
returns-clause-below c =
    let is = picture_of_table (table_of c.self.view_is c.self.invariant)
    c.args.i c.from.result c.index.result.now c.requires c.from.ensures c.index.ensures in
    omega (
      arith,
      is,
      picture_below (table_of c.self.view_is c.self.invariant) c.args.i c.requires,
    )
