-- A block's plan, and the blocks around it, as the definitions have them.
use Rattle.std.specs.Prelude.{Option, Some, None}
use Rattle.hv_block.specs.declared.edges.Edges.{Edges}
use Rattle.hv_block.specs.declared.edges.Neighbours.{Neighbours}
use Rattle.hv_block.specs.Plans.{CtbPlan}
use Rattle.hv_tree_model.specs.Plans.{Plan, UnitEdges, UnitsAround}

abbrev pub lists_of_plan : CtbPlan → Plan
lists_of_plan p = record { units = p.units; luma = p.luma; cb = p.cb; cr = p.cr }

abbrev pub unit_edges : Option Edges → Option UnitEdges
unit_edges None = None
unit_edges (Some e) = Some (record { right = e.right_units; bottom = e.bottom_units })

abbrev pub around_of : Neighbours → UnitsAround
around_of near = record {
  left = unit_edges near.left;
  above_left = unit_edges near.above_left;
  above = unit_edges near.above;
  above_right = unit_edges near.above_right;
}
