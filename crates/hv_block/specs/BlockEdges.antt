-- The edges of a coding tree block.
use Rattle.hv_block.specs.declared.block.Block.{Block}
use Rattle.hv_block.specs.declared.edges.Edges.{Edges}
use Rattle.hv_block.specs.Edges.{right_units, bottom_units, last_column, last_row}

abbrev pub edges_of : Block → Edges
edges_of block = record {
  right_units = right_units block.plan.units;
  bottom_units = bottom_units block.plan.units;
  right_luma = last_column 64 block.samples.luma;
  bottom_luma = last_row 64 block.samples.luma;
  right_cb = last_column 32 block.samples.cb;
  bottom_cb = last_row 32 block.samples.cb;
  right_cr = last_column 32 block.samples.cr;
  bottom_cr = last_row 32 block.samples.cr;
}
