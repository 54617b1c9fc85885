use Rattle.std.proofs.Common.{◌∙◌, arith, ap}
use Rattle.hv_residual_model.specs.ScanOrder.{Position}
use Rattle.hv_residual_model.specs.ResidualSyntax.{swapped_in}
use Rattle.hv_residual.specs.Blocks.{block_of, spot_of}
use Rattle.hv_residual.proofs.LastLemmas.{in_block, not_swapped_diagonal, not_swapped_horizontal, swapped_vertical, inside_side}
use Rattle.hv_residual.proofs.last.coded_position.Goals as goal

pub returns-in-Diagonal-clause-value : goal.returns-in-Diagonal-clause-value
returns-in-Diagonal-clause-value c =
    let p = in_block (block_of c.args.block) c.args.last.sub_block c.args.last.position
    (spot_of c.sub_block-corner.result) (spot_of c.place_in-place.result) c.args.last.inside
    c.sub_block-corner.ensures.spot c.place_in-place.ensures.spot in
    not_swapped_diagonal c.args.block.scan _ c.in-Diagonal.is ∙
    ap (λ (q : Position). swapped_in c.args.block.scan q) p

pub returns-in-Horizontal-clause-value : goal.returns-in-Horizontal-clause-value
returns-in-Horizontal-clause-value c =
    let p = in_block (block_of c.args.block) c.args.last.sub_block c.args.last.position
    (spot_of c.sub_block-corner.result) (spot_of c.place_in-place.result) c.args.last.inside
    c.sub_block-corner.ensures.spot c.place_in-place.ensures.spot in
    not_swapped_horizontal c.args.block.scan _ c.in-Horizontal.is ∙
    ap (λ (q : Position). swapped_in c.args.block.scan q) p

pub returns-in-Vertical-clause-value : goal.returns-in-Vertical-clause-value
returns-in-Vertical-clause-value c =
    let p = in_block (block_of c.args.block) c.args.last.sub_block c.args.last.position
    (spot_of c.sub_block-corner.result) (spot_of c.place_in-place.result) c.args.last.inside
    c.sub_block-corner.ensures.spot c.place_in-place.ensures.spot in
    swapped_vertical c.args.block.scan _ c.in-Vertical.is ∙
    ap (λ (q : Position). swapped_in c.args.block.scan q) p

pub returns-in-Diagonal-clause-column : goal.returns-in-Diagonal-clause-column
returns-in-Diagonal-clause-column c = inside_side c.args.block.log2 c.sub_block-corner.result.x
    c.place_in-place.result.x c.args.block.least c.sub_block-corner.ensures.column
    (omega (arith, c.place_in-place.ensures.column))

pub returns-in-Diagonal-clause-row : goal.returns-in-Diagonal-clause-row
returns-in-Diagonal-clause-row c = inside_side c.args.block.log2 c.sub_block-corner.result.y
    c.place_in-place.result.y c.args.block.least c.sub_block-corner.ensures.row
    (omega (arith, c.place_in-place.ensures.row))

pub returns-in-Horizontal-clause-column : goal.returns-in-Horizontal-clause-column
returns-in-Horizontal-clause-column c = inside_side c.args.block.log2 c.sub_block-corner.result.x
    c.place_in-place.result.x c.args.block.least c.sub_block-corner.ensures.column
    (omega (arith, c.place_in-place.ensures.column))

pub returns-in-Horizontal-clause-row : goal.returns-in-Horizontal-clause-row
returns-in-Horizontal-clause-row c = inside_side c.args.block.log2 c.sub_block-corner.result.y
    c.place_in-place.result.y c.args.block.least c.sub_block-corner.ensures.row
    (omega (arith, c.place_in-place.ensures.row))

pub returns-in-Vertical-clause-column : goal.returns-in-Vertical-clause-column
returns-in-Vertical-clause-column c = inside_side c.args.block.log2 c.sub_block-corner.result.y
    c.place_in-place.result.y c.args.block.least c.sub_block-corner.ensures.row
    (omega (arith, c.place_in-place.ensures.row))

pub returns-in-Vertical-clause-row : goal.returns-in-Vertical-clause-row
returns-in-Vertical-clause-row c = inside_side c.args.block.log2 c.sub_block-corner.result.x
    c.place_in-place.result.x c.args.block.least c.sub_block-corner.ensures.column
    (omega (arith, c.place_in-place.ensures.column))
