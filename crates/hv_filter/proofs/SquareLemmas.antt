-- Squares of a picture, from its blocks.
use Rattle.std.proofs.Common.{◌≡◌, ℕ, ◌+◌, ◌*◌, ◌/◌, ◌%◌, List, refl, ◌∙◌, ap, ap₂, sym}
use Rattle.std.specs.Prelude.{slice_get, Some, option_map}
use Rattle.std.proofs.lemmas.Option.{slice_get-map}
use Rattle.hv_block.specs.declared.block.Block.{Block}
use Rattle.hv_block.specs.Edges.{address_of as block_address}
use Rattle.hv_tree_model.specs.Plans.{Plan}
use Rattle.hv_tree_model.specs.Sites.{address_of, blocks_over}
use Rattle.hv_deblock_model.specs.CodedSquares.{square_of_plan}
use Rattle.hv_filter.specs.JoinedPicture.{lists_of_plan, squares_of_blocks}

addresses_agree : (column row : ℕ) → block_address column row ≡ address_of column row
unfolding block_address address_of
addresses_agree column row = refl

pub square_in_blocks : (blocks : List Block) (width column row across address : ℕ)
    (block : Block) → across ≡ blocks_over width →
    slice_get blocks (row / 8 * across + column / 8) ≡ Some block →
    address ≡ block_address (column % 8) (row % 8) →
    square_of_plan (Some (lists_of_plan block.plan)) address ≡
    squares_of_blocks width blocks column row
square_in_blocks blocks width column row across address block over there at =
    let plan : Block → Plan = λ b. lists_of_plan b.plan in
    ap₂ square_of_plan
    (sym (
    slice_get-map plan blocks (row / 8 * blocks_over width + column / 8)
    ∙ ap (option_map plan)
    (ap (λ k. slice_get blocks (row / 8 * k + column / 8)) (sym over) ∙ there)))
    (at ∙ addresses_agree (column % 8) (row % 8))
