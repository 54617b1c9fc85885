-- The areas of blocks.
use Rattle.std.proofs.Common.{◌≡◌, ℕ, ◌-◌, ◌*◌, ◌%◌, ◌<◌, ◌≤◌, ◌∙◌, ap, ap₂, arith}
use Rattle.std.proofs.Math.Nat.{mul-le-mul_right}
use Rattle.hv_types.specs.Samples.{Plane}
use Rattle.hv_filter_model.specs.Blocks.{block_area, Area as ModelArea}
use Rattle.hv_filter_model.specs.OffsetDecision.{Block, block_of as numbered_block}
use Rattle.hv_sao.specs.declared.block.Area.{Area}
use Rattle.hv_sao.specs.Areas.{area_of}
use Rattle.hv_sao.specs.Decisions.{block_of}

pub block_left : (index across side width : ℕ) → 0 < across → (across - 1) * side ≤ width → index % across * side ≤ width
block_left index across side width some fits =
    let most : index % across * side ≤ (across - 1) * side = mul-le-mul_right side (omega arith) in omega (arith, most, fits)

pub block_is : (d i e f : Plane) (area : Area) (side across count index : ℕ) → d ≡ e → i ≡ f → area_of area ≡ block_area side across index e →
    across ≡ count → block_of d i area ≡ numbered_block side count index e f
block_is d i e f area side across count index e₁ e₂ e₃ e₄ =
    let planes : Plane → Plane → Block = λ p q. record { deblocked = p; input = q; area = area_of area } in
    let areas : ModelArea → Block = λ r. record { deblocked = e; input = f; area = r } in
    ap₂ planes e₁ e₂ ∙ ap areas (e₃ ∙ ap (λ k. block_area side k index e) e₄)
