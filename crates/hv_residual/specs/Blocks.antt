-- A block of the code as the definitions have it.
use Rattle.hv_residual_model.specs.ResidualContexts.{TransformBlock}
use Rattle.hv_residual_model.specs.ScanOrder.{Position, at}
use Rattle.hv_residual.specs.declared.block.Block.{Block}
use Rattle.hv_residual.specs.declared.block.Spot.{Spot}
use Rattle.hv_residual.specs.declared.block.Corner.{Corner}

abbrev pub block_of : Block → TransformBlock
block_of b = record { scanIdx = b.scan; log2TrafoSize = b.log2; is_luma = b.luma }

abbrev pub spot_of : Spot → Position
spot_of s = at s.x s.y

abbrev pub corner_of : Corner → Position
corner_of c = at c.x c.y
