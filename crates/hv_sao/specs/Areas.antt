-- The areas of blocks in planes.
use Rattle.std.specs.Prelude.{◌≡◌, ◌+◌, ◌^◌, ◌<◌, ◌≤◌}
use Rattle.hv_types.specs.Samples.{Plane, HasByteSamples}
use Rattle.hv_filter_model.specs.Blocks.{Area as ModelArea}
use Rattle.hv_sao.specs.declared.block.Area.{Area}

-- an area is inside two planes of one size, and 64 samples wide and high at most
pub record IsInside (deblocked input : Plane) (area : Area) : Type 0 where
  pub wide : input.width ≡ deblocked.width
  pub high : input.height ≡ deblocked.height
  pub across : area.left + area.columns ≤ deblocked.width
  pub down : area.top + area.rows ≤ deblocked.height
  pub columns : area.columns ≤ 64
  pub rows : area.rows ≤ 64
  pub bytes : HasByteSamples deblocked
  pub fits_across : area.left + area.columns < 2 ^ 32
  pub fits_down : area.top + area.rows < 2 ^ 32

-- the area that code stands for
abbrev pub area_of : Area → ModelArea
area_of area =
    record { left = area.left; top = area.top; columns = area.columns; rows = area.rows }
