-- The structure of a group, as contracts see it.
use Rattle.std.specs.Prelude.{◌≡◌, ◌≤◌, ℕ, List, map}
use Rattle.hv_types.specs.Configuration.{most_levels}
use Rattle.hv_group_model.specs.Structure.{coding, rising}
use Rattle.hv_decision.specs.declared.row.Row.{Row}
use Rattle.hv_decision.specs.Sets.{of_picture, row_as}

-- how many pictures the group has, and how many temporal levels lie above the lowest
pub record Structure : Type 0 where
  pub count : ℕ
  pub levels : ℕ

pub record IsStructure (s : Structure) : Type 0 where
  pub some : 1 ≤ s.count
  pub most : s.count ≤ 64
  pub few : s.levels ≤ most_levels

-- pictures in coding order, and a row for each picture in output order, are those of the definition
pub record IsTable (s : Structure) (order : List ℕ) (rows : List Row) : Type 0 where
  pub ranges : IsStructure s
  pub pictures : order ≡ map (λ c. c.picture) (coding s.count s.levels)
  pub by_picture : map row_as rows ≡ map (of_picture s.count s.levels) (rising s.count 0)
