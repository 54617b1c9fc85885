-- What holds of the coding order of every group.
use Rattle.std.specs.Prelude.{◌≡◌, ◌<◌, ◌≤◌, ℕ, All, length}
use Rattle.hv_types.specs.Configuration.{most_levels}
use Rattle.hv_group_model.specs.Structure.{coding, place_in, picture_at, coded_of}

-- each picture has one place, at which it stands, and refers to pictures at places before that
pub record IsOrder (count levels : ℕ) : Type 0 where
  pub below : (place : ℕ) → place < count → picture_at count levels place < count
  pub there : (picture : ℕ) → picture < count → place_in (coding count levels) picture < count
  pub place_of : (place : ℕ) → place < count →
      place_in (coding count levels) (picture_at count levels place) ≡ place
  pub picture_of : (picture : ℕ) → picture < count →
      picture_at count levels (place_in (coding count levels) picture) ≡ picture
  pub earlier : (picture : ℕ) → picture < count →
      All (λ r. place_in (coding count levels) r < place_in (coding count levels) picture)
      (coded_of count levels picture).references
  pub references_most : (picture : ℕ) → picture < count →
      length (coded_of count levels picture).references ≤ 2

-- .. for each count and each number of levels
abbrev pub AreOrders : Type 0
AreOrders =
    (count levels : ℕ) → 1 ≤ count → count ≤ 64 → levels ≤ most_levels → IsOrder count levels
