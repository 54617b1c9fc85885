-- Lives of the pictures of a group: from the place in coding order where a picture is coded to the
-- last one whose picture refers to it.
use Rattle.std.specs.Prelude.{ℕ, suc, Bool, cond, nat_eq, nat_lt, ◌&&◌, List, [], ◌∷◌}
use Rattle.std.specs.List.{list_any}
use Rattle.hv_group_model.specs.Structure.{Coded, place_in}

-- one past the last place whose picture refers to this one, or 0 where none does
abbrev pub until_in : List Coded → ℕ → ℕ
until_in [] picture = 0
until_in (first ∷ rest) picture =
    let later = until_in rest picture in
    cond (nat_lt 0 later) (suc later) (cond (list_any (nat_eq picture) first.references) 1 0)

pub record Life : Type 0 where
  pub picture : ℕ
  pub place : ℕ
  pub until : ℕ

abbrev pub life_in : List Coded → ℕ → Life
life_in order picture = record {
  picture = picture;
  place = place_in order picture;
  until = until_in order picture;
}

-- the picture of this life is kept by the one at this place
abbrev pub is_kept_at : Life → ℕ → Bool
is_kept_at life place = nat_lt life.place place && nat_lt place life.until
