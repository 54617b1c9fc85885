-- Reference sets as slice headers list them, and the lives of pictures by which they are found.
use Rattle.std.specs.Prelude.{◌≡◌, ℕ, suc, ◌+◌, pos, neg_ℤ, Bool, cond, nat_lt, nat_eq, ◌&&◌, List, [], ◌∷◌, ◌++◌, map, length, slice_index_or}
use Rattle.std.specs.Int.{abs_diff}
use Rattle.std.specs.List.{list_any}
use Rattle.hv_group_model.specs.Structure.{rising, Coded, coded, Kept, ReferenceSet, place_in, set_in, coding}
use Rattle.hv_group_model.specs.Lives.{until_in}
use Rattle.hv_decision.specs.declared.row.SetEntry.{SetEntry}
use Rattle.hv_decision.specs.declared.row.Life.{Life}
use Rattle.hv_decision.specs.declared.row.Row.{Row}
use Rattle.hv_decision.specs.declared.coded.CodedPicture.{CodedPicture}
use Rattle.hv_decision.specs.Coding.{references_of, coded_as}

-- an entry for a picture before the one that keeps it, and for one after it
abbrev pub entry_before : Kept → SetEntry
entry_before k = record { delta = neg_ℤ (pos k.distance); used = k.is_used }

abbrev pub entry_after : Kept → SetEntry
entry_after k = record { delta = pos k.distance; used = k.is_used }

-- how a picture that is coded so keeps another one
abbrev pub kept_by : CodedPicture → ℕ → ℕ → Kept
kept_by c picture other = record {
  distance = abs_diff picture other;
  is_used = list_any (nat_eq other) (references_of c.references);
}

-- the entries in the order of the slice header: those before the picture, the nearest first, and
-- then those after it, the nearest first
abbrev pub set_entries : ReferenceSet → List SetEntry
set_entries s = map entry_before s.before ++ map entry_after s.after

-- the places from that where a picture is coded to the last where it is referred to
abbrev pub life_in : List Coded → ℕ → Life
life_in order picture = record { place = place_in order picture; until = until_in order picture }

-- the lives of all pictures of a group that are coded in this order
abbrev pub AreLives : List CodedPicture → List Life → Type 0
AreLives order lives = lives ≡ map (life_in (map coded_as order)) (rising (length order) 0)

-- a picture's life by what is coded from a place on, from that by what is coded behind the place
abbrev pub life_before : Life → Coded → ℕ → ℕ → Life
life_before life c place picture = record {
  place = cond (nat_eq c.picture picture) place life.place;
  until =
      cond (nat_lt 0 life.until) life.until
      (cond (list_any (nat_eq picture) c.references) (place + 1) 0);
}

-- the picture of this life is kept by the one at this place
abbrev pub is_kept_at : Life → ℕ → Bool
is_kept_at life place = nat_lt life.place place && nat_lt place life.until

-- ---- all of a picture

-- what the structure of a group says of one picture
pub record OfPicture : Type 0 where
  pub coded : Coded
  pub entries : List SetEntry
  pub before : ℕ

-- .. in a group of so many pictures that are coded in this order
abbrev pub row_in : List Coded → ℕ → ℕ → OfPicture
row_in order count picture =
    let set = set_in order count picture in record {
      coded = slice_index_or order (place_in order picture) (coded 0 0 []);
      entries = set_entries set;
      before = length set.before;
    }

abbrev pub of_picture : ℕ → ℕ → ℕ → OfPicture
of_picture count levels picture = row_in (coding count levels) count picture

abbrev pub row_as : Row → OfPicture
row_as r = record { coded = coded_as r.coded; entries = r.entries.items; before = r.before }
