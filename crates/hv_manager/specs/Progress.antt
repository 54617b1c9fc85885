-- How far the pictures of a group are, and how many of them name one: are it or refer to it.
use Rattle.std.specs.Prelude.{◌≡◌, ℕ, ◌+◌, ◌<◌, ◌≤◌, Bool, true, false, cond, nat_eq, ◌||◌, Option, None, Some, List, All, count_by, drop, length, replicate, slice_index, slice_index_or, slice_set}
use Rattle.std.specs.List.{list_any}
use Rattle.hv_group_model.specs.Structure.{Coded, coding, place_in, picture_at, coded_of}
use Rattle.hv_decision.specs.Structure.{Structure, IsStructure}

-- How many pictures and levels the group has, how many of its pictures are begun and written,
-- which are the first ones in coding order, and of each picture whether it is filtered.
pub record Progress : Type 0 where
  pub count : ℕ
  pub levels : ℕ
  pub begun : ℕ
  pub written : ℕ
  pub filtered : List Bool

-- nothing is begun
abbrev pub opening : ℕ → ℕ → Progress
opening count levels = record {
  count = count;
  levels = levels;
  begun = 0;
  written = 0;
  filtered = replicate count false;
}

-- this is the next picture in coding order to be begun, and to be written
pub record IsNextBegun (p : Progress) (k : ℕ) : Type 0 where
  pub more : p.begun < p.count
  pub is : k ≡ picture_at p.count p.levels p.begun

pub record IsNextWritten (p : Progress) (k : ℕ) : Type 0 where
  pub more : p.written < p.count
  pub is : k ≡ picture_at p.count p.levels p.written

abbrev pub begun_more : Progress → Progress
begun_more p = record p { begun = p.begun + 1 }

abbrev pub written_more : Progress → Progress
written_more p = record p { written = p.written + 1 }

abbrev pub IsBegun : Progress → ℕ → Type 0
IsBegun p k = place_in (coding p.count p.levels) k < p.begun

abbrev pub is_filtered : Progress → ℕ → Bool
is_filtered p k = slice_index_or p.filtered k false

abbrev pub with_filtered : Progress → ℕ → Progress
with_filtered p k = record p { filtered = slice_set p.filtered k true }

-- what is coded for a picture
abbrev pub coded_at : ℕ → ℕ → ℕ → Coded
coded_at count levels k = coded_of count levels k

-- all pictures to which this one refers are filtered
abbrev pub IsReady : Progress → ℕ → Type 0
IsReady p k = All (λ r. is_filtered p r ≡ true) (coded_at p.count p.levels k).references

-- a picture names another one where it is that one or refers to it
abbrev pub names : Coded → ℕ → Bool
names c k = nat_eq k c.picture || list_any (nat_eq k) c.references

-- the pictures that aren't written, and how many of them name this one
abbrev pub unfinished : Progress → List Coded
unfinished p = drop p.written (coding p.count p.levels)

abbrev pub live_of : Progress → ℕ → ℕ
live_of p k = count_by (λ c. names c k) (unfinished p)

-- ---- how the code keeps it

abbrev pub as_seen : Structure → ℕ → ℕ → List Bool → Progress
as_seen s begun written filtered = record {
  count = s.count;
  levels = s.levels;
  begun = begun;
  written = written;
  filtered = filtered;
}

-- these are the counts of the pictures that are named from a place in coding order on
pub record AreCounts (count levels place : ℕ) (live : List ℕ) : Type 0 where
  pub long : length live ≡ count
  pub each : (k : ℕ) → k < count →
      slice_index live k ≡ count_by (λ c. names c k) (drop place (coding count levels))

pub record IsKept (p : Progress) (live : List ℕ) : Type 0 where
  pub ranges : IsStructure record { count = p.count; levels = p.levels }
  pub begun : p.begun ≤ p.count
  pub written : p.written ≤ p.count
  pub filtered : length p.filtered ≡ p.count
  pub counts : AreCounts p.count p.levels p.written live

abbrev pub one_where : Bool → ℕ
one_where test = cond test 1 0

abbrev pub one_at : Option ℕ → ℕ → ℕ
one_at None k = 0
one_at (Some picture) k = one_where (nat_eq k picture)

-- a picture is filtered, where there is one
abbrev pub filtered_or_none : List Bool → Option ℕ → Bool
filtered_or_none filtered None = true
filtered_or_none filtered (Some picture) = slice_index_or filtered picture false
