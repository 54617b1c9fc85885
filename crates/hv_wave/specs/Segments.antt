-- The segments of a picture: how its rows of coding tree blocks are cut, and when one is ready.
use Rattle.std.specs.Prelude.{◌≡◌, ◌≢◌, ℕ, ◌+◌, ◌-◌, ◌*◌, ◌/◌, ◌%◌, ◌<◌, ◌≤◌, min, List, length, slice_index_or, slice_set, replicate}

-- how far a segment is
pub data Stage : Type 0 where
  Waiting : Stage
  Taken : Stage
  Done : Stage

-- the columns of the picture, the greatest length of a segment, and how far each one is, by rows
pub record Wave : Type 0 where
  pub columns : ℕ
  pub segment : ℕ
  pub stages : List Stage

-- A row is cut from the left into runs of so many columns, of which the last may be shorter. This
-- run covers a column, and so many runs cover all columns.
abbrev pub covering : ℕ → ℕ → ℕ
covering segment column = column / segment

abbrev pub per_row : ℕ → ℕ → ℕ
per_row columns segment = covering segment (columns - 1) + 1

-- the row of a segment, and which one it is in its row
abbrev pub row_of : Wave → ℕ → ℕ
row_of w s = s / per_row w.columns w.segment

abbrev pub place_of : Wave → ℕ → ℕ
place_of w s = s % per_row w.columns w.segment

abbrev pub stage : Wave → ℕ → Stage
stage w s = slice_index_or w.stages s Waiting

-- the last column that a segment covers, and the column behind it, or the last one of the picture
abbrev pub last_column : Wave → ℕ → ℕ
last_column w s = min (place_of w s * w.segment + w.segment - 1) (w.columns - 1)

abbrev pub column_behind : Wave → ℕ → ℕ
column_behind w s = min (last_column w s + 1) (w.columns - 1)

-- the segment that covers this column in the row above
abbrev pub above : Wave → ℕ → ℕ
above w s =
    (row_of w s - 1) * per_row w.columns w.segment + covering w.segment (column_behind w s)

-- A segment is ready where it waits, and the one to its left and the one above right of it are
-- done. The first segment of a row has none to its left, and the first row has none above.
pub record IsReady (w : Wave) (s : ℕ) : Type 0 where
  pub there : s < length w.stages
  pub waiting : stage w s ≡ Waiting
  pub left : 0 < place_of w s → stage w (s - 1) ≡ Done
  pub above : 0 < row_of w s → stage w (above w s) ≡ Done

-- no segment below this number is ready; none at all; this is the first one
abbrev pub NoneIsReadyBelow : Wave → ℕ → Type 0
NoneIsReadyBelow w s = (t : ℕ) → t < s → ¬ IsReady w t

abbrev pub NoneIsReady : Wave → Type 0
NoneIsReady w = NoneIsReadyBelow w (length w.stages)

pub record IsFirstReady (w : Wave) (s : ℕ) : Type 0 where
  pub ready : IsReady w s
  pub first : NoneIsReadyBelow w s

abbrev pub IsComplete : Wave → Type 0
IsComplete w = (s : ℕ) → s < length w.stages → stage w s ≡ Done

-- Where no segment is taken and none is ready, all are done. So whatever the order in which
-- segments are done, the wave is complete in the end.
abbrev pub NoneIsTaken : Wave → Type 0
NoneIsTaken w = (s : ℕ) → s < length w.stages → stage w s ≢ Taken

abbrev pub WavesGoOn : Type 0
WavesGoOn =
    (w : Wave) → 1 ≤ w.columns → 1 ≤ w.segment → NoneIsTaken w → NoneIsReady w → IsComplete w

-- all segments wait; this one is so far
abbrev pub opening : ℕ → ℕ → ℕ → Wave
opening columns rows segment = record {
  columns = columns;
  segment = segment;
  stages = replicate (rows * per_row columns segment) Waiting;
}

abbrev pub with_stage : Wave → ℕ → Stage → Wave
with_stage w s stage = record w { stages = slice_set w.stages s stage }
