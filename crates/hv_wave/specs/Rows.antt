-- How the code keeps a wave: of each row how many segments are done, and whether the next is taken.
use Rattle.std.specs.Prelude.{◌≡◌, ℕ, zero, suc, ◌+◌, ◌*◌, ◌/◌, ◌%◌, ◌<◌, ◌≤◌, ◌^◌, Bool, true, false, not, cond, ◌&&◌, ◌||◌, nat_eq, nat_lt, List, All, length, map, slice_index_or}
use Rattle.std.specs.List.{range_with_len}
use Rattle.hv_wave.specs.declared.rows.Row.{Row}
use Rattle.hv_wave.specs.Segments.{Stage, Waiting, Taken, Done, Wave, per_row}

-- how far a segment of a row is
abbrev pub stage_in : Row → ℕ → Stage
stage_in row place =
    cond (nat_lt place row.done) Done (cond (row.taken && nat_eq place row.done) Taken Waiting)

-- what stands for a row that isn't there
abbrev pub no_row : Row
no_row = record { done = 0; taken = false }

abbrev pub row_at : List Row → ℕ → Row
row_at rows r = slice_index_or rows r no_row

-- how far a segment of the picture is, where a row has so many
abbrev pub stage_of : ℕ → List Row → ℕ → Stage
stage_of per rows s = stage_in (row_at rows (s / per)) (s % per)

abbrev pub as_seen : ℕ → ℕ → List Row → Wave
as_seen columns segment rows =
    let per = per_row columns segment in record {
      columns = columns;
      segment = segment;
      stages = map (stage_of per rows) (range_with_len 0 (length rows * per));
    }

-- no more segments of a row are done than it has, and a taken one is there
pub record IsRow (per : ℕ) (row : Row) : Type 0 where
  pub most : row.done ≤ per
  pub taken : row.taken ≡ true → row.done < per

pub record IsWhole (columns segment : ℕ) (rows : List Row) : Type 0 where
  pub wide : 1 ≤ columns
  pub long : 1 ≤ segment
  pub few : length rows * per_row columns segment < 2 ^ 32
  pub each : All (IsRow (per_row columns segment)) rows

-- ---- which row goes on

-- the next segment of a row is ready, where so many are done in the row above
abbrev pub goes_on : ℕ → ℕ → Row → Bool
goes_on per above row =
    not row.taken && nat_lt row.done per && (nat_eq above per || nat_lt (row.done + 1) above)

-- how many are done in the row above this one; the first row goes on as below a row that is done
abbrev pub done_above : ℕ → List Row → ℕ → ℕ
done_above per rows zero = per
done_above per rows (suc r) = (row_at rows r).done

abbrev pub row_goes_on : ℕ → List Row → ℕ → Bool
row_goes_on per rows r = goes_on per (done_above per rows r) (row_at rows r)

abbrev pub NoneGoesOnBefore : ℕ → List Row → ℕ → Type 0
NoneGoesOnBefore per rows n = (r : ℕ) → r < n → row_goes_on per rows r ≡ false

pub record IsFirstToGoOn (per : ℕ) (rows : List Row) (r : ℕ) : Type 0 where
  pub there : r < length rows
  pub yes : row_goes_on per rows r ≡ true
  pub first : NoneGoesOnBefore per rows r
