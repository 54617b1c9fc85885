-- What a write into a row does to the wave: for `next`, `done` and `give_back`. And when all is done: for `complete`.
use Rattle.std.proofs.Common.{◌≡◌, ℕ, ◌+◌, ◌-◌, ◌*◌, ◌/◌, ◌%◌, ◌<◌, ◌≤◌, ◌^◌, ◌∙◌, sym, ap, subst, refl, Bool, true, false, nat_eq, ◌&&◌, List, length, map, replicate, slice_index_or, slice_set, arith, inl, inr}
use Rattle.std.specs.Prelude.{◌⊎◌, All}
use Rattle.std.specs.List.{range_with_len}
use Rattle.std.proofs.lemmas.Bool.{and_from, and_parts, both_ways, cases_lt, eq-eqb, eqb-true}
use Rattle.std.proofs.lemmas.List.{get_or_past, get_or_read, get_or-replicate, length-replicate, length-set}
use Rattle.std.proofs.lemmas.List.FromFn.{fill_by_all}
use Rattle.std.proofs.lemmas.List.Elements.{All-set, All-from_get_or, All-replicate}
use Rattle.std.proofs.lemmas.Nat.{div_below, mod_below, div-add-mod'}
use Rattle.hv_wave.specs.declared.rows.Row.{Row}
use Rattle.hv_wave.specs.Segments.{Stage, Waiting, Taken, Done, Wave, per_row, stage, opening, with_stage, IsComplete, NoneIsReady}
use Rattle.hv_wave.specs.Rows.{row_at, no_row, stage_in, stage_of, as_seen, IsRow, IsWhole, IsFirstToGoOn, NoneGoesOnBefore, done_above}
use Rattle.hv_wave.proofs.StageLemmas.{stage_in-done, stage_in-free, stage_in-taken, stage_in-behind, done_from_stage, taken_from_stage, stage_at, stage_at_place, stages_of, stages_of-set, length-stages_of, place_there}
use Rattle.hv_wave.proofs.ReadyLemmas.{goes_from_test, none_ready}

abbrev pub row_with : ℕ → Bool → Row
row_with done taken = record { done = done; taken = taken }

-- a row that is whole stays so
pub whole-set : (columns segment : ℕ) (rows : List Row) (r : ℕ) (row : Row) → IsWhole columns segment rows →
    IsRow (per_row columns segment) row → IsWhole columns segment (slice_set rows r row)
whole-set columns segment rows r row whole good = record {
  wide = whole.wide;
  long = whole.long;
  few = subst (λ n. n * per_row columns segment < 2 ^ 32) (sym (length-set rows r row)) whole.few;
  each = All-set (IsRow (per_row columns segment)) rows r row good whole.each;
}

-- the rows that agree with an old one but at the next segment
same_but_next : (row : Row) (done : ℕ) (new : Row) → row.done ≡ done →
    (new ≡ row_with done true) ⊎ ((new ≡ row_with done false) ⊎ (new ≡ row_with (done + 1) false)) →
    (other : ℕ) → (other ≡ done → ⊥) → (other < done) ⊎ (done ≤ other) → stage_in new other ≡ stage_in row other
same_but_next row done new is which other away (inl below) =
    let least : done ≤ new.done = least_done which in
    stage_in-done new other (omega arith) ∙ sym (stage_in-done row other (omega arith))
  where
    least_done : (new ≡ row_with done true) ⊎ ((new ≡ row_with done false) ⊎ (new ≡ row_with (done + 1) false)) →
        done ≤ new.done
    least_done (inl e) = let d : new.done ≡ done = ap (λ x. x.done) e in omega arith
    least_done (inr (inl e)) = let d : new.done ≡ done = ap (λ x. x.done) e in omega arith
    least_done (inr (inr e)) = let d : new.done ≡ done + 1 = ap (λ x. x.done) e in omega arith
same_but_next row done new is which other away (inr behind) =
    waits which ∙ sym (stage_in-behind row other (omega arith))
  where
    waits : (new ≡ row_with done true) ⊎ ((new ≡ row_with done false) ⊎ (new ≡ row_with (done + 1) false)) →
        stage_in new other ≡ Waiting
    waits (inl e) = let d : new.done ≡ done = ap (λ x. x.done) e in stage_in-behind new other (omega arith)
    waits (inr (inl e)) = let d : new.done ≡ done = ap (λ x. x.done) e in stage_in-behind new other (omega arith)
    waits (inr (inr e)) =
        let d : new.done ≡ done + 1 = ap (λ x. x.done) e in
        stage_in-free new other (omega arith) (ap (λ x. x.taken) e)

-- .. so only the next segment of the row changes
seen-set : (columns segment : ℕ) (rows : List Row) (r done : ℕ) (new : Row) (stage : Stage) → r < length rows →
    done < per_row columns segment → (row_at rows r).done ≡ done →
    (new ≡ row_with done true) ⊎ ((new ≡ row_with done false) ⊎ (new ≡ row_with (done + 1) false)) →
    stage_in new done ≡ stage →
    as_seen columns segment (slice_set rows r new) ≡
    with_stage (as_seen columns segment rows) (r * per_row columns segment + done) stage
seen-set columns segment rows r done new stage in_rows there is which now =
    let P : List Stage → Wave = λ stages. record { columns = columns; segment = segment; stages = stages } in
    ap P (stages_of-set (per_row columns segment) r done rows new stage in_rows there now
    (λ other below away. same_but_next (row_at rows r) done new is which other away (cases_lt other done)))

-- ---- next

pub seen_taken : (columns segment : ℕ) (rows : List Row) (r : ℕ) (row : Row) →
    IsFirstToGoOn (per_row columns segment) rows r → row ≡ row_at rows r →
    as_seen columns segment (slice_set rows r (row_with row.done true)) ≡
    with_stage (as_seen columns segment rows) (r * per_row columns segment + row.done) Taken
seen_taken columns segment rows r row first is =
    let goes = goes_from_test (per_row columns segment) (done_above (per_row columns segment) rows r) (row_at rows r) first.yes in
    let same : (row_at rows r).done ≡ row.done = ap (λ x. x.done) (sym is) in
    seen-set columns segment rows r row.done (row_with row.done true) Taken first.there
    (subst (λ n. n < per_row columns segment) same goes.more) same (inl refl)
    (stage_in-taken (row_with row.done true) row.done refl refl)

-- ---- done, give_back

pub record IsTaken (columns segment : ℕ) (rows : List Row) (s : ℕ) (row : Row) : Type 0 where
  pub there : s / per_row columns segment < length rows
  pub next : s % per_row columns segment ≡ row.done
  pub taken : row.taken ≡ true
  pub more : row.done < per_row columns segment

pub taken_row : (columns segment : ℕ) (rows : List Row) (s : ℕ) (row : Row) →
    row ≡ row_at rows (s / per_row columns segment) → stage (as_seen columns segment rows) s ≡ Taken →
    IsTaken columns segment rows s row
taken_row columns segment rows s row is taken =
    let per : ℕ = per_row columns segment in
    let at = taken_from_stage (row_at rows (s / per)) (s % per) (sym (stage_at per rows s Waiting inside) ∙ taken) in
    record {
      there = div_below s per (length rows) (omega arith) inside;
      next = at.0 ∙ ap (λ x. x.done) (sym is);
      taken = ap (λ x. x.taken) is ∙ at.1;
      more = subst (λ n. n < per) (at.0 ∙ ap (λ x. x.done) (sym is)) (mod_below s per (omega arith));
    }
  where
    by_place : (s < length rows * per_row columns segment) ⊎ (length rows * per_row columns segment ≤ s) →
        s < length rows * per_row columns segment
    by_place (inl below) = below
    by_place (inr past) =
        let e : Waiting ≡ Taken =
        sym (get_or_past (stages_of (per_row columns segment) rows) s Waiting
        (subst (λ n. n ≤ s) (sym (length-stages_of (per_row columns segment) rows)) past))
        ∙ taken in cc

    inside : s < length rows * per_row columns segment
    inside = by_place (cases_lt s (length rows * per_row columns segment))

place_split : (per s done : ℕ) → s % per ≡ done → s / per * per + done ≡ s
place_split per s done is = let split : s / per * per + s % per ≡ s = div-add-mod' s per in omega arith

pub seen_done : (columns segment : ℕ) (rows : List Row) (s : ℕ) (row : Row) →
    row ≡ row_at rows (s / per_row columns segment) → stage (as_seen columns segment rows) s ≡ Taken →
    as_seen columns segment (slice_set rows (s / per_row columns segment) (row_with (row.done + 1) false)) ≡
    with_stage (as_seen columns segment rows) s Done
seen_done columns segment rows s row is taken =
    let t = taken_row columns segment rows s row is taken in
    seen-set columns segment rows (s / per_row columns segment) row.done (row_with (row.done + 1) false) Done
    t.there t.more (ap (λ x. x.done) (sym is)) (inr (inr refl))
    (stage_in-done (row_with (row.done + 1) false) row.done (omega arith))
    ∙ ap (λ n. with_stage (as_seen columns segment rows) n Done)
    (place_split (per_row columns segment) s row.done t.next)

pub seen_given_back : (columns segment : ℕ) (rows : List Row) (s : ℕ) (row : Row) →
    row ≡ row_at rows (s / per_row columns segment) → stage (as_seen columns segment rows) s ≡ Taken →
    as_seen columns segment (slice_set rows (s / per_row columns segment) (row_with row.done false)) ≡
    with_stage (as_seen columns segment rows) s Waiting
seen_given_back columns segment rows s row is taken =
    let t = taken_row columns segment rows s row is taken in
    seen-set columns segment rows (s / per_row columns segment) row.done (row_with row.done false) Waiting
    t.there t.more (ap (λ x. x.done) (sym is)) (inr (inl refl))
    (stage_in-free (row_with row.done false) row.done (omega arith) refl)
    ∙ ap (λ n. with_stage (as_seen columns segment rows) n Waiting)
    (place_split (per_row columns segment) s row.done t.next)

-- ---- complete

pub complete_from_rows : (columns segment : ℕ) (rows : List Row) →
    All (λ row. row.done ≡ per_row columns segment) rows → IsComplete (as_seen columns segment rows)
complete_from_rows columns segment rows all s there =
    let per : ℕ = per_row columns segment in
    let inside : s < length rows * per = subst (λ n. s < n) (length-stages_of per rows) there in
    let full : (row_at rows (s / per)).done ≡ per =
    all (s / per) no_row (div_below s per (length rows) (omega arith) inside) in
    let below : s % per < per = mod_below s per (omega arith) in
    stage_at per rows s Waiting inside
    ∙ stage_in-done (row_at rows (s / per)) (s % per) (omega arith)

pub rows_from_complete : (columns segment : ℕ) (rows : List Row) → IsWhole columns segment rows →
    IsComplete (as_seen columns segment rows) → (r : ℕ) → r < length rows →
    (row_at rows r).done ≡ per_row columns segment
rows_from_complete columns segment rows whole complete r below =
    let per : ℕ = per_row columns segment in
    let last : r * per + (per - 1) < length rows * per = place_there per r (per - 1) rows below (omega arith) in
    let done : per - 1 < (row_at rows r).done =
    done_from_stage (row_at rows r) (per - 1)
    (sym (stage_at_place per r (per - 1) rows Waiting below (omega arith))
    ∙ complete (r * per + (per - 1)) (subst (λ n. r * per + (per - 1) < n) (sym (length-stages_of per rows)) last)) in
    let most : (row_at rows r).done ≤ per = (whole.each r no_row below).most in
    omega arith

-- ---- as the code meets them: the length of a row and the row that is read by other names

-- what is read of a row that is there
pub row_read : (rows : List Row) (per own s : ℕ) (row : Row) → per ≡ own → s / own < length rows →
    row ≡ slice_index_or rows (s / per) row → row ≡ row_at rows (s / own)
row_read rows per own s row same below is =
    get_or_read rows (s / own) row below (is ∙ ap (λ n. slice_index_or rows (s / n) row) same) no_row

-- the row of a taken segment is there
pub taken_there : (columns segment : ℕ) (rows : List Row) (s per : ℕ) → per ≡ per_row columns segment →
    stage (as_seen columns segment rows) s ≡ Taken → s / per < length rows
taken_there columns segment rows s per same taken =
    subst (λ n. s / n < length rows) (sym same)
    (taken_row columns segment rows s (row_at rows (s / per_row columns segment)) refl taken).there

-- the taken segment that is written: its row as it is read
pub taken_read : (columns segment : ℕ) (rows : List Row) (s per : ℕ) (row : Row) → per ≡ per_row columns segment →
    stage (as_seen columns segment rows) s ≡ Taken → row ≡ slice_index_or rows (s / per) row →
    row ≡ row_at rows (s / per_row columns segment)
taken_read columns segment rows s per row same taken is =
    row_read rows per (per_row columns segment) s row same
    (taken_there columns segment rows s (per_row columns segment) refl taken) is

-- .. stays whole where the row has one segment more that is done, or none more
pub whole_after : (columns segment : ℕ) (rows : List Row) (r : ℕ) (done : ℕ) → IsWhole columns segment rows →
    done ≤ per_row columns segment → IsWhole columns segment (slice_set rows r (row_with done false))
whole_after columns segment rows r done whole most =
    whole-set columns segment rows r (row_with done false) whole record {
      most = most;
      taken = λ e. absurd (both_ways false refl e);
    }

-- the row that goes on, as it is read
pub first_read : (columns segment : ℕ) (rows : List Row) (r : ℕ) (row : Row) →
    IsFirstToGoOn (per_row columns segment) rows r → row ≡ slice_index_or rows r row → row ≡ row_at rows r
first_read columns segment rows r row first is = get_or_read rows r row first.there is no_row

pub first_more : (columns segment : ℕ) (rows : List Row) (r : ℕ) (row : Row) →
    IsFirstToGoOn (per_row columns segment) rows r → row ≡ row_at rows r → row.done < per_row columns segment
first_more columns segment rows r row first is =
    subst (λ x. x.done < per_row columns segment) (sym is)
    (goes_from_test (per_row columns segment) (done_above (per_row columns segment) rows r) (row_at rows r) first.yes).more

-- all is done exactly where all rows are
pub complete_by : (columns segment per : ℕ) (rows read : List Row) (w : Wave) → IsWhole columns segment rows →
    per ≡ per_row columns segment → read ≡ rows → as_seen columns segment rows ≡ w →
    (All (λ row. row.done ≡ per) read → IsComplete w) × (IsComplete w → All (λ row. row.done ≡ per) read)
complete_by columns segment per rows read w whole same is seen = (forth, back)
  where
    forth : All (λ row. row.done ≡ per) read → IsComplete w
    forth all =
        let full : All (λ row. row.done ≡ per) rows = subst (All (λ row. row.done ≡ per)) is all in
        subst IsComplete seen (complete_from_rows columns segment rows (λ k d below. full k d below ∙ same))

    back : IsComplete w → All (λ row. row.done ≡ per) read
    back complete =
        let whole' : (r : ℕ) → r < length rows → (row_at rows r).done ≡ per_row columns segment =
        rows_from_complete columns segment rows whole (subst IsComplete (sym seen) complete) in
        subst (All (λ row. row.done ≡ per)) (sym is)
        (All-from_get_or (λ row. row.done ≡ per) rows no_row (λ r below. whole' r below ∙ sym same))

-- ---- new

pub seen_new : (columns segment count : ℕ) (rows : List Row) → rows ≡ replicate count no_row →
    as_seen columns segment rows ≡ opening columns count segment
seen_new columns segment count rows is =
    let per : ℕ = per_row columns segment in
    let n : ℕ = count * per in
    let long : length rows * per ≡ n = ap (λ m. m * per) (ap length is ∙ length-replicate count no_row) in
    let free : (k : ℕ) → k < n → row_at rows (k / per) ≡ no_row =
    λ k below. ap (λ xs. row_at xs (k / per)) is
    ∙ get_or-replicate count (k / per) no_row no_row (div_below k per count (omega arith) below) in
    let each : (k : ℕ) → k < n → slice_index_or (replicate n Waiting) k Waiting ≡ stage_of per rows k =
    λ k below. get_or-replicate n k Waiting Waiting below
    ∙ sym (ap (λ x. stage_in x (k % per)) (free k below) ∙ stage_in-free no_row (k % per) (omega arith) refl) in
    let P : List Stage → Wave = λ stages. record { columns = columns; segment = segment; stages = stages } in
    ap P (ap (λ m. map (stage_of per rows) (range_with_len 0 m)) long
    ∙ sym (fill_by_all (stage_of per rows) (replicate n Waiting) n Waiting (length-replicate n Waiting) each))

pub whole_new : (columns segment count : ℕ) (rows : List Row) → rows ≡ replicate count no_row → 1 ≤ columns →
    1 ≤ segment → count * per_row columns segment < 2 ^ 32 → IsWhole columns segment rows
whole_new columns segment count rows is wide long few = record {
  wide = wide;
  long = long;
  few = subst (λ n. n * per_row columns segment < 2 ^ 32) (sym (ap length is ∙ length-replicate count no_row)) few;
  each = subst (All (IsRow (per_row columns segment))) (sym is)
      (All-replicate (IsRow (per_row columns segment)) count no_row
      record { most = omega arith; taken = λ e. absurd (both_ways false refl e) });
}

-- ---- what `next` reads: the rows and the length of a row by other names

pub none_by : (columns segment per : ℕ) (rows read : List Row) (w : Wave) → IsWhole columns segment rows →
    per ≡ per_row columns segment → read ≡ rows → as_seen columns segment rows ≡ w →
    NoneGoesOnBefore per read (length read) → NoneIsReady w
none_by columns segment per rows read w whole same is seen none =
    subst NoneIsReady seen (none_ready columns segment rows whole
    (subst (λ n. NoneGoesOnBefore n rows (length rows)) same
    (subst (λ xs. NoneGoesOnBefore per xs (length xs)) is none)))

pub first_by : (columns segment per : ℕ) (rows read : List Row) (r : ℕ) → per ≡ per_row columns segment → read ≡ rows →
    IsFirstToGoOn per read r → IsFirstToGoOn (per_row columns segment) rows r
first_by columns segment per rows read r same is first =
    subst (λ n. IsFirstToGoOn n rows r) same (subst (λ xs. IsFirstToGoOn per xs r) is first)

-- ---- is_taken

pub taken_iff : (columns segment : ℕ) (rows : List Row) (s : ℕ) (row : Row) →
    row ≡ row_at rows (s / per_row columns segment) → s / per_row columns segment < length rows →
    ((row.taken && nat_eq (s % per_row columns segment) row.done) ≡ true →
    stage (as_seen columns segment rows) s ≡ Taken)
    × (stage (as_seen columns segment rows) s ≡ Taken →
    (row.taken && nat_eq (s % per_row columns segment) row.done) ≡ true)
taken_iff columns segment rows s row is there = (forth, back)
  where
    per : ℕ
    per = per_row columns segment

    split : s / per * per + s % per ≡ s
    split = div-add-mod' s per

    inside : s < length rows * per
    inside = subst (λ n. n < length rows * per) split
        (place_there per (s / per) (s % per) rows there (mod_below s per (omega arith)))

    forth : (row.taken && nat_eq (s % per) row.done) ≡ true → stage (as_seen columns segment rows) s ≡ Taken
    forth test =
        let parts = and_parts row.taken (nat_eq (s % per) row.done) test in
        stage_at per rows s Waiting inside
        ∙ ap (λ x. stage_in x (s % per)) (sym is)
        ∙ stage_in-taken row (s % per) (eqb-true (s % per) row.done parts.1) parts.0

    back : stage (as_seen columns segment rows) s ≡ Taken → (row.taken && nat_eq (s % per) row.done) ≡ true
    back taken =
        let t = taken_row columns segment rows s row is taken in
        and_from row.taken (nat_eq (s % per) row.done) t.taken (eq-eqb (s % per) row.done t.next)

-- .. by the row that is read, and where there is none
pub taken_some : (columns segment per : ℕ) (rows read : List Row) (w : Wave) (s : ℕ) (row : Row) (test : Bool) →
    per ≡ per_row columns segment → read ≡ rows → as_seen columns segment rows ≡ w → s / per < length read →
    row ≡ slice_index_or read (s / per) row → test ≡ (row.taken && nat_eq (s % per) row.done) →
    (test ≡ true → stage w s ≡ Taken) × (stage w s ≡ Taken → test ≡ true)
taken_some columns segment per rows read w s row test same whole seen there is answer =
    let own : ℕ = per_row columns segment in
    let there' : s / own < length rows =
    subst (λ n. s / n < length rows) same (subst (λ xs. s / per < length xs) whole there) in
    let is' : row ≡ slice_index_or rows (s / per) row = is ∙ ap (λ xs. slice_index_or xs (s / per) row) whole in
    let iff = taken_iff columns segment rows s row (row_read rows per own s row same there' is') there' in
    let answer' : test ≡ (row.taken && nat_eq (s % own) row.done) =
    answer ∙ ap (λ n. row.taken && nat_eq (s % n) row.done) same in (
      λ e. subst (λ v. stage v s ≡ Taken) seen (iff.0 (sym answer' ∙ e)),
      λ e. answer' ∙ iff.1 (subst (λ v. stage v s ≡ Taken) (sym seen) e),
    )

pub taken_none : (columns segment per : ℕ) (rows read : List Row) (w : Wave) (s : ℕ) →
    per ≡ per_row columns segment → read ≡ rows → as_seen columns segment rows ≡ w → length read ≤ s / per →
    stage w s ≡ Taken → ⊥
taken_none columns segment per rows read w s same whole seen past taken =
    let there : s / per < length rows =
    taken_there columns segment rows s per same (subst (λ v. stage v s ≡ Taken) (sym seen) taken) in
    let past' : length rows ≤ s / per = subst (λ xs. length xs ≤ s / per) whole past in
    omega arith
