-- A segment is ready exactly where it is the next one of a row that goes on: for `next`.
use Rattle.std.proofs.Common.{◌≡◌, ℕ, zero, suc, ◌+◌, ◌-◌, ◌*◌, ◌/◌, ◌%◌, ◌<◌, ◌≤◌, ◌∙◌, sym, ap, ap₂, subst, refl, true, false, not, nat_lt, nat_eq, ◌&&◌, ◌||◌, min, List, length, arith, inl, inr}
use Rattle.std.specs.Prelude.{◌⊎◌}
use Rattle.std.proofs.lemmas.Bool.{and_parts, and_from, or_cases, or_left, or_right, cases_lt, cases_order, ltb-true, lt-ltb, eqb-true, eq-eqb, not-true, both_ways}
use Rattle.std.proofs.lemmas.Nat.{div-mul-add, mod-mul-add, div_below, mod_below, div-add-mod', mul-le}
use Rattle.hv_wave.specs.declared.rows.Row.{Row}
use Rattle.hv_wave.specs.Segments.{Waiting, Done, per_row, stage, above, IsReady, IsFirstReady, NoneIsReady}
use Rattle.hv_wave.specs.Rows.{row_at, no_row, as_seen, goes_on, row_goes_on, done_above, IsWhole, IsFirstToGoOn, NoneGoesOnBefore}
use Rattle.hv_wave.proofs.SegmentLemmas.{covering_behind}
use Rattle.hv_wave.proofs.StageLemmas.{stage_in-done, stage_in-free, done_from_stage, waiting_from_stage, stage_at, stage_at_place, length-stages_of, place_there}

-- ---- the test of a row, as facts

pub record Goes (per up : ℕ) (row : Row) : Type 0 where
  pub free : row.taken ≡ false
  pub more : row.done < per
  pub far : (up ≡ per) ⊎ (row.done + 1 < up)

pub goes_from_test : (per up : ℕ) (row : Row) → goes_on per up row ≡ true → Goes per up row
goes_from_test per up row test =
    let outer = and_parts (not row.taken && nat_lt row.done per) (nat_eq up per || nat_lt (row.done + 1) up) test in
    let inner = and_parts (not row.taken) (nat_lt row.done per) outer.0 in
    record {
      free = not-true row.taken inner.0;
      more = ltb-true row.done per inner.1;
      far = far_from (or_cases (nat_eq up per) (nat_lt (row.done + 1) up) outer.1);
    }
  where
    far_from : (nat_eq up per ≡ true) ⊎ (nat_lt (row.done + 1) up ≡ true) → (up ≡ per) ⊎ (row.done + 1 < up)
    far_from (inl e) = inl (eqb-true up per e)
    far_from (inr e) = inr (ltb-true (row.done + 1) up e)

pub test_from_goes : (per up : ℕ) (row : Row) → Goes per up row → goes_on per up row ≡ true
test_from_goes per up row goes =
    and_from (not row.taken && nat_lt row.done per) (nat_eq up per || nat_lt (row.done + 1) up)
    (and_from (not row.taken) (nat_lt row.done per) (ap not goes.free) (lt-ltb row.done per goes.more))
    (far_to goes.far)
  where
    far_to : (up ≡ per) ⊎ (row.done + 1 < up) → (nat_eq up per || nat_lt (row.done + 1) up) ≡ true
    far_to (inl e) = or_left (nat_eq up per) (nat_lt (row.done + 1) up) (eq-eqb up per e)
    far_to (inr below) =
        or_right (nat_eq up per) (nat_lt (row.done + 1) up) (lt-ltb (row.done + 1) up below)

-- ---- places

above_is : (columns segment : ℕ) (rows : List Row) (s : ℕ) → IsWhole columns segment rows →
    above (as_seen columns segment rows) s ≡
    (s / per_row columns segment - 1) * per_row columns segment +
    min (s % per_row columns segment + 1) (per_row columns segment - 1)
above_is columns segment rows s whole =
    let per : ℕ = per_row columns segment in
    ap (λ n. (s / per - 1) * per + n)
    (covering_behind columns segment (s % per) whole.wide whole.long (mod_below s per (omega arith)))

-- how far the row above a row is that isn't the first
done_above_row : (per : ℕ) (rows : List Row) (r : ℕ) → 0 < r → done_above per rows r ≡ (row_at rows (r - 1)).done
done_above_row per rows zero some = absurd (omega arith)
done_above_row per rows (suc r) some =
    let e : suc r - 1 ≡ r = omega arith in sym (ap (λ n. (row_at rows n).done) e)

-- ---- from a row to its segment

pub ready_from_row : (columns segment : ℕ) (rows : List Row) (r : ℕ) → IsWhole columns segment rows →
    r < length rows → row_goes_on (per_row columns segment) rows r ≡ true →
    IsReady (as_seen columns segment rows) (r * per_row columns segment + (row_at rows r).done)
ready_from_row columns segment rows r whole in_rows test = record {
  there = subst (λ n. s < n) (sym (length-stages_of per rows)) inside;
  waiting = stage_at_place per r done rows Waiting in_rows goes.more
      ∙ stage_in-free (row_at rows r) done (omega arith) goes.free;
  left = λ some. left_done (subst (λ n. 0 < n) rest some);
  above = λ some. above_done (subst (λ n. 0 < n) line some);
}
  where
    per : ℕ
    per = per_row columns segment

    done : ℕ
    done = (row_at rows r).done

    s : ℕ
    s = r * per + done

    goes : Goes per (done_above per rows r) (row_at rows r)
    goes = goes_from_test per (done_above per rows r) (row_at rows r) test

    inside : s < length rows * per
    inside = place_there per r done rows in_rows goes.more

    rest : s % per ≡ done
    rest = mod-mul-add r per done goes.more

    line : s / per ≡ r
    line = div-mul-add r per done goes.more

    left_done : 0 < done → stage (as_seen columns segment rows) (s - 1) ≡ Done
    left_done some =
        let before : s - 1 ≡ r * per + (done - 1) = omega arith in
        let below : done - 1 < per = omega (arith, goes.more) in
        ap (stage (as_seen columns segment rows)) before
        ∙ stage_at_place per r (done - 1) rows Waiting in_rows below
        ∙ stage_in-done (row_at rows r) (done - 1) (omega arith)

    far_enough : (done_above per rows r ≡ per) ⊎ (done + 1 < done_above per rows r) →
        done_above per rows r ≡ (row_at rows (r - 1)).done → min (done + 1) (per - 1) < (row_at rows (r - 1)).done
    far_enough (inl all) up = let more : done < per = goes.more in omega arith
    far_enough (inr far) up = let more : done < per = goes.more in omega arith

    above_done : 0 < r → stage (as_seen columns segment rows) (above (as_seen columns segment rows) s) ≡ Done
    above_done some =
        let to : ℕ = min (done + 1) (per - 1) in
        let is : above (as_seen columns segment rows) s ≡ (r - 1) * per + to =
        above_is columns segment rows s whole
        ∙ ap₂ (λ m n. (m - 1) * per + min (n + 1) (per - 1)) line rest in
        let up : done_above per rows r ≡ (row_at rows (r - 1)).done = done_above_row per rows r some in
        ap (stage (as_seen columns segment rows)) is
        ∙ stage_at_place per (r - 1) to rows Waiting (omega arith) (omega (arith, goes.more))
        ∙ stage_in-done (row_at rows (r - 1)) to (far_enough goes.far up)

-- ---- and back

pub record NextOfRow (columns segment : ℕ) (rows : List Row) (s : ℕ) : Type 0 where
  pub there : s / per_row columns segment < length rows
  pub goes_on : row_goes_on (per_row columns segment) rows (s / per_row columns segment) ≡ true
  pub next : s % per_row columns segment ≡ (row_at rows (s / per_row columns segment)).done

pub row_from_ready : (columns segment : ℕ) (rows : List Row) (s : ℕ) → IsWhole columns segment rows →
    IsReady (as_seen columns segment rows) s → NextOfRow columns segment rows s
row_from_ready columns segment rows s whole ready = record {
  there = in_rows;
  goes_on = test_from_goes per (done_above per rows r) (row_at rows r) record {
    free = waits.1 is;
    more = subst (λ n. n < per) is there;
    far = far (cases_order r 0);
  };
  next = is;
}
  where
    per : ℕ
    per = per_row columns segment

    r : ℕ
    r = s / per

    place : ℕ
    place = s % per

    there : place < per
    there = mod_below s per (omega arith)

    split : r * per + place ≡ s
    split = div-add-mod' s per

    inside : s < length rows * per
    inside = subst (λ n. s < n) (length-stages_of per rows) ready.there

    in_rows : r < length rows
    in_rows = div_below s per (length rows) (omega arith) inside

    waits : ((row_at rows r).done ≤ place) × (place ≡ (row_at rows r).done → (row_at rows r).taken ≡ false)
    waits = waiting_from_stage (row_at rows r) place (sym (stage_at per rows s Waiting inside) ∙ ready.waiting)

    left_behind : (place ≡ 0) ⊎ ((place < 0) ⊎ (0 < place)) → place ≤ (row_at rows r).done
    left_behind (inl first) = omega arith
    left_behind (inr (inl none)) = absurd (omega arith)
    left_behind (inr (inr some)) =
        let before : s - 1 ≡ r * per + (place - 1) = omega arith in
        let done : place - 1 < (row_at rows r).done =
        done_from_stage (row_at rows r) (place - 1)
        (sym (ap (stage (as_seen columns segment rows)) before
        ∙ stage_at_place per r (place - 1) rows Waiting in_rows (omega arith))
        ∙ ready.left some) in
        omega arith

    is : place ≡ (row_at rows r).done
    is = let left = left_behind (cases_order place 0) in let right = waits.0 in omega arith

    reached : (to up : ℕ) → to ≡ min (place + 1) (per - 1) → to < up → up ≤ per →
        (place + 1 < per) ⊎ (per ≤ place + 1) → (up ≡ per) ⊎ ((row_at rows r).done + 1 < up)
    reached to up e below most (inl inner) = inr (omega (arith, is))
    reached to up e below most (inr last) = inl (omega arith)

    far : (r ≡ 0) ⊎ ((r < 0) ⊎ (0 < r)) →
        (done_above per rows r ≡ per) ⊎ ((row_at rows r).done + 1 < done_above per rows r)
    far (inl first) = inl (ap (done_above per rows) first)
    far (inr (inl none)) = absurd (omega arith)
    far (inr (inr some)) =
        let to : ℕ = min (place + 1) (per - 1) in
        let at : stage (as_seen columns segment rows) ((r - 1) * per + to) ≡ Done =
        sym (ap (stage (as_seen columns segment rows)) (above_is columns segment rows s whole)) ∙ ready.above some in
        let done : to < (row_at rows (r - 1)).done =
        done_from_stage (row_at rows (r - 1)) to
        (sym (stage_at_place per (r - 1) to rows Waiting (omega (arith, in_rows)) (omega arith)) ∙ at) in
        let most : (row_at rows (r - 1)).done ≤ per = (whole.each (r - 1) no_row (omega (arith, in_rows))).most in
        let up : done_above per rows r ≡ (row_at rows (r - 1)).done = done_above_row per rows r some in
        reached to (done_above per rows r) refl (omega arith) (omega arith) (cases_lt (place + 1) per)

-- ---- the first one, and none

pub none_ready : (columns segment : ℕ) (rows : List Row) → IsWhole columns segment rows →
    NoneGoesOnBefore (per_row columns segment) rows (length rows) → NoneIsReady (as_seen columns segment rows)
none_ready columns segment rows whole none t below ready =
    let row = row_from_ready columns segment rows t whole ready in
    both_ways (row_goes_on (per_row columns segment) rows (t / per_row columns segment))
    (none (t / per_row columns segment) row.there) row.goes_on

pub first_ready : (columns segment : ℕ) (rows : List Row) (r : ℕ) → IsWhole columns segment rows →
    IsFirstToGoOn (per_row columns segment) rows r →
    IsFirstReady (as_seen columns segment rows) (r * per_row columns segment + (row_at rows r).done)
first_ready columns segment rows r whole first = record {
  ready = ready_from_row columns segment rows r whole first.there first.yes;
  first = λ t below ready. earlier t below (row_from_ready columns segment rows t whole ready)
      (cases_order (t / per_row columns segment) r);
}
  where
    per : ℕ
    per = per_row columns segment

    more : (row_at rows r).done < per
    more = (goes_from_test per (done_above per rows r) (row_at rows r) first.yes).more

    earlier : (t : ℕ) → t < r * per + (row_at rows r).done → NextOfRow columns segment rows t →
        (t / per ≡ r) ⊎ ((t / per < r) ⊎ (r < t / per)) → ⊥
    earlier t below row (inl same) =
        let split : t / per * per + t % per ≡ t = div-add-mod' t per in
        let line : t / per * per ≡ r * per = ap (λ n. n * per) same in
        let next : t % per ≡ (row_at rows r).done = row.next ∙ ap (λ n. (row_at rows n).done) same in
        omega arith
    earlier t below row (inr (inl before)) =
        both_ways (row_goes_on per rows (t / per)) (first.first (t / per) before) row.goes_on
    earlier t below row (inr (inr behind)) =
        let split : t / per * per + t % per ≡ t = div-add-mod' t per in
        let far : (r + 1) * per ≤ t / per * per = mul-le (r + 1) per (t / per) per (omega arith) (omega arith) in
        omega (arith, more)
