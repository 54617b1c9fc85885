-- How far each segment is, by the rows of a wave.
use Rattle.std.proofs.Common.{◌≡◌, ℕ, ◌+◌, ◌*◌, ◌/◌, ◌%◌, ◌<◌, ◌≤◌, ◌∙◌, sym, ap, ap₂, subst, true, false, cond, nat_lt, nat_eq, ◌&&◌, Bool, List, length, map, slice_index_or, slice_set, arith, inl, inr}
use Rattle.std.specs.Prelude.{◌⊎◌}
use Rattle.std.specs.List.{range_with_len}
use Rattle.std.proofs.lemmas.Bool.{cases_eq, cases_lt, cases_Bool, lt-ltb, le-ltb, eq-eqb, ne_eqb}
use Rattle.std.proofs.lemmas.List.{get_or-set_same, get_or-set_other, length-set}
use Rattle.std.proofs.lemmas.List.FromFn.{get_or-map-range_with_len, length-map-range_with_len, fill_by_all}
use Rattle.std.proofs.lemmas.Nat.{div-mul-add, mod-mul-add, mul-add-lt, mod_below, div-add-mod'}
use Rattle.std.proofs.Math.Bool.{and-false}
use Rattle.hv_wave.specs.declared.rows.Row.{Row}
use Rattle.hv_wave.specs.Segments.{Stage, Waiting, Taken, Done}
use Rattle.hv_wave.specs.Rows.{stage_in, row_at, no_row, stage_of}

-- ---- one row

pub stage_in-done : (row : Row) (place : ℕ) → place < row.done → stage_in row place ≡ Done
stage_in-done row place below =
    let yes : nat_lt place row.done ≡ true = lt-ltb place row.done below in
    ap (λ t. cond t Done (cond (row.taken && nat_eq place row.done) Taken Waiting)) yes

stage_in-front : (row : Row) (place : ℕ) → row.done ≤ place →
    stage_in row place ≡ cond (row.taken && nat_eq place row.done) Taken Waiting
stage_in-front row place behind =
    let no : nat_lt place row.done ≡ false = le-ltb place row.done behind in
    ap (λ t. cond t Done (cond (row.taken && nat_eq place row.done) Taken Waiting)) no

pub stage_in-taken : (row : Row) (place : ℕ) → place ≡ row.done → row.taken ≡ true → stage_in row place ≡ Taken
stage_in-taken row place is taken =
    let yes : nat_eq place row.done ≡ true = eq-eqb place row.done is in
    stage_in-front row place (omega arith)
    ∙ ap (λ t. cond (t && nat_eq place row.done) Taken Waiting) taken
    ∙ ap (λ t. cond t Taken Waiting) yes

pub stage_in-free : (row : Row) (place : ℕ) → row.done ≤ place → row.taken ≡ false → stage_in row place ≡ Waiting
stage_in-free row place behind free =
    stage_in-front row place behind ∙ ap (λ t. cond (t && nat_eq place row.done) Taken Waiting) free

pub stage_in-behind : (row : Row) (place : ℕ) → row.done < place → stage_in row place ≡ Waiting
stage_in-behind row place behind =
    let no : nat_eq place row.done ≡ false = ne_eqb place row.done (λ e. omega arith) in
    stage_in-front row place (omega arith)
    ∙ ap (λ t. cond (row.taken && t) Taken Waiting) no
    ∙ ap (λ t. cond t Taken Waiting) (and-false row.taken)

-- .. and back
pub done_from_stage : (row : Row) (place : ℕ) → stage_in row place ≡ Done → place < row.done
done_from_stage row place is = by_place (cases_lt place row.done)
  where
    at_front : (t : Bool) → cond t Taken Waiting ≡ Done → ⊥
    at_front true e = cc
    at_front false e = cc

    by_place : (place < row.done) ⊎ (row.done ≤ place) → place < row.done
    by_place (inl below) = below
    by_place (inr behind) =
        absurd (at_front (row.taken && nat_eq place row.done) (sym (stage_in-front row place behind) ∙ is))

pub taken_from_stage : (row : Row) (place : ℕ) → stage_in row place ≡ Taken → (place ≡ row.done) × (row.taken ≡ true)
taken_from_stage row place is = by_order (cases_lt place row.done) (cases_lt row.done place) (cases_Bool row.taken)
  where
    by_order : (place < row.done) ⊎ (row.done ≤ place) → (row.done < place) ⊎ (place ≤ row.done) →
        (row.taken ≡ true) ⊎ (row.taken ≡ false) → (place ≡ row.done) × (row.taken ≡ true)
    by_order (inl below) up taken = let e : Done ≡ Taken = sym (stage_in-done row place below) ∙ is in cc
    by_order (inr behind) (inl above) taken = let e : Waiting ≡ Taken = sym (stage_in-behind row place above) ∙ is in cc
    by_order (inr behind) (inr up) (inl taken) = (omega arith, taken)
    by_order (inr behind) (inr up) (inr free) = let e : Waiting ≡ Taken = sym (stage_in-free row place behind free) ∙ is in cc

pub waiting_from_stage : (row : Row) (place : ℕ) → stage_in row place ≡ Waiting →
    (row.done ≤ place) × (place ≡ row.done → row.taken ≡ false)
waiting_from_stage row place is = (by_order (cases_lt place row.done), λ e. by_taken e (cases_Bool row.taken))
  where
    by_order : (place < row.done) ⊎ (row.done ≤ place) → row.done ≤ place
    by_order (inl below) = let e : Done ≡ Waiting = sym (stage_in-done row place below) ∙ is in cc
    by_order (inr behind) = behind

    by_taken : place ≡ row.done → (row.taken ≡ true) ⊎ (row.taken ≡ false) → row.taken ≡ false
    by_taken at (inl taken) = let e : Taken ≡ Waiting = sym (stage_in-taken row place at taken) ∙ is in cc
    by_taken at (inr free) = free

-- ---- all rows

abbrev pub stages_of : ℕ → List Row → List Stage
stages_of per rows = map (stage_of per rows) (range_with_len 0 (length rows * per))

pub length-stages_of : (per : ℕ) (rows : List Row) → length (stages_of per rows) ≡ length rows * per
length-stages_of per rows = length-map-range_with_len (stage_of per rows) 0 (length rows * per)

pub stage_at : (per : ℕ) (rows : List Row) (s : ℕ) (d : Stage) → s < length rows * per →
    slice_index_or (stages_of per rows) s d ≡ stage_of per rows s
stage_at per rows s d below =
    get_or-map-range_with_len (stage_of per rows) 0 (length rows * per) s s d below (omega arith)

pub place_there : (per r place : ℕ) (rows : List Row) → r < length rows → place < per →
    r * per + place < length rows * per
place_there per r place rows row there =
    let below : r * per + place < per * length rows = mul-add-lt r per place (length rows) row there in
    omega arith

pub stage_at_place : (per r place : ℕ) (rows : List Row) (d : Stage) → r < length rows → place < per →
    slice_index_or (stages_of per rows) (r * per + place) d ≡ stage_in (row_at rows r) place
stage_at_place per r place rows d row there =
    stage_at per rows (r * per + place) d (place_there per r place rows row there)
    ∙ ap₂ (λ m n. stage_in (row_at rows m) n) (div-mul-add r per place there) (mod-mul-add r per place there)

-- what is written into a row changes that one segment, where the row's other ones stay
pub stages_of-set : (per r place : ℕ) (rows : List Row) (row : Row) (stage : Stage) →
    r < length rows → place < per → stage_in row place ≡ stage →
    ((other : ℕ) → other < per → (other ≡ place → ⊥) → stage_in row other ≡ stage_in (row_at rows r) other) →
    stages_of per (slice_set rows r row) ≡ slice_set (stages_of per rows) (r * per + place) stage
stages_of-set per r place rows row stage in_rows there now others =
    let same : length (slice_set rows r row) ≡ length rows = length-set rows r row in
    let long : length (slice_set (stages_of per rows) (r * per + place) stage) ≡ length (slice_set rows r row) * per =
    length-set (stages_of per rows) (r * per + place) stage
    ∙ length-stages_of per rows
    ∙ sym (ap (λ n. n * per) same) in
    sym (fill_by_all (stage_of per (slice_set rows r row))
    (slice_set (stages_of per rows) (r * per + place) stage)
    (length (slice_set rows r row) * per) Waiting long
    (λ k below. each k (subst (λ n. k < n * per) same below) (cases_eq k (r * per + place)) (cases_eq (k / per) r)))
  where
    some : 0 < per
    some = omega arith

    each : (k : ℕ) → k < length rows * per → (k ≡ r * per + place) ⊎ (k ≡ r * per + place → ⊥) →
        (k / per ≡ r) ⊎ (k / per ≡ r → ⊥) →
        slice_index_or (slice_set (stages_of per rows) (r * per + place) stage) k Waiting ≡
        stage_of per (slice_set rows r row) k
    each k below (inl here) which =
        let at : k / per ≡ r = ap (λ n. n / per) here ∙ div-mul-add r per place there in
        let rest : k % per ≡ place = ap (λ n. n % per) here ∙ mod-mul-add r per place there in
        ap (λ n. slice_index_or (slice_set (stages_of per rows) (r * per + place) stage) n Waiting) here
        ∙ get_or-set_same (stages_of per rows) (r * per + place) stage Waiting
        (subst (λ n. r * per + place < n) (sym (length-stages_of per rows)) (place_there per r place rows in_rows there))
        ∙ sym now
        ∙ ap₂ stage_in (sym (get_or-set_same rows r row no_row in_rows) ∙ ap (row_at (slice_set rows r row)) (sym at)) (sym rest)
    each k below (inr away) (inl at) =
        let split : k / per * per + k % per ≡ k = div-add-mod' k per in
        let line : k / per * per ≡ r * per = ap (λ n. n * per) at in
        let rest : k % per ≡ place → ⊥ = λ e. away (omega arith) in
        get_or-set_other (stages_of per rows) (r * per + place) k stage Waiting away
        ∙ stage_at per rows k Waiting below
        ∙ ap (λ n. stage_in (row_at rows n) (k % per)) at
        ∙ sym (others (k % per) (mod_below k per some) rest)
        ∙ ap (λ x. stage_in x (k % per))
        (sym (get_or-set_same rows r row no_row in_rows) ∙ ap (row_at (slice_set rows r row)) (sym at))
    each k below (inr away) (inr elsewhere) =
        get_or-set_other (stages_of per rows) (r * per + place) k stage Waiting away
        ∙ stage_at per rows k Waiting below
        ∙ ap (λ x. stage_in x (k % per)) (sym (get_or-set_other rows r (k / per) row no_row elsewhere))
