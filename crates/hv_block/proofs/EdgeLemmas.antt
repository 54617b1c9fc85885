-- Lists of edges: how a loop fills them, and what stands in them.
use Rattle.std.proofs.Common.{◌≡◌, ℕ, suc, ◌+◌, ◌-◌, ◌*◌, ◌<◌, ◌≤◌, List, [], ◌∷◌, ◌++◌, length, set, take, arith, ap, ap₂, sym, subst, ◌∙◌, take-suc-set, length-drop, get_or-drop}
use Rattle.std.specs.Prelude.{Some, slice_get, slice_index, slice_index_or}
use Rattle.std.proofs.Math.Dec.{lit<}
use Rattle.std.proofs.Math.Nat.{mul-le-mul_right, add-mul}
use Rattle.std.proofs.lemmas.Option.{slice_get-get_or}
use Rattle.hv_lemmas.specs.Lists.{tabulate}
use Rattle.hv_lemmas.proofs.ListLemmas.{tabulate_push, length-tabulate, get_or-tabulate}
use Rattle.hv_plan.specs.declared.prediction.Unit.{Unit}
use Rattle.hv_block.specs.Plans.{opening_unit}
use Rattle.hv_block.specs.Edges.{address_of, right_units, bottom_units, last_column, last_row}

-- one place more
pub tabulate-filled : {A : Type 0} (f : ℕ → A) (list : List A) (k : ℕ) (value : A) →
    k < length list → take k list ≡ tabulate k f → value ≡ f k →
    take (k + 1) (set list k value) ≡ tabulate (k + 1) f
tabulate-filled f list k value below before here =
    let more : k + 1 ≡ suc k = omega arith in
    let step : take (suc k) (set list k value) ≡ tabulate (suc k) f =
    take-suc-set list k value below ∙ ap₂ (λ front last. front ++ last ∷ []) before here ∙
    sym (tabulate_push k f) in
    subst (λ n. take n (set list k value) ≡ tabulate n f) (sym more) step

-- an address is one of 64
pub address_below : (column row : ℕ) → column < 8 → row < 8 → address_of column row < 64
unfolding address_of
address_below column row across down = omega arith

-- the unit that stands in an edge

unit_there : (units : List Unit) (f : ℕ → ℕ) (i : ℕ) → length units ≡ 64 → f i < 64 → i < 8 →
    slice_get (tabulate 8 (λ k. slice_index_or units (f k) opening_unit)) i ≡
    slice_get units (f i)
unit_there units f i long inside below =
    let g : ℕ → Unit = λ k. slice_index_or units (f k) opening_unit in
    slice_get-get_or (tabulate 8 g) i opening_unit (omega (arith, length-tabulate 8 g)) ∙
    ap Some (get_or-tabulate 8 i g opening_unit below) ∙
    sym (slice_get-get_or units (f i) opening_unit (omega (arith, long, inside)))

pub right_unit : (units : List Unit) (row : ℕ) → length units ≡ 64 → row < 8 →
    slice_get (right_units units) row ≡ slice_get units (address_of 7 row)
right_unit units row long below =
    unit_there units (λ k. address_of 7 k) row long (address_below 7 row (lit< tt) below) below

pub bottom_unit : (units : List Unit) (column : ℕ) → length units ≡ 64 → column < 8 →
    slice_get (bottom_units units) column ≡ slice_get units (address_of column 7)
bottom_unit units column long below =
    unit_there units (λ k. address_of k 7) column long (address_below column 7 below (lit< tt))
    below

-- the sample that stands in an edge

place_below : (side x y : ℕ) → x < side → y < side → y * side + x < side * side
place_below side x y across down =
    let rows : (y + 1) * side ≤ side * side = mul-le-mul_right side (omega arith) in
    omega (arith, rows, add-mul y 1 side)

pub column_sample : (side : ℕ) (samples : List ℕ) (y : ℕ) → length samples ≡ side * side →
    y < side →
    slice_get (last_column side samples) y ≡ slice_get samples (y * side + (side - 1))
column_sample side samples y whole below =
    let f : ℕ → ℕ = λ k. slice_index samples (k * side + (side - 1)) in
    slice_get-get_or (tabulate side f) y 0 (omega (arith, length-tabulate side f)) ∙
    ap Some (get_or-tabulate side y f 0 below) ∙
    sym (slice_get-get_or samples (y * side + (side - 1)) 0
    (omega (arith, whole, place_below side (side - 1) y (omega arith) below)))

pub row_sample : (side : ℕ) (samples : List ℕ) (x : ℕ) → length samples ≡ side * side →
    x < side → slice_get (last_row side samples) x ≡ slice_get samples ((side - 1) * side + x)
row_sample side samples x whole below =
    let inside : (side - 1) * side + x < side * side =
    place_below side x (side - 1) below (omega arith) in
    slice_get-get_or (last_row side samples) x 0
    (omega (arith, length-drop ((side - 1) * side) samples, whole, inside)) ∙
    ap Some (get_or-drop ((side - 1) * side) samples x 0) ∙
    sym (slice_get-get_or samples ((side - 1) * side + x) 0 (omega (arith, whole, inside)))
