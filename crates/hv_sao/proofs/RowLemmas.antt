-- Parts of rows of planes.
use Rattle.std.proofs.Common.{◌≡◌, ℕ, ◌+◌, ◌-◌, ◌*◌, ◌<◌, ◌≤◌, List, length, length-append, length-drop, take, drop, ◌++◌, get_or, slice_range, slice_set, ⊎_elim, refl, sym, ◌∙◌, ap, ap₂, arith}
use Rattle.std.proofs.lemmas.List.{get_or-set_same, get_or-set_other, get_or-take, get_or-drop, get_or_append_left, get_or-append_right, length-take-le}
use Rattle.std.proofs.lemmas.Bool.{cases_eq, cases_lt}
use Rattle.std.proofs.lemmas.List.Edits.{length-between, get_or-between}
use Rattle.std.proofs.lemmas.Nat.{row_fits_turned}
use Rattle.hv_types.specs.Samples.{Plane, sample_at}
use Rattle.hv_sao.specs.Rows.{IsRow, HasPart, BeginsPart}

pub length-part : (plane : Plane) (xs : List ℕ) (w x y count : ℕ) → length xs ≡ plane.width * plane.height → w ≡ plane.width →
    y < plane.height → x + count ≤ plane.width → y * w + x + count ≤ length xs
length-part plane xs w x y count size wide down across =
    let fits : y * w + w ≤ w * plane.height = row_fits_turned y w w plane.height down (omega arith) in
    let same : w * plane.height ≡ plane.width * plane.height = ap (λ n. n * plane.height) wide in
    omega (arith, fits, same, size)

pub part_count : (xs : List ℕ) (at count : ℕ) → at + count ≤ length xs → length (slice_range xs at (at + count)) ≡ count
part_count xs at count within = length-between xs at (at + count) within ∙ omega arith

pub part_samples : (plane : Plane) (xs : List ℕ) (w x y count : ℕ) → xs ≡ plane.samples → w ≡ plane.width →
    y * w + x + count ≤ length xs →
    IsRow (λ i. sample_at plane (x + i) y) (slice_range xs (y * w + x) (y * w + x + count))
part_samples plane xs w x y count same wide within = λ i below.
    let size : length (slice_range xs (y * w + x) (y * w + x + count)) ≡ count = part_count xs (y * w + x) count within in
    get_or-between xs (y * w + x) (y * w + x + count) i 0 (omega (arith, size, below)) ∙
    ap₂ (λ (ys : List ℕ) (n : ℕ). get_or ys (n) 0) same (ap (λ v. y * v + x + i) wide ∙ omega arith)

pub no_part : (lead : ℕ) (f : ℕ → ℕ) (xs : List ℕ) → HasPart lead 0 f xs xs
no_part lead f xs = record {
  part = λ i below. absurd (omega arith);
  before = λ k below. refl;
  behind = λ k above. refl;
}

-- a part of which more and more is there
pub part_not_begun : (lead count : ℕ) (f : ℕ → ℕ) (xs : List ℕ) → BeginsPart lead 0 count f xs xs
part_not_begun lead count f xs = record {
  part = λ i below. absurd (omega arith);
  before = λ k below. refl;
  behind = λ k above. refl;
}

pub part_begun : (lead n next count v : ℕ) (f : ℕ → ℕ) (old new : List ℕ) → BeginsPart lead n count f old new → next ≡ n + 1 → n < count →
    lead + n < length new → v ≡ f n → BeginsPart lead next count f old (slice_set new (lead + n) v)
part_begun lead n next count v f old new h is inside room right = record {
  part = λ i below.
      ⊎_elim
      (λ here.
      ap (λ k. get_or (slice_set new (lead + n) v) (lead + k) 0) here ∙ get_or-set_same new (lead + n) v 0 room ∙ right ∙ ap f (sym here))
      (λ other. get_or-set_other new (lead + n) (lead + i) v 0 (λ e. other (omega arith)) ∙ h.part i (omega arith))
      (cases_eq i n);
  before = λ k below. get_or-set_other new (lead + n) k v 0 (λ e. omega arith) ∙ h.before k below;
  behind = λ k above. get_or-set_other new (lead + n) k v 0 (λ e. omega arith) ∙ h.behind k above;
}

pub less_begun : (lead n fewer count : ℕ) (f : ℕ → ℕ) (old new : List ℕ) → BeginsPart lead n count f old new → fewer ≤ n →
    BeginsPart lead fewer count f old new
less_begun lead n fewer count f old new h least = record {
  part = λ i below. h.part i (omega arith);
  before = h.before;
  behind = h.behind;
}

pub part_whole : (lead n count : ℕ) (f : ℕ → ℕ) (old new : List ℕ) → BeginsPart lead n count f old new → count ≤ n →
    HasPart lead count f old new
part_whole lead n count f old new h all = record {
  part = λ i below. h.part i (omega arith);
  before = h.before;
  behind = h.behind;
}

-- numbers put in the place of others
pub length_with_part : (lead : ℕ) (values old : List ℕ) → lead + length values ≤ length old →
    length (take lead old ++ values ++ drop (lead + length values) old) ≡ length old
length_with_part lead values old inside =
    omega (
      arith,
      length-append (take lead old ++ values) (drop (lead + length values) old),
      length-append (take lead old) values,
      length-take-le lead old (omega (arith, inside)),
      length-drop (lead + length values) old,
    )

pub part_put : (lead : ℕ) (values old : List ℕ) → lead + length values ≤ length old →
    HasPart lead (length values) (λ i. get_or values i 0) old
    (take lead old ++ values ++ drop (lead + length values) old)
part_put lead values old inside =
    let front : length (take lead old) ≡ lead = length-take-le lead old (omega (arith, inside)) in
    let begun : List ℕ = take lead old ++ values in
    let rest : List ℕ = drop (lead + length values) old in
    let end : length begun ≡ lead + length values =
    omega (arith, front, length-append (take lead old) values) in
    record {
      part = λ i below.
          get_or_append_left begun rest 0 (lead + i) (omega (arith, end, below))
          ∙ get_or-append_right (take lead old) values lead (lead + i) 0 front (omega arith)
          ∙ ap (λ k. get_or values k 0) (omega arith);
      before = λ k below.
          get_or_append_left begun rest 0 k (omega (arith, end, below))
          ∙ get_or_append_left (take lead old) values 0 k (omega (arith, front, below))
          ∙ get_or-take lead old k 0 below;
      behind = λ k above.
          get_or-append_right begun rest (lead + length values) k 0 end above
          ∙ get_or-drop (lead + length values) old (k - (lead + length values)) 0
          ∙ ap (λ n. get_or old n 0) (omega (arith, above));
    }

-- a part that begins inside another, or at its end, and reaches as far at least
pub part_joined : (lead n at m k next : ℕ) (f g : ℕ → ℕ) (old mid new : List ℕ) → HasPart lead n f old mid → HasPart next m g mid new →
    next ≡ lead + at → at ≤ n → n ≤ at + m → ((i : ℕ) → i < m → g i ≡ f (at + i)) → k ≡ at + m → HasPart lead k f old new
part_joined lead n at m k next f g old mid new h h₂ place within reach same is = record {
  part = λ i below.
      ⊎_elim
      (λ early. h₂.before (lead + i) (omega arith) ∙ h.part i (omega arith))
      (λ late.
      let j : ℕ = i - at in
      let place : next + j ≡ lead + i = omega arith in
      let number : at + j ≡ i = omega arith in
      ap (λ p. get_or new p 0) (sym place) ∙ h₂.part j (omega arith) ∙ same j (omega arith) ∙ ap f number)
      (cases_lt i at);
  before = λ p below. h₂.before p (omega arith) ∙ h.before p below;
  behind = λ p above. h₂.behind p (omega arith) ∙ h.behind p (omega arith);
}
