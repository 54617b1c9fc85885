-- Neighbours of samples, and which samples lack one (8.7.3.2).
use Rattle.std.proofs.Common.{◌≡◌, ◌≢◌, ℕ, zero, suc, ◌+◌, ◌-◌, ◌<◌, ◌≤◌, false, not, ◌⊎◌, ⊎_elim, refl, ◌∙◌, ap, ap₂, arith, Option, Some, None, ℤ, pos, negsuc, ◌+ℤ◌, nat_eq, List, length, min, max, sym, get_or}
use Rattle.std.proofs.lemmas.Bool.{cases_eq, cases_lt}
use mir.Val.{bool_byte}
use Rattle.std.proofs.lemmas.Bool.Decides.{eqb_tells}
use Rattle.hv_sao.specs.Rows.{IsRow, IsEdgeRow}
use Rattle.std.proofs.lemmas.Int.{ints}
use Rattle.std.proofs.Math.Bool.{and-false}
use Rattle.hv_lemmas.proofs.ComparisonLemmas.{lt_below, lt_not_below}
use Rattle.hv_types.specs.Samples.{Plane, sample_at}
use Rattle.hv_filter_model.specs.SampleAdaptiveOffset.{is_inside, sample_inside, neighbour, hPos, vPos, edge_of, edgeIdx}

there : (plane : Plane) (a b : ℕ) (x y : ℤ) → x ≡ pos a → y ≡ pos b → a < plane.width → b < plane.height →
    sample_inside plane x y ≡ Some (sample_at plane a b)
there plane a b x y p q across down =
    rw (p, q) (rw (lt_below a plane.width across, lt_below b plane.height down) refl)

-- a neighbour that is inside, so many columns further on
pub neighbour_there : (class k : ℕ) (plane : Plane) (x y column row i : ℕ) →
    pos column ≡ pos x +ℤ hPos class k → pos row ≡ pos y +ℤ vPos class k →
    column + i < plane.width → row < plane.height →
    neighbour class k plane (x + i) y ≡ Some (sample_at plane (column + i) row)
neighbour_there class k plane x y column row i p q across down =
    there plane (column + i) row (pos (x + i) +ℤ hPos class k) (pos y +ℤ vPos class k)
    (omega (arith, ints, p)) (omega (arith, ints, q)) across down

no_column : (plane : Plane) (x y : ℤ) → is_inside plane.width x ≡ false → sample_inside plane x y ≡ None
no_column plane x y outside = rw outside refl

no_row : (plane : Plane) (x y : ℤ) → is_inside plane.height y ≡ false → sample_inside plane x y ≡ None
no_row plane x y outside = rw (outside, and-false (is_inside plane.width x)) refl

first_missing : (sample : ℕ) (first second : Option ℕ) → first ≡ None → edge_of sample first second ≡ 0
first_missing sample first second none = rw none refl

second_missing : (sample : ℕ) (first second : Option ℕ) → second ≡ None → edge_of sample first second ≡ 0
second_missing sample None second none = refl
second_missing sample (Some a) second none = rw none refl

behind_last : (n x : ℕ) → n ≤ x + 1 → is_inside n (pos x +ℤ pos 1) ≡ false
behind_last n x last = lt_not_below (x + 1) n last

pub none_left : (class : ℕ) (plane : Plane) (y : ℕ) → class < 4 → class ≢ 1 → edgeIdx class plane 0 y ≡ 0
none_left zero plane y h e = refl
none_left (suc zero) plane y h e = absurd (e refl)
none_left (suc (suc zero)) plane y h e = refl
none_left (suc (suc (suc zero))) plane y h e =
    second_missing (sample_at plane 0 y) (neighbour 3 0 plane 0 y) (neighbour 3 1 plane 0 y) refl
none_left (suc (suc (suc (suc n)))) plane y h e = absurd (omega arith)

pub none_right : (class : ℕ) (plane : Plane) (x y : ℕ) → class < 4 → class ≢ 1 → plane.width ≤ x + 1 →
    edgeIdx class plane x y ≡ 0
none_right zero plane x y h e last =
    second_missing (sample_at plane x y) (neighbour 0 0 plane x y) (neighbour 0 1 plane x y)
    (no_column plane (pos x +ℤ pos 1) (pos y +ℤ pos 0) (behind_last plane.width x last))
none_right (suc zero) plane x y h e last = absurd (e refl)
none_right (suc (suc zero)) plane x y h e last =
    second_missing (sample_at plane x y) (neighbour 2 0 plane x y) (neighbour 2 1 plane x y)
    (no_column plane (pos x +ℤ pos 1) (pos y +ℤ pos 1) (behind_last plane.width x last))
none_right (suc (suc (suc zero))) plane x y h e last =
    first_missing (sample_at plane x y) (neighbour 3 0 plane x y) (neighbour 3 1 plane x y)
    (no_column plane (pos x +ℤ pos 1) (pos y +ℤ negsuc 0) (behind_last plane.width x last))
none_right (suc (suc (suc (suc n)))) plane x y h e last = absurd (omega arith)

pub none_above : (class : ℕ) (plane : Plane) (x : ℕ) → class < 4 → class ≢ 0 → edgeIdx class plane x 0 ≡ 0
none_above zero plane x h e = absurd (e refl)
none_above (suc zero) plane x h e =
    first_missing (sample_at plane x 0) (neighbour 1 0 plane x 0) (neighbour 1 1 plane x 0)
    (no_row plane (pos x +ℤ pos 0) (negsuc 0) refl)
none_above (suc (suc zero)) plane x h e =
    first_missing (sample_at plane x 0) (neighbour 2 0 plane x 0) (neighbour 2 1 plane x 0)
    (no_row plane (pos x +ℤ negsuc 0) (negsuc 0) refl)
none_above (suc (suc (suc zero))) plane x h e =
    first_missing (sample_at plane x 0) (neighbour 3 0 plane x 0) (neighbour 3 1 plane x 0)
    (no_row plane (pos x +ℤ pos 1) (negsuc 0) refl)
none_above (suc (suc (suc (suc n)))) plane x h e = absurd (omega arith)

pub none_below : (class : ℕ) (plane : Plane) (x y : ℕ) → class < 4 → class ≢ 0 → plane.height ≤ y + 1 →
    edgeIdx class plane x y ≡ 0
none_below zero plane x y h e last = absurd (e refl)
none_below (suc zero) plane x y h e last =
    second_missing (sample_at plane x y) (neighbour 1 0 plane x y) (neighbour 1 1 plane x y)
    (no_row plane (pos x +ℤ pos 0) (pos y +ℤ pos 1) (behind_last plane.height y last))
none_below (suc (suc zero)) plane x y h e last =
    second_missing (sample_at plane x y) (neighbour 2 0 plane x y) (neighbour 2 1 plane x y)
    (no_row plane (pos x +ℤ pos 1) (pos y +ℤ pos 1) (behind_last plane.height y last))
none_below (suc (suc (suc zero))) plane x y h e last =
    second_missing (sample_at plane x y) (neighbour 3 0 plane x y) (neighbour 3 1 plane x y)
    (no_row plane (pos x +ℤ negsuc 0) (pos y +ℤ pos 1) (behind_last plane.height y last))
none_below (suc (suc (suc (suc n)))) plane x y h e last = absurd (omega arith)

-- so many columns at the border of a plane lack a neighbour, or so many rows
pub record IsMargin (class none margin : ℕ) : Type 0 where
  pub same : class ≡ none → margin ≡ 0
  pub other : class ≢ none → margin ≡ 1

pub margin_is : (class none margin : ℕ) → margin ≡ bool_byte (not (nat_eq class none)) → IsMargin class none margin
margin_is class none margin is =
    ⊎_elim
    (λ yes. record { same = λ e. is ∙ ap (λ b. bool_byte (not b)) yes.0; other = λ e. absurd (e yes.1) })
    (λ no. record { same = λ e. absurd (no.1 e); other = λ e. is ∙ ap (λ b. bool_byte (not b)) no.0 })
    (eqb_tells class none)

left_of : (class columns : ℕ) (plane : Plane) (x y : ℕ) → class < 4 → IsMargin class 1 columns → x < columns →
    edgeIdx class plane x y ≡ 0
left_of class columns plane x y h margin less =
    ⊎_elim (λ same. absurd (omega (arith, margin.same same)))
    (λ other.
    let first : x ≡ 0 = omega (arith, margin.other other) in
    ap (λ k. edgeIdx class plane k y) first ∙ none_left class plane y h other)
    (cases_eq class 1)

right_of : (class columns : ℕ) (plane : Plane) (x y : ℕ) → class < 4 → IsMargin class 1 columns → x < plane.width →
    plane.width ≤ x + columns → edgeIdx class plane x y ≡ 0
right_of class columns plane x y h margin inside last =
    ⊎_elim (λ same. absurd (omega (arith, margin.same same)))
    (λ other. none_right class plane x y h other (omega (arith, margin.other other)))
    (cases_eq class 1)

above_of : (class rows : ℕ) (plane : Plane) (x y : ℕ) → class < 4 → IsMargin class 0 rows → y < rows →
    edgeIdx class plane x y ≡ 0
above_of class rows plane x y h margin less =
    ⊎_elim (λ same. absurd (omega (arith, margin.same same)))
    (λ other.
    let first : y ≡ 0 = omega (arith, margin.other other) in
    ap (λ k. edgeIdx class plane x k) first ∙ none_above class plane x h other)
    (cases_eq class 0)

below_of : (class rows : ℕ) (plane : Plane) (x y : ℕ) → class < 4 → IsMargin class 0 rows → y < plane.height →
    plane.height ≤ y + rows → edgeIdx class plane x y ≡ 0
below_of class rows plane x y h margin inside last =
    ⊎_elim (λ same. absurd (omega (arith, margin.same same)))
    (λ other. none_below class plane x y h other (omega (arith, margin.other other)))
    (cases_eq class 0)

row_before : (class rows y : ℕ) → class < 4 → IsMargin class 0 rows → rows ≤ y → pos (y - rows) ≡ pos y +ℤ vPos class 0
row_before zero rows y h margin least = omega (arith, ints, margin.same refl)
row_before (suc zero) rows y h margin least = omega (arith, ints, margin.other (λ e. cc))
row_before (suc (suc zero)) rows y h margin least = omega (arith, ints, margin.other (λ e. cc))
row_before (suc (suc (suc zero))) rows y h margin least = omega (arith, ints, margin.other (λ e. cc))
row_before (suc (suc (suc (suc n)))) rows y h margin least = absurd (omega arith)

row_behind : (class rows y : ℕ) → class < 4 → IsMargin class 0 rows → pos (y + rows) ≡ pos y +ℤ vPos class 1
row_behind zero rows y h margin = omega (arith, ints, margin.same refl)
row_behind (suc zero) rows y h margin = omega (arith, ints, margin.other (λ e. cc))
row_behind (suc (suc zero)) rows y h margin = omega (arith, ints, margin.other (λ e. cc))
row_behind (suc (suc (suc zero))) rows y h margin = omega (arith, ints, margin.other (λ e. cc))
row_behind (suc (suc (suc (suc n)))) rows y h margin = absurd (omega arith)

-- the neighbours' columns are inside, up to the last
pub first_inside : (class columns begin end first_x width : ℕ) → class < 4 → IsMargin class 1 columns → columns ≤ begin →
    begin < end → end + columns ≤ width → pos first_x ≡ pos begin +ℤ hPos class 0 → first_x + (end - begin) ≤ width
first_inside zero columns begin end first_x width h margin least some last p = omega (arith, ints, p, margin.other (λ e. cc))
first_inside (suc zero) columns begin end first_x width h margin least some last p = omega (arith, ints, p, margin.same refl)
first_inside (suc (suc zero)) columns begin end first_x width h margin least some last p = omega (arith, ints, p, margin.other (λ e. cc))
first_inside (suc (suc (suc zero))) columns begin end first_x width h margin least some last p = omega (arith, ints, p, margin.other (λ e. cc))
first_inside (suc (suc (suc (suc n)))) columns begin end first_x width h margin least some last p = absurd (omega arith)

pub second_inside : (class columns begin end second_x width : ℕ) → class < 4 → IsMargin class 1 columns → columns ≤ begin →
    begin < end → end + columns ≤ width → pos second_x ≡ pos begin +ℤ hPos class 1 → second_x + (end - begin) ≤ width
second_inside zero columns begin end second_x width h margin least some last p = omega (arith, ints, p, margin.other (λ e. cc))
second_inside (suc zero) columns begin end second_x width h margin least some last p = omega (arith, ints, p, margin.same refl)
second_inside (suc (suc zero)) columns begin end second_x width h margin least some last p = omega (arith, ints, p, margin.other (λ e. cc))
second_inside (suc (suc (suc zero))) columns begin end second_x width h margin least some last p = omega (arith, ints, p, margin.other (λ e. cc))
second_inside (suc (suc (suc (suc n)))) columns begin end second_x width h margin least some last p = absurd (omega arith)

edge_known : (s : ℕ) (o p : Option ℕ) (t a b : ℕ) → s ≡ t → o ≡ Some a → p ≡ Some b → edge_of s o p ≡ edge_of t (Some a) (Some b)
edge_known s o p t a b e₁ e₂ e₃ = ap (λ k. edge_of k o p) e₁ ∙ ap₂ (λ m n. edge_of t m n) e₂ e₃

-- all columns of a row lack a neighbour
pub none_in_row : (class : ℕ) (plane : Plane) (y from to columns rows : ℕ) (none : List ℕ) → class < 4 → IsMargin class 1 columns →
    IsMargin class 0 rows → from ≤ to → to ≤ plane.width → y < plane.height → length none ≡ 0 →
    (min to (plane.width - columns) ≤ max from columns) ⊎ (y < rows) ⊎ (plane.height - y ≤ rows) →
    IsEdgeRow class plane y from to to none none none
none_in_row class plane y from to columns rows none h wide high order across down empty why = record {
  begins = order;
  ends = omega arith;
  firsts = refl;
  seconds = refl;
  values = λ i below. absurd (omega (arith, below));
  edges = λ i below. absurd (omega (arith, below));
  before = λ x least most.
      ⊎_elim
      (λ few.
      ⊎_elim (λ left. left_of class columns plane x y h wide left)
      (λ right. right_of class columns plane x y h wide (omega arith) (omega (arith, few)))
      (cases_lt x columns))
      (λ vertical. ⊎_elim (λ above. above_of class rows plane x y h high above)
      (λ under. below_of class rows plane x y h high down (omega (arith, under))) vertical)
      why;
  behind = λ x least most. absurd (omega arith);
}

pub some_in_row : (class : ℕ) (plane : Plane) (y from to columns rows begin end first_x second_x : ℕ) (samples first second : List ℕ) →
    class < 4 → IsMargin class 1 columns → IsMargin class 0 rows → to ≤ plane.width →
    begin ≡ max from columns → end ≡ min to (plane.width - columns) → begin < end → rows ≤ y → rows < plane.height - y →
    pos first_x ≡ pos begin +ℤ hPos class 0 → pos second_x ≡ pos begin +ℤ hPos class 1 →
    length samples ≡ end - begin → length first ≡ end - begin → length second ≡ end - begin →
    IsRow (λ i. sample_at plane (begin + i) y) samples →
    IsRow (λ i. sample_at plane (first_x + i) (y - rows)) first →
    IsRow (λ i. sample_at plane (second_x + i) (y + rows)) second →
    IsEdgeRow class plane y from to begin samples first second
some_in_row class plane y from to columns rows begin end first_x second_x samples first second h wide high across is_begin is_end some
    least most p q n n₁ n₂ values firsts seconds = record {
      begins = omega arith;
      ends = omega arith;
      firsts = omega arith;
      seconds = omega arith;
      values = values;
      edges = λ i below.
          let one : neighbour class 0 plane (begin + i) y ≡ Some (sample_at plane (first_x + i) (y - rows)) =
          neighbour_there class 0 plane begin y first_x (y - rows) i p (row_before class rows y h high least)
          (omega (arith, below, first_inside class columns begin end first_x plane.width h wide (omega arith) some (omega arith) p))
          (omega arith) in
          let two : neighbour class 1 plane (begin + i) y ≡ Some (sample_at plane (second_x + i) (y + rows)) =
          neighbour_there class 1 plane begin y second_x (y + rows) i q (row_behind class rows y h high)
          (omega (arith, below, second_inside class columns begin end second_x plane.width h wide (omega arith) some (omega arith) q))
          (omega arith) in
          edge_known (sample_at plane (begin + i) y) (neighbour class 0 plane (begin + i) y) (neighbour class 1 plane (begin + i) y)
          (get_or samples i 0) (get_or first i 0) (get_or second i 0) (sym (values i below))
          (one ∙ ap Some (sym (firsts i (omega arith)))) (two ∙ ap Some (sym (seconds i (omega arith))));
      before = λ x from_x to_x.
          left_of class columns plane x y h wide (omega arith);
      behind = λ x from_x to_x.
          right_of class columns plane x y h wide (omega arith) (omega arith);
    }
