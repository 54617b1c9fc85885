-- Planes written row by row, and the blocks that cover them.
use Rattle.std.proofs.Common.{◌≡◌, ℕ, ◌+◌, ◌*◌, ◌/◌, ◌<◌, ◌≤◌, List, length, get_or, map, ⊎_elim, sym, ◌∙◌, ap, ap₂, subst, arith}
use Rattle.std.proofs.lemmas.Bool.{cases_lt}
use Rattle.std.proofs.lemmas.List.{get_or-map}
use Rattle.std.proofs.lemmas.Nat.{mul-add-lt}
use Rattle.std.proofs.Math.Nat.{mul-le-mul_right, add-mul, div-lt_iff_lt-mul}
use Rattle.hv_types.specs.Samples.{Plane, sample_at}
use Rattle.hv_types.proofs.SampleLemmas.{plane_is}
use Rattle.hv_plan.specs.declared.offsets.SaoComponent.{SaoComponent}
use Rattle.hv_plan.specs.declared.offsets.SaoParam.{SaoParam}
use Rattle.hv_filter_model.specs.SampleAdaptiveOffset.{sao_sample, off, off_param, sao_plane}
use Rattle.hv_sao.specs.declared.component.Component.{Component}
use Rattle.hv_sao.specs.Components.{component_of}
use Rattle.hv_sao.specs.Planes.{IsWritten, block_sample, HasRows, plane_sample}

-- the choices of a row's blocks are there
pub choices_there : (width side across n first : ℕ) → width ≤ across * side → first + across ≤ n → width + first * side ≤ n * side
choices_there width side across n first wide room =
    let most : (first + across) * side ≤ n * side = mul-le-mul_right side room in
    omega (arith, wide, most, add-mul first across side)

pub row_of_blocks : (y side across n : ℕ) → (y / side + 1) * across ≤ n → y / side * across + across ≤ n
row_of_blocks y side across n room = omega (arith, room, add-mul (y / side) 1 across)

-- one row more
pub row_more : (component : Component) (choices : List SaoParam) (side across y n : ℕ) (plane old new : Plane) → 0 < side →
    plane.width ≤ across * side → y / side * across + across ≤ length choices → n ≡ y + 1 →
    HasRows y (plane_sample side across (map (component_of component) choices) plane) plane old →
    IsWritten 0 y plane.width (block_sample component choices (y / side * across) side plane y) old new →
    HasRows n (plane_sample side across (map (component_of component) choices) plane) plane new
row_more component choices side across y n plane old new some wide room is h w = record {
  whole = record {
    wide = w.wide ∙ h.whole.wide;
    high = w.high ∙ h.whole.high;
    whole = record {
      count = w.size ∙ h.whole.whole.count ∙ ap₂ (λ a b. a * b) (sym w.wide) (sym w.high);
      wide = subst (λ k. 0 < k) (sym w.wide) h.whole.whole.wide;
      high = subst (λ k. 0 < k) (sym w.high) h.whole.whole.high;
    };
  };
  samples = λ x t across_x below down.
      let place : (k : ℕ) → k * new.width + x ≡ k * old.width + x = λ k. ap (λ v. k * v + x) w.wide in
      let inside : x < old.width = subst (λ v. x < v) (sym h.whole.wide) across_x in
      ⊎_elim
      (λ before.
      let rows : t * old.width + x < old.width * y = mul-add-lt t old.width x y before inside in
      ap (λ i. get_or new.samples i 0) (place t)
      ∙ w.part.before (t * old.width + x) (omega (arith, rows))
      ∙ h.samples x t across_x before down)
      (λ last.
      let same : t ≡ y = omega arith in
      let column : x / side < across = (div-lt_iff_lt-mul {k = side} {x = x} {y = across} some).1 (omega (arith, wide)) in
      ap (λ k. sample_at new x k) same
      ∙ ap (λ i. get_or new.samples i 0) (place y)
      ∙ ap (λ i. get_or new.samples i 0) (omega arith)
      ∙ w.part.part x across_x
      ∙ ap (λ c. sao_sample c plane x y)
      (sym (get_or-map (component_of component) choices (y / side * across + x / side) off_param off (omega (arith, room, column))))
      ∙ ap (λ k. plane_sample side across (map (component_of component) choices) plane x k) (sym same))
      (cases_lt t y);
}

pub plane_done : (side across : ℕ) (choices : List SaoComponent) (plane new : Plane) (n : ℕ) → plane.height ≤ n →
    HasRows n (plane_sample side across choices plane) plane new → new ≡ sao_plane side across choices plane
plane_done side across choices plane new n all h =
    plane_is plane.width plane.height (plane_sample side across choices plane) new h.whole
    (λ x y across_x down. h.samples x y across_x (omega arith) down)
