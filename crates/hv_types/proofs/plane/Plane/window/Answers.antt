use Rattle.std.proofs.Common.{◌≡◌, ◌+◌, ◌≤◌, ◌*◌, drop, ℕ, ◌-◌, length, List, arith, length-drop, sym, ap, ◌∙◌, mul_comm}
use Rattle.std.proofs.Math.Nat.{mul-le-mul_right, add-mul}
use Rattle.std.proofs.lemmas.List.{length-take-le}
use Rattle.hv_types.proofs.plane.Plane.window.Goals as goal

pub slice_bounds-result-count : goal.slice_bounds-result-count
slice_bounds-result-count c =
    let w : ℕ = c.width-stride.result in
    let h : ℕ = c.args.self.now.height in
    let area : length c.samples-samples.result.now ≡ h * w =
    c.samples-samples.ensures.count ∙ mul_comm c.args.self.now.width h ∙ ap (λ (v : ℕ). h * v) (sym c.width-stride.ensures.value) in
    let rows : (c.args.y + 1) * w ≤ h * w = mul-le-mul_right w (omega arith) in
    omega (arith, rows, add-mul c.args.y 1 w, area, c.width-stride.ensures.value)

pub invariant_of-result : goal.invariant_of-result
invariant_of-result c = record {
  whole = λ k below.
      let w : ℕ = c.width-stride.result in
      let h : ℕ = c.args.self.now.height in
      let at : ℕ = c.args.y * w + c.args.x in
      let all : List ℕ = c.samples-samples.result.now in
      let area : length all ≡ h * w =
      c.samples-samples.ensures.count ∙ mul_comm c.args.self.now.width h ∙ ap (λ (v : ℕ). h * v) (sym c.width-stride.ensures.value) in
      let rows : (c.args.y + k + 1) * w ≤ h * w = mul-le-mul_right w (omega arith) in
      let rest : length (drop at all) ≡ length all - at = length-drop at all in
      omega (
        arith,
        rows,
        add-mul (c.args.y + k) 1 w,
        add-mul c.args.y k w,
        area,
        rest,
        c.width-stride.ensures.value,
        length-take-le (length all - at) (drop at all) (omega (arith, rest)),
      );
}
