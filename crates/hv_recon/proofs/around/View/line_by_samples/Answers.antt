use Rattle.std.proofs.Common.{◌≡◌, ℕ, ◌+◌, ◌*◌, ◌^◌, ◌-◌, ◌++◌, arith, length-set, refl, ap, ap₂, sym, ◌∙◌, take}
use Rattle.std.specs.Prelude.{Option}
use Rattle.std.proofs.lemmas.List.{append-nil}
use Rattle.hv_lemmas.specs.Lists.{tabulate}
use Rattle.hv_block.proofs.EdgeLemmas.{tabulate-filled}
use Rattle.hv_recon_model.specs.SeenSamples.{Spot, SamplesAround, look_around}
use Rattle.hv_recon.specs.Views.{spot_of, around_of}
use Rattle.hv_recon.proofs.FilledLineLemmas.{left_at, above_at, filled_behind}
use Rattle.hv_recon.proofs.around.View.line_by_samples.Goals as goal

pub loop-i-init : goal.loop-i-init
unfolding tabulate
loop-i-init c = (refl, refl)

pub loop-i-preserved : goal.loop-i-preserved
loop-i-preserved c =
    let s : Spot = spot_of c.args.self.now in
    let around : SamplesAround = around_of c.args.self.now.around in
    let row :
    c.args.self.now.side + c.args.y + (2 * c.side_of-n.result - c.loop-i.i) - 1 ≡
    c.args.self.now.side + c.args.y + (2 * 2 ^ c.args.log2 - c.loop-i.i) - 1 =
    omega (arith, c.side_of-n.ensures.value) in (
      length-set c.loop-i.line c.loop-i.i _ ∙ c.loop-i.invariant.0,
      tabulate-filled
          (left_at s around c.args.own.now c.args.address c.args.x c.args.y c.args.log2)
          c.loop-i.line c.loop-i.i c.look.result
          (omega (arith, c.loop-i.invariant.0, c.side_of-n.ensures.few)) c.loop-i.invariant.1
          (c.look.ensures ∙
          ap (look_around s around c.args.own.now c.args.address
          (c.args.self.now.side + c.args.x - 1)) row),
    )

pub loop-k-init : goal.loop-k-init
unfolding tabulate
loop-k-init c =
    let f : ℕ → Option ℕ =
    left_at (spot_of c.args.self.now) (around_of c.args.self.now.around) c.args.own.now
    c.args.address c.args.x c.args.y c.args.log2 in
    let n : ℕ = 2 * c.side_of-n.result + 1 in
    let all : c.loop-i.i ≡ n + 0 = omega arith in
    let same : c.loop-i.i ≡ n = omega arith in (
      c.loop-i.invariant.0,
      ap (λ k. take k c.loop-i.line) (sym all) ∙ c.loop-i.invariant.1 ∙
          ap (λ k. tabulate k f) same ∙ sym (append-nil (tabulate n f)),
    )

pub loop-k-preserved : goal.loop-k-preserved
loop-k-preserved c =
    let s : Spot = spot_of c.args.self.now in
    let around : SamplesAround = around_of c.args.self.now.around in
    let n : ℕ = 2 * c.side_of-n.result + 1 in (
      length-set c.loop-k.line (n + c.loop-k.k) _ ∙ c.loop-k.invariant.0,
      filled_behind (above_at s around c.args.own.now c.args.address c.args.x c.args.y)
          (tabulate n
          (left_at s around c.args.own.now c.args.address c.args.x c.args.y c.args.log2))
          c.loop-k.line n c.loop-k.k c.look-in-loop-k.result
          (omega (arith, c.loop-k.invariant.0, c.side_of-n.ensures.few)) c.loop-k.invariant.1
          c.look-in-loop-k.ensures,
    )

pub returns : goal.returns
returns c =
    let s : Spot = spot_of c.args.self.now in
    let around : SamplesAround = around_of c.args.self.now.around in
    let f : ℕ → Option ℕ =
    left_at s around c.args.own.now c.args.address c.args.x c.args.y c.args.log2 in
    let g : ℕ → Option ℕ = above_at s around c.args.own.now c.args.address c.args.x c.args.y in
    let value = c.side_of-n.ensures.value in
    let places :
    4 * 2 ^ c.args.log2 + 1 ≡ 2 * c.side_of-n.result + 1 + c.loop-k.k =
    omega (arith, value) in
    let left : 2 * c.side_of-n.result + 1 ≡ 2 * 2 ^ c.args.log2 + 1 = omega (arith, value) in
    let above : c.loop-k.k ≡ 2 * 2 ^ c.args.log2 = omega (arith, value) in
    ap (λ k. take k c.loop-k.line) places ∙ c.loop-k.invariant.1 ∙
    ap₂ (λ a b. tabulate a f ++ tabulate b g) left above
