use Rattle.std.proofs.Common.{◌≡◌, ℕ, ◌+◌, ◌-◌, ◌*◌, sym, ap, refl, ◌∙◌, arith, inl, inr}
use Rattle.std.specs.Prelude.{slice_get}
use Rattle.hv_recon_model.specs.SeenSamples.{SamplesAround, sample_around}
use Rattle.hv_recon.specs.Views.{around_of, spot_of}
use Rattle.hv_recon.proofs.RunLemmas.{none_seen, square_ends, square_begins, decided_down, column_outside, column_inside, from_left, from_own, behind_own, not_before, unseen}
use Rattle.hv_recon.proofs.around.View.down_column.Goals.{then-left-side-via-then-left-side, then-left-side-via-else-left-side+then-left-side-2}
use Rattle.std.proofs.Math.Nat.{add-mul}
use Rattle.hv_recon.proofs.around.View.down_column.Goals as goal

pub returns-then-left-side : goal.returns-then-left-side
returns-then-left-side g c = λ i below.
    column_outside (spot_of c.args.self.now) (around_of c.args.self.now.around) c.args.own.now
    c.args.address c.args.x (c.args.self.now.side + (c.args.row * g.row.SQUARE + i))
    (elim c.then-left-side.branch [
      | then-left-side-via-then-left-side w ↦ inl w.if-left-side.true
      | then-left-side-via-else-left-side+then-left-side-2 w ↦ inr w.if-left-side-2.true
    ]) ∙ sym (none_seen c.none.result i c.none.ensures)

pub returns-then-x-side : goal.returns-then-x-side
returns-then-x-side g c = λ i below.
    let v = c.args.self.now in
    let around : SamplesAround = around_of v.around in
    let at : ℕ = c.args.row * g.row.SQUARE in
    column_inside (spot_of v) around c.args.own.now c.args.address c.args.x (v.side + (at + i)) at i
    c.saturating_sub-count.result _ refl c.saturating_sub-count.ensures c.if-left-side.false
    c.if-left-side-2.false
    (from_left v.side around c.args.own.now c.args.address c.args.x (at + i) c.if-x-side.true) ∙
    sym (c.run_on_right.ensures i)

pub returns-then-row-ge8 : goal.returns-then-row-ge8
returns-then-row-ge8 g c = λ i below.
    let v = c.args.self.now in
    let around : SamplesAround = around_of v.around in
    let at : ℕ = c.args.row * g.row.SQUARE in
    let begins = square_begins c.args.row g.row.SQUARE c.if-row-ge8.true in
    let column : c.args.x ≡ v.side + (c.args.x - v.side) = omega (arith, c.if-x-side.false) in
    unseen (spot_of v) around c.args.own.now c.args.address c.args.x (v.side + (at + i))
    (ap (λ x. sample_around v.side around c.args.own.now c.args.address x (v.side + (at + i)))
    column ∙
    behind_own v.side around c.args.own.now c.args.address (c.args.x - v.side) (at + i)
    (inr (omega (arith, begins, c.requires.square)))) ∙
    sym (none_seen c.none-then-row-ge8.result i c.none-then-row-ge8.ensures)

pub returns-then-not-comes_before : goal.returns-then-not-comes_before
returns-then-not-comes_before g c = λ i below.
    let v = c.args.self.now in
    let around : SamplesAround = around_of v.around in
    let at : ℕ = c.args.row * g.row.SQUARE in
    let column : c.args.x ≡ v.side + (c.args.x - v.side) = omega (arith, c.if-x-side.false) in
    let later =
    decided_down v.side g.row.SQUARE c.args.address (c.args.x - v.side) c.args.row i
    c.requires.square below ∙ sym c.comes_before.ensures ∙ c.if-not-comes_before.true in
    unseen (spot_of v) around c.args.own.now c.args.address c.args.x (v.side + (at + i))
    (ap (λ x. sample_around v.side around c.args.own.now c.args.address x (v.side + (at + i)))
    column ∙
    not_before v.side around c.args.own.now c.args.address (c.args.x - v.side) (at + i) later) ∙
    sym (none_seen c.none-then-not-comes_before.result i c.none-then-not-comes_before.ensures)

pub returns : goal.returns
returns g c = λ i below.
    let v = c.args.self.now in
    let around : SamplesAround = around_of v.around in
    let at : ℕ = c.args.row * g.row.SQUARE in
    let p : ℕ = c.args.x - v.side in
    let ends = square_ends c.args.row g.row.SQUARE i c.if-row-ge8.false below in
    let column : c.args.x ≡ v.side + p = omega (arith, c.if-x-side.false) in
    let before =
    decided_down v.side g.row.SQUARE c.args.address p c.args.row i c.requires.square below ∙
    sym c.comes_before.ensures ∙ c.if-not-comes_before.false in
    let place : (at + i) * v.side + p ≡ at * v.side + p + i * v.side =
    omega (arith, add-mul at i v.side) in
    column_inside (spot_of v) around c.args.own.now c.args.address c.args.x (v.side + (at + i)) at i
    c.saturating_sub-count.result _ refl c.saturating_sub-count.ensures c.if-left-side.false
    c.if-left-side-2.false
    (ap (λ x. sample_around v.side around c.args.own.now c.args.address x (v.side + (at + i)))
    column ∙
    from_own v.side around c.args.own.now c.args.address p (at + i)
    (omega (arith, c.requires.across, column)) (omega (arith, ends, c.requires.square)) before ∙
    ap (slice_get c.args.own.now) place)
