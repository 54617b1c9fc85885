use Rattle.std.proofs.Common.{◌≡◌, ℕ, ◌+◌, ◌-◌, ◌*◌, sym, ap, refl, ◌∙◌, arith, inl, inr}
use Rattle.std.specs.Prelude.{slice_get}
use Rattle.hv_recon_model.specs.SeenSamples.{SamplesAround, on_bottom, sample_around}
use Rattle.hv_recon.specs.Views.{around_of, spot_of}
use Rattle.hv_recon.proofs.RunLemmas.{none_seen, square_ends, square_begins, behind_eighth, decided_along, row_outside, row_inside, from_above, from_above_right, from_own, behind_own, not_before, unseen}
use Rattle.hv_recon.proofs.around.View.along_row.Goals.{then-top-side-via-then-top-side, then-top-side-via-else-top-side+then-top-side-2}
use Rattle.hv_recon.proofs.around.View.along_row.Goals as goal

pub returns-then-top-side : goal.returns-then-top-side
returns-then-top-side g c = λ i below.
    row_outside (spot_of c.args.self.now) (around_of c.args.self.now.around) c.args.own.now
    c.args.address (c.args.self.now.side + (c.args.column * g.row.SQUARE + i)) c.args.y
    (elim c.then-top-side.branch [
      | then-top-side-via-then-top-side w ↦ inl w.if-top-side.true
      | then-top-side-via-else-top-side+then-top-side-2 w ↦ inr w.if-top-side-2.true
    ]) ∙ sym (none_seen c.none.result i c.none.ensures)

pub returns-then-column-lt8 : goal.returns-then-column-lt8
returns-then-column-lt8 g c = λ i below.
    let v = c.args.self.now in
    let around : SamplesAround = around_of v.around in
    let at : ℕ = c.args.column * g.row.SQUARE in
    let ends = square_ends c.args.column g.row.SQUARE i c.if-column-lt8.true below in
    row_inside (spot_of v) around c.args.own.now c.args.address (v.side + (at + i)) c.args.y at i
    c.saturating_sub-count.result _ refl c.saturating_sub-count.ensures c.if-top-side.false
    c.if-top-side-2.false
    (from_above v.side around c.args.own.now c.args.address (at + i) c.args.y
    (omega (arith, ends, c.requires.square)) c.if-y-side.true) ∙
    sym (c.run_on_bottom.ensures i)

pub returns-then-y-side : goal.returns-then-y-side
returns-then-y-side g c = λ i below.
    let v = c.args.self.now in
    let around : SamplesAround = around_of v.around in
    let at : ℕ = c.args.column * g.row.SQUARE in
    let begins = behind_eighth c.args.column g.row.SQUARE c.if-column-lt8.false in
    let place : at + i - v.side ≡ (c.args.column - 8) * g.row.SQUARE + i =
    omega (arith, begins, c.requires.square) in
    row_inside (spot_of v) around c.args.own.now c.args.address (v.side + (at + i)) c.args.y at i
    c.saturating_sub-count.result _ refl c.saturating_sub-count.ensures c.if-top-side.false
    c.if-top-side-2.false
    (from_above_right v.side around c.args.own.now c.args.address (at + i) c.args.y
    (omega (arith, begins, c.requires.square)) c.if-y-side.true ∙
    ap (on_bottom around.above_right) place) ∙
    sym (c.run_on_bottom-then-y-side.ensures i)

pub returns-then-column-ge8 : goal.returns-then-column-ge8
returns-then-column-ge8 g c = λ i below.
    let v = c.args.self.now in
    let around : SamplesAround = around_of v.around in
    let at : ℕ = c.args.column * g.row.SQUARE in
    let begins = square_begins c.args.column g.row.SQUARE c.if-column-ge8.true in
    let row : c.args.y ≡ v.side + (c.args.y - v.side) = omega (arith, c.if-y-side.false) in
    unseen (spot_of v) around c.args.own.now c.args.address (v.side + (at + i)) c.args.y
    (ap (sample_around v.side around c.args.own.now c.args.address (v.side + (at + i))) row ∙
    behind_own v.side around c.args.own.now c.args.address (at + i) (c.args.y - v.side)
    (inl (omega (arith, begins, c.requires.square)))) ∙
    sym (none_seen c.none-then-column-ge8.result i c.none-then-column-ge8.ensures)

pub returns-then-not-comes_before : goal.returns-then-not-comes_before
returns-then-not-comes_before g c = λ i below.
    let v = c.args.self.now in
    let around : SamplesAround = around_of v.around in
    let at : ℕ = c.args.column * g.row.SQUARE in
    let row : c.args.y ≡ v.side + (c.args.y - v.side) = omega (arith, c.if-y-side.false) in
    let later =
    decided_along v.side g.row.SQUARE c.args.address c.args.column i (c.args.y - v.side)
    c.requires.square below ∙ sym c.comes_before.ensures ∙ c.if-not-comes_before.true in
    unseen (spot_of v) around c.args.own.now c.args.address (v.side + (at + i)) c.args.y
    (ap (sample_around v.side around c.args.own.now c.args.address (v.side + (at + i))) row ∙
    not_before v.side around c.args.own.now c.args.address (at + i) (c.args.y - v.side) later) ∙
    sym (none_seen c.none-then-not-comes_before.result i c.none-then-not-comes_before.ensures)

pub returns : goal.returns
returns g c = λ i below.
    let v = c.args.self.now in
    let around : SamplesAround = around_of v.around in
    let at : ℕ = c.args.column * g.row.SQUARE in
    let q : ℕ = c.args.y - v.side in
    let ends = square_ends c.args.column g.row.SQUARE i c.if-column-ge8.false below in
    let row : c.args.y ≡ v.side + q = omega (arith, c.if-y-side.false) in
    let before =
    decided_along v.side g.row.SQUARE c.args.address c.args.column i q c.requires.square below ∙
    sym c.comes_before.ensures ∙ c.if-not-comes_before.false in
    let place : q * v.side + (at + i) ≡ q * v.side + at + i * 1 = omega arith in
    row_inside (spot_of v) around c.args.own.now c.args.address (v.side + (at + i)) c.args.y at i
    c.saturating_sub-count.result _ refl c.saturating_sub-count.ensures c.if-top-side.false
    c.if-top-side-2.false
    (ap (sample_around v.side around c.args.own.now c.args.address (v.side + (at + i))) row ∙
    from_own v.side around c.args.own.now c.args.address (at + i) q
    (omega (arith, ends, c.requires.square)) (omega (arith, c.requires.down, row)) before ∙
    ap (slice_get c.args.own.now) place)
