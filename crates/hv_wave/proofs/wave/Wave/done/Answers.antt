use Rattle.std.proofs.Common.{◌∙◌, ◌≡◌, ◌/◌, ◌+◌, sym, ap, subst, false, arith, slice_set}
use Rattle.hv_wave.specs.Segments.{Taken, Done, stage, with_stage, per_row}
use Rattle.hv_wave.specs.Rows.{as_seen}
use Rattle.hv_wave.proofs.StepLemmas.{row_with, taken_there, taken_read, taken_row, seen_done, whole_after}
use Rattle.hv_wave.proofs.wave.Wave.done.Goals as goal

pub index_mut-row-requires : goal.index_mut-row-requires
index_mut-row-requires c =
    let same = c.per_row.ensures.value ∙ ap (λ w. per_row w.columns w.segment) (sym c.self.view_is) in
    let taken = subst (λ w. stage w c.args.segment ≡ Taken) (sym c.self.view_is) c.requires in
    omega (
      arith,
      c.self.inside.rows.ok.0,
      taken_there c.self.inside.columns c.self.inside.segment c.self.inside.rows.items c.args.segment
          c.per_row.result same taken,
    )

pub overflow_add-row : goal.overflow_add-row
overflow_add-row c =
    let columns = c.self.inside.columns in
    let segment = c.self.inside.segment in
    let rows = c.self.inside.rows.items in
    let s = c.args.segment in
    let row = c.index_mut-row.result.now in
    let same = c.per_row.ensures.value ∙ ap (λ w. per_row w.columns w.segment) (sym c.self.view_is) in
    let taken = subst (λ w. stage w s ≡ Taken) (sym c.self.view_is) c.requires in
    let is = taken_read columns segment rows s c.per_row.result row same taken c.index_mut-row.ensures.value in
    omega (arith, same, c.per_row.type_inv, (taken_row columns segment rows s row is taken).more)

pub invariant_of-self : goal.invariant_of-self
invariant_of-self c =
    let columns = c.self.inside.columns in
    let segment = c.self.inside.segment in
    let rows = c.self.inside.rows.items in
    let s = c.args.segment in
    let row = c.index_mut-row.result.now in
    let same = c.per_row.ensures.value ∙ ap (λ w. per_row w.columns w.segment) (sym c.self.view_is) in
    let taken = subst (λ w. stage w s ≡ Taken) (sym c.self.view_is) c.requires in
    let is = taken_read columns segment rows s c.per_row.result row same taken c.index_mut-row.ensures.value in
    whole_after columns segment rows (s / c.per_row.result) _ c.self.invariant
    (omega (arith, (taken_row columns segment rows s row is taken).more))

pub returns : goal.returns
returns c =
    let columns = c.self.inside.columns in
    let segment = c.self.inside.segment in
    let rows = c.self.inside.rows.items in
    let s = c.args.segment in
    let row = c.index_mut-row.result.now in
    let same = c.per_row.ensures.value ∙ ap (λ w. per_row w.columns w.segment) (sym c.self.view_is) in
    let taken = subst (λ w. stage w s ≡ Taken) (sym c.self.view_is) c.requires in
    let is = taken_read columns segment rows s c.per_row.result row same taken c.index_mut-row.ensures.value in
    ap (λ per. as_seen columns segment (slice_set rows (s / per) (row_with (row.done + 1) false))) same
    ∙ seen_done columns segment rows s row is taken
    ∙ ap (λ w. with_stage w s Done) c.self.view_is
