use Rattle.std.proofs.Common.{◌∙◌, ◌≡◌, ◌*◌, ◌+◌, sym, ap, subst, refl, arith}
use Rattle.std.specs.Prelude.{MatchOption}
use Rattle.hv_wave.specs.Segments.{Taken, IsFirstReady, NoneIsReady, with_stage, per_row}
use Rattle.hv_wave.specs.Rows.{as_seen, row_at}
use Rattle.hv_wave.proofs.ReadyLemmas.{first_ready}
use Rattle.hv_wave.proofs.StageLemmas.{place_there}
use Rattle.hv_wave.proofs.StepLemmas.{none_by, first_by, first_read, first_more, seen_taken}
use Rattle.hv_wave.proofs.wave.Wave.next.Goals as goal

pub returns-in_err-index : goal.returns-in_err-index
returns-in_err-index c =
    let w = c.args.self.now in
    let same = c.per_row-per_row.ensures.value ∙ ap (λ v. per_row v.columns v.segment) (sym c.self.view_is) in
    let none = none_by c.self.inside.columns c.self.inside.segment c.per_row-per_row.result c.self.inside.rows.items
    c.deref.result.now w c.self.invariant same c.deref.ensures.value c.self.view_is c.in_err-index.ensures in
    subst (λ r. MatchOption r (NoneIsReady w × (w ≡ w)) (λ s. IsFirstReady w s × (w ≡ with_stage w s Taken)))
    (sym c.from_residual.ensures) (none, refl)

pub overflow_add-result : goal.overflow_add-result
overflow_add-result c =
    let columns = c.self.inside.columns in
    let segment = c.self.inside.segment in
    let rows = c.self.inside.rows.items in
    let r = c.in_ok-index.index in
    let row = c.index_mut-row.result.now in
    let per = c.per_row-per_row.result in
    let same = c.per_row-per_row.ensures.value ∙ ap (λ v. per_row v.columns v.segment) (sym c.self.view_is) in
    let first = first_by columns segment per rows c.deref.result.now r same c.deref.ensures.value c.in_ok-index.ensures in
    let is = first_read columns segment rows r row first c.index_mut-row.ensures.value in
    let more = first_more columns segment rows r row first is in
    let below = place_there (per_row columns segment) r row.done rows first.there more in
    omega (arith, ap (λ n. r * n + row.done) same, below, c.self.invariant.few)

pub returns : goal.returns
returns c =
    let columns = c.self.inside.columns in
    let segment = c.self.inside.segment in
    let rows = c.self.inside.rows.items in
    let r = c.in_ok-index.index in
    let row = c.index_mut-row.result.now in
    let per = c.per_row-per_row.result in
    let same = c.per_row-per_row.ensures.value ∙ ap (λ v. per_row v.columns v.segment) (sym c.self.view_is) in
    let first = first_by columns segment per rows c.deref.result.now r same c.deref.ensures.value c.in_ok-index.ensures in
    let is = first_read columns segment rows r row first c.index_mut-row.ensures.value in
    let number = ap (λ n. r * n + row.done) same in (
      subst (λ s. IsFirstReady c.args.self.now s)
          (sym (number ∙ ap (λ x. r * per_row columns segment + x.done) is))
          (subst (λ w. IsFirstReady w (r * per_row columns segment + (row_at rows r).done)) c.self.view_is
          (first_ready columns segment rows r c.self.invariant first)),
      seen_taken columns segment rows r row first is
          ∙ ap (λ s. with_stage (as_seen columns segment rows) s Taken) (sym number)
          ∙ ap (λ w. with_stage w (r * per + row.done) Taken) c.self.view_is,
    )
