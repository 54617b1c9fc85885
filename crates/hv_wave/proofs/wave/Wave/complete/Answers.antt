use Rattle.std.proofs.Common.{◌∙◌, sym, ap}
use Rattle.hv_wave.specs.Segments.{per_row}
use Rattle.hv_wave.proofs.StepLemmas.{complete_by}
use Rattle.hv_wave.proofs.wave.Wave.complete.Goals as goal

pub returns : goal.returns
returns c =
    let same = c.per_row.ensures.value ∙ ap (λ w. per_row w.columns w.segment) (sym c.self.view_is) in
    let by = complete_by c.self.inside.columns c.self.inside.segment c.per_row.result c.self.inside.rows.items
    c.deref.result.now c.args.self.now c.self.invariant same c.deref.ensures.value c.self.view_is in
    (λ e. by.0 (c.all_done.ensures.0 e), λ complete. c.all_done.ensures.1 (by.1 complete))
