use Rattle.std.proofs.Common.{◌∙◌, ap}
use Rattle.std.specs.Int.{div_ceil}
use Rattle.hv_wave.specs.Segments.{per_row}
use Rattle.hv_wave.proofs.SegmentLemmas.{div_ceil-row}
use Rattle.hv_wave.proofs.wave.Wave.per_row.Goals as goal

pub returns-clause-value : goal.returns-clause-value
returns-clause-value c =
    c.div_ceil.ensures
    ∙ ap (div_ceil c.self.inside.columns) c.from.ensures
    ∙ div_ceil-row c.self.inside.columns c.self.inside.segment c.self.invariant.wide c.self.invariant.long
    ∙ ap (λ w. per_row w.columns w.segment) c.self.view_is
