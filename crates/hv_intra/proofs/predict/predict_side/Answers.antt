use Rattle.std.proofs.Common.{◌∙◌, ap, sym, ℕ}
use Rattle.hv_sample_model.specs.IntraPrediction.{predicted}
use Rattle.hv_intra.proofs.PredictionLemmas.{dc_unfiltered, predicted_is}
use Rattle.hv_intra.proofs.SideLemmas.{square_of_side}
use Rattle.hv_intra.proofs.predict.predict_side.Goals as goal

pub predict_dc-requires : goal.predict_dc-requires
predict_dc-requires g c =
    c.requires.room ∙ square_of_side g.row.LOG2 c.requires.least c.requires.most

pub returns-then-mode-eq1 : goal.returns-then-mode-eq1
returns-then-mode-eq1 g c =
    let r = c.requires in
    predicted_is g.row.LOG2 1 c.args.luma c.args.line.now c.args.line.now
    c.predict_dc.new.out r.least r.most (dc_unfiltered g.row.LOG2 c.args.luma c.args.line.now)
    (c.predict_dc.auto.out ∙ r.room) c.predict_dc.ensures ∙
    ap (λ (m : ℕ). predicted g.row.LOG2 m c.args.luma c.args.line.now) (sym c.if-mode-eq1.true)

pub returns-else-mode-eq1 : goal.returns-else-mode-eq1
returns-else-mode-eq1 g c =
    let r = c.requires in
    predicted_is g.row.LOG2 c.args.mode c.args.luma c.args.line.now c.fill_filtered.new.out
    c.predict_from_filtered.new.out r.least r.most c.fill_filtered.ensures
    (c.predict_from_filtered.auto.out ∙ r.room) c.predict_from_filtered.ensures
