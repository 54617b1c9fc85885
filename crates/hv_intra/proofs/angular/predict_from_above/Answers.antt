use Rattle.std.proofs.Common.{◌∙◌}
use Rattle.hv_sample_model.specs.IntraPrediction.{left, above}
use Rattle.hv_intra.proofs.InterpolationLemmas.{between_is}
use Rattle.hv_intra.proofs.angular.predict_from_above.Goals as goal

pub returns : goal.returns
returns c = λ x y column row.
    c.fill_rows.ensures x y column row ∙
    between_is c.args.neighbours.side.log2 c.args.mode.number x y (above c.args.neighbours.side.log2 c.args.neighbours.line.now)
    (left c.args.neighbours.side.log2 c.args.neighbours.line.now) c.fill_from_above.new.reference c.args.neighbours.side.least c.args.neighbours.side.most c.args.mode.first c.args.mode.last
    c.fill_from_above.ensures column row
