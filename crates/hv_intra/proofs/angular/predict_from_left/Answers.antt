use Rattle.hv_sample_model.specs.IntraPrediction.{left, above}
use Rattle.hv_intra.proofs.InterpolationLemmas.{columns_between}
use Rattle.hv_intra.proofs.angular.predict_from_left.Goals as goal

pub returns-in-2 : goal.returns-in-2
returns-in-2 c =
    let n = c.args.neighbours in
    let mode = c.args.mode in
    columns_between n.side.log2 mode.number (left n.side.log2 n.line.now) (above n.side.log2 n.line.now)
    c.fill_from_left.new.reference c.fill_columns.new.out n.side.least n.side.most mode.first mode.last c.fill_from_left.ensures c.fill_columns.ensures

pub returns-in-3 : goal.returns-in-3
returns-in-3 c =
    let n = c.args.neighbours in
    let mode = c.args.mode in
    columns_between n.side.log2 mode.number (left n.side.log2 n.line.now) (above n.side.log2 n.line.now)
    c.fill_from_left.new.reference c.fill_columns-in-3.new.out n.side.least n.side.most mode.first mode.last c.fill_from_left.ensures c.fill_columns-in-3.ensures

pub returns-in-4 : goal.returns-in-4
returns-in-4 c =
    let n = c.args.neighbours in
    let mode = c.args.mode in
    columns_between n.side.log2 mode.number (left n.side.log2 n.line.now) (above n.side.log2 n.line.now)
    c.fill_from_left.new.reference c.fill_columns-in-4.new.out n.side.least n.side.most mode.first mode.last c.fill_from_left.ensures c.fill_columns-in-4.ensures

pub returns-in_default : goal.returns-in_default
returns-in_default c =
    let n = c.args.neighbours in
    let mode = c.args.mode in
    columns_between n.side.log2 mode.number (left n.side.log2 n.line.now) (above n.side.log2 n.line.now)
    c.fill_from_left.new.reference c.fill_columns-in_default.new.out n.side.least n.side.most mode.first mode.last c.fill_from_left.ensures c.fill_columns-in_default.ensures
