use Rattle.hv_mode.proofs.ErrorLemmas.{square_is}
use Rattle.hv_mode.proofs.errors.square_errors.Goals as goal

pub returns : goal.returns
returns c =
    let first = c.window-first in
    let second = c.own_window-second in
    square_is c.errors_of_pair.result c.side_of-columns.result first.result second.result
    c.args.input.now c.args.own.now c.args.side c.args.square c.side_of-columns.ensures.value
    (record {
      samples_are = first.ensures.samples;
      stride_is = first.ensures.stride;
      columns_are = first.ensures.columns;
      rows_are = first.ensures.rows;
    })
    (record {
      samples_are = second.ensures.samples;
      stride_is = second.ensures.stride;
      columns_are = second.ensures.columns;
      rows_are = second.ensures.rows;
    })
    c.errors_of_pair.ensures
