use Rattle.std.proofs.Common.{◌∙◌, ap}
use Rattle.hv_inter_model.specs.Interpolation.{weighted_sample}
use Rattle.hv_interp.proofs.ColumnLemmas.{columns_are, rows_inside}
use Rattle.hv_interp.proofs.columns.filter_columns_in.Goals as goal

pub weave_rows-requires-clause-inside : goal.weave_rows-requires-clause-inside
weave_rows-requires-clause-inside g c =
    rows_inside c.args.size g.row.T c.args.stride c.args.samples.now c.requires.size_some c.requires.some c.requires.inside

pub returns : goal.returns
returns g c k below =
    c.filter_woven.ensures k below ∙
    ap weighted_sample (columns_are c.args.taps.now c.args.samples.now c.weave_rows.new.woven c.args.size g.row.T c.args.stride k
    c.told-taps c.requires.even c.requires.size_some below c.weave_rows.ensures)
