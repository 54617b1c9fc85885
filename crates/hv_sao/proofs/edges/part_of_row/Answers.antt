use Rattle.hv_sao.proofs.RowLemmas.{length-part, part_count, part_samples}
use Rattle.std.proofs.Common.{◌≤◌, ◌+◌, ◌*◌, length}
use Rattle.hv_sao.proofs.edges.part_of_row.Goals as goal

pub returns : goal.returns
returns c =
    let within : c.args.y * c.width.result + c.args.x + c.args.count ≤ length c.samples.result.now =
    length-part c.args.plane.now c.samples.result.now c.width.result c.args.x c.args.y c.args.count c.samples.ensures.count
    c.width.ensures.value c.requires.down c.requires.across in
    record {
      count = part_count c.samples.result.now (c.args.y * c.width.result + c.args.x) c.args.count within;
      samples = part_samples c.args.plane.now c.samples.result.now c.width.result c.args.x c.args.y c.args.count c.samples.ensures.value
          c.width.ensures.value within;
    }
