use Rattle.std.proofs.Common.{◌*◌, ◌+◌, arith, refl, replicate}
use Rattle.hv_filter_model.specs.OffsetDecision.{Block, difference}
use Rattle.hv_sao.specs.Tallies.{no_tally}
use Rattle.hv_sao.specs.Decisions.{block_of, edge_key_at}
use Rattle.hv_sao.proofs.AddLemmas.{adds_no_rows, adds_row, none_at_most, counts_all, at_most_more}
use Rattle.hv_sao.proofs.tallies.tally_edges.Goals as goal

pub loop-y-init : goal.loop-y-init
loop-y-init c =
    let b : Block = block_of c.args.block.deblocked.now c.args.block.input.now c.args.block.area in
    record {
      added = adds_no_rows 32 (edge_key_at c.args.class b) (difference b) b.area (replicate 33 no_tally);
      few = none_at_most 33 0 33;
    }

pub loop-y-preserved : goal.loop-y-preserved
loop-y-preserved c =
    let b : Block = block_of c.args.block.deblocked.now c.args.block.input.now c.args.block.area in
    record {
      added = adds_row 32 (edge_key_at c.args.class b) (difference b) b.area c.loop-y.y (c.loop-y.y + 1) (replicate 33 no_tally) c.loop-y.tallies
          c.add_row_of_edges.new.tallies refl c.loop-y.invariant.added c.add_row_of_edges.ensures.added;
      few = c.add_row_of_edges.ensures.few;
    }

pub returns : goal.returns
returns c =
    let b : Block = block_of c.args.block.deblocked.now c.args.block.input.now c.args.block.area in
    record {
      counts = counts_all 32 c.loop-y.y 33 (edge_key_at c.args.class b) b c.loop-y.tallies (omega arith) c.loop-y.invariant.added;
      few = at_most_more 33 (64 * c.loop-y.y) 4096 c.loop-y.tallies c.loop-y.invariant.few (omega (arith, c.args.block.inside.rows));
    }
