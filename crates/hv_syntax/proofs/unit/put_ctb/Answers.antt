use Rattle.std.proofs.Common.{subst}
use Rattle.hv_tables.specs.Bins.{Puts}
use Rattle.hv_tree_model.specs.Plans.{Plan, tree_of, in_block}
use Rattle.hv_unit_model.specs.Bins.{bins}
use Rattle.hv_syntax.specs.declared.block.Block.{Block}
use Rattle.hv_near.specs.Neighbours.{around_of}
use Rattle.hv_syntax.proofs.UnitLemmas.{puts_ctb}
use Rattle.hv_syntax.proofs.unit.put_ctb.Goals as goal

pub returns : goal.returns
returns g c =
    let block : Block = record {
      kind = c.args.kind;
      references = c.args.references;
      site = c.of-site.result;
      beside = c.beside.result;
      plan = c.view.result;
    } in
    let around = around_of c.args.near.now in
    subst (λ (p : Plan). Puts g.B.BinSink.stands_for c.args.sink.now c.terminate.new.self
    (bins (in_block c.args.kind c.args.references c.args.place around)
    (record {
      sao = c.args.sao.now;
      tree = tree_of c.args.place p;
      end_of_slice_segment_flag = c.args.last;
    }))) c.view.ensures
    (puts_ctb g.B.BinSink.stands_for c.args.sink.now c.put_offsets.new.sink c.put_node.new.sink
    c.terminate.new.self block around c.args.place c.args.sao.now c.args.last c.of-site.ensures
    c.beside.ensures c.put_offsets.ensures c.put_node.ensures c.terminate.ensures)
