use Rattle.std.proofs.Common.{◌-◌, arith}
use Rattle.hv_tree_model.specs.Sites.{address_of}
use Rattle.hv_syntax.specs.declared.block.Block.{Block}
use Rattle.hv_near.specs.Neighbours.{lists_of_plan, around_of}
use Rattle.hv_syntax.proofs.UnitLemmas.{count_at}
use Rattle.hv_syntax.proofs.unit.count_node.Goals as goal

pub returns-clause-value : goal.returns-clause-value
returns-clause-value c = λ earlier shows.
    let block : Block = record {
      kind = c.args.kind;
      references = c.args.references;
      site = c.of.result;
      beside = c.beside.result;
      plan = c.view.result;
    } in
    count_at c.count_node_of.result block (around_of c.args.near.now) c.args.place
    (lists_of_plan c.args.plan.now) (3 - c.args.node.depth) c.address_of.result
    (address_of c.args.node.x c.args.node.y) earlier c.of.ensures c.view.ensures
    c.address_of.ensures.value c.beside.ensures c.count_node_of.ensures.value shows

pub returns-clause-most : goal.returns-clause-most
returns-clause-most c = omega (arith, c.count_node_of.ensures.most, c.requires.inside)
