use Rattle.hv_syntax.specs.declared.block.Block.{Block}
use Rattle.hv_tables.specs.declared.bins.SliceKind.TheVariants.{I}
use Rattle.hv_near.specs.Neighbours.{lists_of_plan, around_of}
use Rattle.hv_syntax.proofs.UnitLemmas.{modes_at}
use Rattle.hv_syntax.proofs.probable_modes.most_probable_modes.Goals as goal

pub returns : goal.returns
returns c = λ kind references earlier shows inside.
    let block : Block = record {
      kind = I;
      references = 1;
      site = c.of.result;
      beside = c.beside.result;
      plan = c.view.result;
    } in
    modes_at c.candidates.result block (around_of c.args.near.now) c.args.place
    (lists_of_plan c.args.plan.now) c.args.address earlier c.of.ensures c.view.ensures
    c.beside.ensures c.requires.address c.candidates.ensures shows inside
