-- What lies around the block shows the picture, so the bins put are those of the picture.
use Rattle.std.proofs.Common.{◌≡◌, ◌∙◌, List, take, ap, subst, sym, arith, ◌≤◌, ◌<◌, length}
use Rattle.std.specs.Prelude.{slice_get, Some, option_map}
use Rattle.std.proofs.lemmas.List.{length-map}
use Rattle.std.proofs.lemmas.Option.{slice_get-map, slice_get_within}
use Rattle.hv_tables.specs.Bins.{Bin, Puts}
use Rattle.hv_tree_model.specs.Trees.{CodingTreeUnit}
use Rattle.hv_block.specs.declared.edges.Neighbours.{Neighbours}
use Rattle.hv_tree_model.specs.Sites.{site, blocks_over}
use Rattle.hv_tree_model.specs.Plans.{tree_of}
use Rattle.hv_unit_model.specs.PlanLaws.{LieAround}
use Rattle.hv_near.specs.Neighbours.{around_of}
use Rattle.hv_syntax.proofs.PictureLemmas.{lies_around}
use Rattle.hv_packet.specs.BlockPlans.{plan_of, plans_of}
use Rattle.hv_packet.proofs.AroundLemmas.{plans_before, bins_by_around}
use Rattle.hv_packet.proofs.PlannedLemmas.{one_more_whole}
use Rattle.hv_packet.proofs.blocks.put_block.Goals as goal

pub put_ctb-requires-clause-names : goal.put_ctb-requires-clause-names
put_ctb-requires-clause-names g c =
    let blocks = g.B.Blocks.blocks c.args.blocks.now in
    let got : slice_get (plans_of blocks) c.args.index ≡ Some (plan_of c.args.block.now) =
    slice_get-map plan_of blocks c.args.index ∙ ap (option_map plan_of) c.requires.there in
    c.requires.names c.args.index (plan_of c.args.block.now) got

pub returns-clause-bins : goal.returns-clause-bins
returns-clause-bins g c =
    let slice = c.args.slice in
    let index = c.args.index in
    let here = site slice.width slice.height index in
    let blocks = g.B.Blocks.blocks c.args.blocks.now in
    let plans = plans_of blocks in
    let there = slice_get_within blocks index c.args.block.now c.requires.there in
    let within : index ≤ length plans = omega (arith, there, length-map blocks plan_of) in
    let before = plans_before slice.width slice.height index plans within c.requires.before
    c.requires.names in
    let unit : CodingTreeUnit = record {
      sao = c.args.sao.now;
      tree = tree_of here (plan_of c.args.block.now);
      end_of_slice_segment_flag = c.args.last;
    } in
    let some = slice.width_least in
    let columns : 0 < blocks_over slice.width = omega (arith, some) in
    let around = around_of c.neighbours_of-near.result in
    let lie : LieAround here (take index plans) around =
    subst (λ (near : Neighbours). LieAround here (take index plans) (around_of near))
    (sym c.neighbours_of-near.ensures)
    (lies_around blocks here columns
    (omega (arith, there))
    (λ k plan early got. c.requires.before k plan early got)) in
    subst (λ (list : List Bin). Puts g.S.BinSink.stands_for c.args.sink.now c.put_ctb.new.sink list)
    (bins_by_around slice.kind slice.references here (take index plans) around unit before lie)
    c.put_ctb.ensures

pub returns-clause-whole : goal.returns-clause-whole
returns-clause-whole g c =
    let index = c.args.index in
    let blocks = g.B.Blocks.blocks c.args.blocks.now in
    let got : slice_get (plans_of blocks) index ≡ Some (plan_of c.args.block.now) =
    slice_get-map plan_of blocks index ∙ ap (option_map plan_of) c.requires.there in
    one_more_whole index (plans_of blocks) (plan_of c.args.block.now) c.requires.before got
    c.is_whole.ensures
