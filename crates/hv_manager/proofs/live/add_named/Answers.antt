use Rattle.std.proofs.Common.{Some, arith}
use Rattle.hv_manager.proofs.StructureLemmas.{first_below, second_below, named_sum}
use Rattle.hv_manager.proofs.CountLemmas.{small_enough, small_more}
use Rattle.hv_manager.proofs.live.add_named.Goals as goal

pub returns-clause-each : goal.returns-clause-each
returns-clause-each c k below =
    omega (
      arith,
      c.add.ensures.each k (omega (arith, c.requires.count)),
      c.add-2.ensures.each k (omega (arith, c.add.ensures.count, c.requires.count)),
      c.add-3.ensures.each k (omega (arith, c.add-2.ensures.count, c.add.ensures.count, c.requires.count)),
      named_sum c.args.structure.now c.args.picture c.first.result c.second.result k c.requires.structure
          c.requires.picture c.first.ensures c.second.ensures,
    )

pub add-requires-2-clause-below : goal.add-requires-2-clause-below
add-requires-2-clause-below c x e =
    omega (
      arith,
      first_below c.args.structure.now c.args.picture c.first.result c.requires.structure c.requires.picture
          c.first.ensures x e,
      c.add.ensures.count,
      c.requires.count,
    )

pub add-requires-2-clause-most : goal.add-requires-2-clause-most
add-requires-2-clause-most c =
    small_enough 65 c.add.new.live.items (omega arith)
    (small_more 64 (Some c.args.picture) c.args.live.now.items c.add.new.live.items c.add.ensures.count c.add.ensures.each c.requires.most)

pub add-requires-3-clause-below : goal.add-requires-3-clause-below
add-requires-3-clause-below c x e =
    omega (
      arith,
      second_below c.args.structure.now c.args.picture c.second.result c.requires.structure c.requires.picture
          c.second.ensures x e,
      c.add-2.ensures.count,
      c.add.ensures.count,
      c.requires.count,
    )

pub add-requires-3-clause-most : goal.add-requires-3-clause-most
add-requires-3-clause-most c =
    small_enough 66 c.add-2.new.live.items (omega arith)
    (small_more 65 c.first.result c.add.new.live.items c.add-2.new.live.items c.add-2.ensures.count c.add-2.ensures.each
    (small_more 64 (Some c.args.picture) c.args.live.now.items c.add.new.live.items c.add.ensures.count c.add.ensures.each c.requires.most))
