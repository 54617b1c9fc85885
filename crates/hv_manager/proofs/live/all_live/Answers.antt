use Rattle.std.proofs.Common.{arith}
use Rattle.hv_manager.proofs.CountLemmas.{counted_all, counted_more, counted_small}
use Rattle.hv_manager.proofs.live.all_live.Goals as goal

pub add_named-requires-clause-most : goal.add_named-requires-clause-most
add_named-requires-clause-most c =
    counted_small c.args.structure.now c.loop-place.place c.loop-place.live.items
    (omega (arith, c.count-place-end.ensures.value, c.requires.most)) c.loop-place.invariant

pub loop-place-preserved : goal.loop-place-preserved
loop-place-preserved c =
    counted_more c.args.structure.now c.loop-place.place c.order.result c.loop-place.live.items
    c.add_named.new.live.items c.requires (omega (arith, c.count-place-end.ensures.value)) c.order.ensures.value
    c.loop-place.invariant c.add_named.ensures.count c.add_named.ensures.each

pub returns : goal.returns
returns c =
    counted_all c.args.structure.now c.loop-place.place c.loop-place.live.items c.requires
    (omega (arith, c.count-place-end.ensures.value)) c.loop-place.invariant
