-- The bins of the calls, one behind the other.
use Rattle.hv_packet.proofs.PuttingLemmas.{puts_both}
use Rattle.hv_packet.proofs.blank.put_coding_tree_unit.Goals as goal

pub returns : goal.returns
returns g c =
    let s = g.B.BinSink.stands_for in
    puts_both s _ _ _ _ _
    (puts_both s _ _ _ _ _
    (puts_both s _ _ _ _ _
    (puts_both s _ _ _ _ _ c.put_merge.ensures c.put_merge-2.ensures)
    (puts_both s _ _ _ _ _ c.put_element.ensures c.put_element-2.ensures))
    c.put_quadtree.ensures)
    c.terminate.ensures
