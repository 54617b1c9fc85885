use Rattle.hv_syntax.proofs.quadtree.+put_node.Given as goal

abbrev pub decreases-put_node : goal.decreases-put_node
decreases-put_node g l = l.size
