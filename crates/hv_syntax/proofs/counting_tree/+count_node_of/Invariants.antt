use Rattle.hv_syntax.proofs.counting_tree.+count_node_of.Given as goal

abbrev pub decreases-count_node_of : goal.decreases-count_node_of
decreases-count_node_of l = l.size
