use Rattle.hv_syntax.proofs.naming.+names_node.Given as goal

abbrev pub decreases-names_node : goal.decreases-names_node
decreases-names_node l = l.size
