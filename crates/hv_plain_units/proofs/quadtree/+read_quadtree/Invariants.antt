use Rattle.hv_plain_units.proofs.quadtree.+read_quadtree.Given as goal

abbrev pub decreases-read_quadtree : goal.decreases-read_quadtree
decreases-read_quadtree l = l.size
