-- A node's children are smaller.
use Rattle.hv_packet.proofs.blank.+put_quadtree.Given as goal

abbrev pub decreases-put_quadtree : goal.decreases-put_quadtree
decreases-put_quadtree g l = l.size
