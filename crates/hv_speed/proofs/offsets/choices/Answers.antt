use Rattle.hv_speed.proofs.OffsetLemmas.{all_of_four}
use Rattle.hv_speed.proofs.offsets.choices.Goals as goal

pub returns-then-has_edges : goal.returns-then-has_edges
returns-then-has_edges c =
    all_of_four c.edge_choice.result c.edge_choice-then-has_edges.result c.edge_choice-then-has_edges-2.result c.edge_choice-then-has_edges-3.result
    c.edge_choice.ensures c.edge_choice-then-has_edges.ensures c.edge_choice-then-has_edges-2.ensures c.edge_choice-then-has_edges-3.ensures

pub returns-else-has_edges : goal.returns-else-has_edges
returns-else-has_edges c =
    all_of_four c.band_choice.result c.band_choice-else-has_edges.result c.band_choice-else-has_edges-2.result c.band_choice-else-has_edges-3.result
    c.band_choice.ensures c.band_choice-else-has_edges.ensures c.band_choice-else-has_edges-2.ensures c.band_choice-else-has_edges-3.ensures
