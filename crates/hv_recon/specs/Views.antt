-- What the code sees from a coding tree block, as the definitions have it.
use Rattle.std.specs.Prelude.{Option, Some, None}
use Rattle.hv_recon_model.specs.SeenSamples.{Spot, SampleEdges, SamplesAround}
use Rattle.hv_recon.specs.declared.around.SampleEdges.{SampleEdges as CodeEdges}
use Rattle.hv_recon.specs.declared.around.SamplesAround.{SamplesAround as CodeAround}
use Rattle.hv_recon.specs.declared.around.View.{View}

abbrev pub edges_of : Option CodeEdges → Option SampleEdges
edges_of None = None
edges_of (Some e) = Some (record { right = e.right.now; bottom = e.bottom.now })

abbrev pub around_of : CodeAround → SamplesAround
around_of a = record {
  left = edges_of a.left;
  above_left = edges_of a.above_left;
  above = edges_of a.above;
  above_right = edges_of a.above_right;
}

abbrev pub spot_of : View → Spot
spot_of v = record {
  side = v.side;
  left = v.left;
  top = v.top;
  width = v.width;
  height = v.height;
}
