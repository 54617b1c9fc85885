use Rattle.std.proofs.Common.{map}
use Rattle.hv_sao.specs.Components.{component_of}
use Rattle.hv_sao.specs.Planes.{HasRows, plane_sample}
use Rattle.hv_sao.proofs.apply.apply_plane.Given as goal

abbrev pub invariant-loop-y : goal.invariant-loop-y
invariant-loop-y l =
    HasRows l.y (plane_sample l.side l.across (map (component_of l.component) l.sao) l.deblocked) l.deblocked l.shown
