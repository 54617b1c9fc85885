use Rattle.std.proofs.Common.{rules}
use Rattle.hv_types.proofs.SampleLemmas.{filled_plane_is}
use Rattle.hv_types.proofs.plane.Plane.new.Goals as goal

pub returns : goal.returns
returns c =
    filled_plane_is c.args.width c.args.height c.args.value c.in_ok-samples.samples.items
    c.requires.wide (search rules)
