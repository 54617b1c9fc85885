-- So many groups are read, encoded and written, the buffer has room for one picture, and the
-- workspace is that of the settings. Each turn but the last one takes a picture at least.
use Rattle.std.proofs.Common.{◌≡◌, ◌-◌}
use Rattle.std.specs.Vec.{vec_len}
use Rattle.hv_types.specs.Configuration.{most_pictures, picture_bytes}
use Rattle.hv_serial.proofs.ProgressLemmas.{IsAt}
use Rattle.hv_serial.specs.Transfers.{drawn, put}
use Rattle.hv_serial.proofs.encode.encode_groups.Given as goal
use Rattle.hv_serial.specs.Workspaces.{IsWorkspace}

abbrev pub invariant-groups : goal.invariant-groups
invariant-groups g l =
    IsAt l.config
    (drawn g.S.Source.left g.S.Source.faults l.initial.source l.source)
    (put g.K.Sink.written g.K.Sink.faults l.initial.out l.out) l.totals ×
    (vec_len l.raw ≡ picture_bytes l.config) × IsWorkspace l.config l.work

abbrev pub decreases-groups : goal.decreases-groups
decreases-groups g l = most_pictures - l.totals.pictures
