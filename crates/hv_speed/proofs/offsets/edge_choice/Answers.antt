use Rattle.std.proofs.Common.{refl}
use Rattle.hv_speed.proofs.OffsetLemmas.{edge_between}
use Rattle.hv_speed.proofs.offsets.edge_choice.Goals as goal

pub returns : goal.returns
returns c = record {
  luma = record { kind = c.requires; offsets = edge_between c.args.class };
  cb = record { kind = c.requires; offsets = edge_between c.args.class };
  cr = record { kind = c.requires; offsets = edge_between c.args.class };
  chroma = refl;
}
