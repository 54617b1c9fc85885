use Rattle.hv_speed.proofs.OffsetLemmas.{band_between}
use Rattle.hv_speed.proofs.offsets.band_choice.Goals as goal

pub returns : goal.returns
returns c = record {
  luma = record { kind = c.requires; offsets = band_between c.args.position };
  cb = record { kind = c.requires; offsets = band_between c.args.position };
  cr = record { kind = c.requires; offsets = band_between c.args.position };
  chroma = tt;
}
