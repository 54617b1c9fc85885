use Rattle.hv_types.proofs.VideoLemmas.{raw_counts_bytes}
use Rattle.hv_types.proofs.laws.raw_counts_bytes.Goals as goal

pub returns : goal.returns
returns c = raw_counts_bytes
