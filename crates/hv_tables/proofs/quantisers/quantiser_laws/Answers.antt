use Rattle.hv_tables.proofs.QuantiserLemmas.{chroma_falls, chroma_half, chroma_below, chroma_above, scales_nearest, factors_nearest}
use Rattle.hv_tables.proofs.quantisers.quantiser_laws.Goals as goal

pub returns-clause-below : goal.returns-clause-below
returns-clause-below c = chroma_below

pub returns-clause-from_30 : goal.returns-clause-from_30
returns-clause-from_30 c = chroma_falls

pub returns-clause-from_34 : goal.returns-clause-from_34
returns-clause-from_34 c = chroma_half

pub returns-clause-above : goal.returns-clause-above
returns-clause-above c = chroma_above

pub returns-clause-scales : goal.returns-clause-scales
returns-clause-scales c = scales_nearest

pub returns-clause-factors : goal.returns-clause-factors
returns-clause-factors c = factors_nearest
