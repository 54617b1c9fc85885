use Rattle.hv_sao.proofs.BandLemmas.{places_are}
use Rattle.hv_sao.proofs.bands.places.Goals as goal

pub returns : goal.returns
returns c = places_are 16 c.args.position c.args.samples c.requires c.fits-samples.0 c.fits-samples.1
