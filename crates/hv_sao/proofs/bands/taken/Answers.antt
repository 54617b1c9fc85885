use Rattle.hv_sao.proofs.BandLemmas.{may_be_taken, are_taken}
use Rattle.hv_sao.proofs.bands.taken.Goals as goal

pub swizzle : goal.swizzle
swizzle c = may_be_taken c.args.places c.fits-places.0 c.requires

pub returns : goal.returns
returns c = are_taken c.args.made c.args.places c.fits-places.0 c.requires
