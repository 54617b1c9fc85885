use Rattle.hv_unit_model.proofs.GeometryLemmas.{place_of_address}
use Rattle.hv_unit_model.proofs.unit_laws.addresses_are_places.Goals as goal

pub returns : goal.returns
returns c = place_of_address
