use Rattle.hv_unit_model.proofs.GeometryLemmas.{address_of_place}
use Rattle.hv_unit_model.proofs.unit_laws.places_have_addresses.Goals as goal

pub returns : goal.returns
returns c = address_of_place
