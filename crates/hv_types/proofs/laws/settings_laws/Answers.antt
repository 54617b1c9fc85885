use Rattle.hv_types.proofs.ConfigurationLemmas.{valid, picture_bytes-least, picture_bytes-most}
use Rattle.hv_types.proofs.laws.settings_laws.Goals as goal

pub returns-clause-valid : goal.returns-clause-valid
returns-clause-valid c = valid

pub returns-clause-least : goal.returns-clause-least
returns-clause-least c = picture_bytes-least

pub returns-clause-most : goal.returns-clause-most
returns-clause-most c = picture_bytes-most
