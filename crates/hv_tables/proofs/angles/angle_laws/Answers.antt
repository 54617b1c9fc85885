use Rattle.hv_tables.proofs.AngleLemmas.{angles_mirrored, angles_turned, inverse_angles_nearest}
use Rattle.hv_tables.proofs.angles.angle_laws.Goals as goal

pub returns-clause-mirrored : goal.returns-clause-mirrored
returns-clause-mirrored c = angles_mirrored

pub returns-clause-turned : goal.returns-clause-turned
returns-clause-turned c = angles_turned

pub returns-clause-inverse : goal.returns-clause-inverse
returns-clause-inverse c = inverse_angles_nearest
