use Rattle.hv_residual_model.proofs.RangeLemmas.{read_levels_are_small}
use Rattle.hv_residual_model.proofs.residual_laws.read_levels_have_16_bits.Goals as goal

pub returns : goal.returns
returns c = read_levels_are_small
