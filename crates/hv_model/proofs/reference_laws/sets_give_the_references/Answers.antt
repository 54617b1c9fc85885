use Rattle.hv_model.proofs.ListZeroLemmas.{references_given}
use Rattle.hv_model.proofs.reference_laws.sets_give_the_references.Goals as goal

pub returns : goal.returns
returns c = references_given
