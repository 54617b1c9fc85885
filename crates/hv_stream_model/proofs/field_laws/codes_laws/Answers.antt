use Rattle.hv_stream_model.proofs.FieldLemmas.{exp_golomb-eq, leading_zeros-code, padding_of-eq, last_of-append}
use Rattle.hv_stream_model.proofs.field_laws.codes_laws.Goals as goal

pub returns-clause-exp_golomb : goal.returns-clause-exp_golomb
returns-clause-exp_golomb c = exp_golomb-eq

pub returns-clause-zeros : goal.returns-clause-zeros
returns-clause-zeros c = leading_zeros-code

pub returns-clause-padding : goal.returns-clause-padding
returns-clause-padding c = padding_of-eq

pub returns-clause-last : goal.returns-clause-last
returns-clause-last c = last_of-append
