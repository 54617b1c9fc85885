use Rattle.hv_stream_model.proofs.BitLemmas.{number_of-digits, number_of-append, number_of_lt, digits-number_of}
use Rattle.hv_stream_model.proofs.digit_laws.numbers_laws.Goals as goal

pub returns-clause-digits : goal.returns-clause-digits
returns-clause-digits c = number_of-digits

pub returns-clause-split : goal.returns-clause-split
returns-clause-split c = number_of-append

pub returns-clause-bound : goal.returns-clause-bound
returns-clause-bound c = number_of_lt

pub returns-clause-back : goal.returns-clause-back
returns-clause-back c = digits-number_of
