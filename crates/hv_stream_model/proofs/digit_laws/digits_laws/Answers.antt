use Rattle.hv_stream_model.proofs.DigitLemmas.{length-digits, digits-add, digits_low}
use Rattle.hv_stream_model.proofs.BitLemmas.{digits-mod, digits-pair}
use Rattle.hv_stream_model.proofs.FieldLemmas.{digits-zero, top_digit}
use Rattle.hv_stream_model.proofs.digit_laws.digits_laws.Goals as goal

pub returns-clause-count : goal.returns-clause-count
returns-clause-count c = length-digits

pub returns-clause-split : goal.returns-clause-split
returns-clause-split c = digits-add

pub returns-clause-low : goal.returns-clause-low
returns-clause-low c = digits_low

pub returns-clause-remainder : goal.returns-clause-remainder
returns-clause-remainder c = digits-mod

pub returns-clause-pair : goal.returns-clause-pair
returns-clause-pair c = digits-pair

pub returns-clause-zero : goal.returns-clause-zero
returns-clause-zero c = digits-zero

pub returns-clause-highest : goal.returns-clause-highest
returns-clause-highest c = top_digit
