use Rattle.hv_tables.proofs.MatrixLemmas.{second_of_32, second_of_16, second_of_8, second_of_4, third_of_4}
use Rattle.hv_tables.proofs.matrix.matrix_laws.Goals as goal

pub returns-clause-of_32 : goal.returns-clause-of_32
returns-clause-of_32 c = second_of_32

pub returns-clause-of_16 : goal.returns-clause-of_16
returns-clause-of_16 c = second_of_16

pub returns-clause-of_8 : goal.returns-clause-of_8
returns-clause-of_8 c = second_of_8

pub returns-clause-of_4 : goal.returns-clause-of_4
returns-clause-of_4 c = second_of_4

pub returns-clause-third_of_4 : goal.returns-clause-third_of_4
returns-clause-third_of_4 c = third_of_4
