-- The rows of the transform matrices that the standard prints (8.6.4.2), computed.
use Rattle.std.proofs.Common.{refl}
use Rattle.hv_lemmas.specs.Lists.{tabulate}
use Rattle.hv_tables.specs.MatrixLaws.{SecondRowOf32, SecondRowOf16, SecondRowOf8, SecondRowOf4, ThirdRowOf4}

pub second_of_32 : SecondRowOf32
unfolding tabulate
second_of_32 = refl

pub second_of_16 : SecondRowOf16
unfolding tabulate
second_of_16 = refl

pub second_of_8 : SecondRowOf8
unfolding tabulate
second_of_8 = refl

pub second_of_4 : SecondRowOf4
unfolding tabulate
second_of_4 = refl

pub third_of_4 : ThirdRowOf4
unfolding tabulate
third_of_4 = refl
