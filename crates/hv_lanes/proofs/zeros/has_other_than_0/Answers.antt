use Rattle.std.proofs.Common.{ap, ◌∙◌, arith, ◌%◌, nat_eq}
use Rattle.std.specs.Prelude.{not}
use lib.Lanes.{mask_l}
use lib.Seq.{take_all}
use Rattle.hv_lanes.proofs.ZeroLemmas.{marks, any_is}
use Rattle.hv_lanes.proofs.zeros.has_other_than_0.Goals as goal

pub returns : goal.returns
returns c =
    ap (λ v. not (nat_eq (mask_l (marks 8 v) % 18446744073709551616) 0)) (take_all 8 c.args.numbers.now (omega (arith, c.requires.eight))) ∙
    any_is c.args.numbers.now c.requires.eight c.requires.numbers
