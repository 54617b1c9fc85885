-- All bytes of the group are written, or the first ones.
use Rattle.std.proofs.Common.{arith}
use Rattle.std.specs.Prelude.{nat_eq}
use Rattle.hv_serial.proofs.OutputLemmas.{puts_group, puts_part}
use Rattle.hv_serial.proofs.writing.write_group.Goals as goal

pub returns-in_default-write_all-clause-ends : goal.returns-in_default-write_all-clause-ends
returns-in_default-write_all-clause-ends g c =
    puts_part c.args.input.config (nat_eq c.args.number 0) c.args.input.pictures
    c.in-Ok.bytes.items c.deref.result.now _ c.in-Ok.ensures.bytes c.deref.ensures.value
    c.in_default-write_all.ensures.err c.in_default-write_all.ensures.fault

pub returns-clause-ends : goal.returns-clause-ends
returns-clause-ends g c =
    puts_group c.args.input.config (nat_eq c.args.number 0) c.args.input.pictures
    c.in-Ok.bytes.items c.deref.result.now _ c.in-Ok.ensures.bytes c.deref.ensures.value c.len.result
    c.in-Ok-write_all.ensures.ok (omega (arith, c.len.ensures, c.in-Ok.bytes.ok))
    (omega (arith, c.len.ensures, c.in-Ok.bytes.ok, c.in-Ok.bytes.small))
    c.in-Ok-write_all.ensures.no_fault
