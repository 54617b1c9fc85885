use Rattle.std.proofs.Common.{arith}
use Rattle.hv_cabac.proofs.WordLemmas.{word_bytes}
use Rattle.hv_cabac.proofs.register.Register.flush.Goals as goal

pub returns : goal.returns
returns c = λ i held.
    let out = c.in_ok-put_rest.ensures in
    word_bytes c.args.self c.put_rest.new.out.items _ _ i (held c.if-failed.false) (omega arith)
    c.last_of-last.ensures.value
    (record { long = out.length; value = out.value; are = out.bytes })
