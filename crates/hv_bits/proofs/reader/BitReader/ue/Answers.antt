use Rattle.std.proofs.Common.{rules, ◌≡◌, ◌+◌, ◌*◌, ◌<◌, ◌≤◌, arith, ap, subst, sym, ◌∙◌, take, drop, length}
use Rattle.hv_stream_model.specs.Bits.{number_of}
use Rattle.hv_stream_model.specs.Fields.{leading_zeros}
use Rattle.hv_bits.proofs.ReadingLemmas.{one_behind}
use Rattle.hv_bits.proofs.reader.BitReader.ue.Goals as goal

pub overflow_sub-result : goal.overflow_sub-result
overflow_sub-result c =
    let few : c.zeros-zeros.result ≡ leading_zeros c.args.self.now = omega arith in
    let there : 2 * c.zeros-zeros.result + 1 ≤ length c.args.self.now =
    c.if-not-has.ensures.0 (search rules) in
    let some : 0 < number_of (take (c.zeros-zeros.result + 1) (drop c.zeros-zeros.result
    c.args.self.now)) =
    subst (λ n. 0 < number_of (take (c.zeros-zeros.result + 1) (drop n c.args.self.now))) (sym few)
    (one_behind c.args.self.now c.zeros-zeros.result (omega arith)) in
    let number : c.take-2.result ≡ number_of (take (c.zeros-zeros.result + 1) (drop
    c.zeros-zeros.result c.args.self.now)) =
    c.take-2.ensures.value ∙ ap (λ w. number_of (take (c.zeros-zeros.result + 1) w))
    c.take.ensures.rest in
    omega (arith, some, number)
