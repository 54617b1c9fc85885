use Rattle.std.proofs.Common.{◌≡◌, ℕ, ◌+◌, ◌-◌, List, length, set, arith, ap, ap₂, ◌∙◌}
use Rattle.hv_stream_model.specs.Bits.{digits, number_of}
use Rattle.hv_entropy_model.specs.CodeWord.{word_at, odd_from}
use Rattle.hv_plain.proofs.NumberLemmas.{below_power, stop_bit}
use Rattle.hv_plain.proofs.interval.PlainInterval.word.Goals as goal

pub add-requires-clause-fits : goal.add-requires-clause-fits
add-requires-clause-fits c =
    below_power (number_of c.self.inside.low.items + (c.self.inside.range - 2))
    (length c.self.inside.low.items)
    c.self.invariant.0 (omega (arith, c.self.invariant.4))

pub returns : goal.returns
returns c =
    let xs : List ℕ = c.add.new.digits.items in
    let len : length xs ≡ length c.self.inside.low.items - 9 + 9 =
    omega (arith, c.add.ensures.count, c.self.invariant.0) in
    let at : c.len-last.result - 1 ≡ length xs - 1 = omega arith in
    let v : number_of xs ≡ number_of c.self.inside.low.items + c.self.inside.range - 2 =
    omega (arith, c.add.ensures.number, c.self.invariant.1) in
    ap (λ (i : ℕ). set xs i 1) at ∙ stop_bit xs c.add.ensures.bits (omega (arith, len))
    ∙ ap₂ (λ (a b : ℕ). digits a (odd_from b)) len v ∙ ap word_at c.self.view_is
