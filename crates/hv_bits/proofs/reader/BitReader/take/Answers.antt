use Rattle.std.proofs.Common.{arith, ap, ◌∙◌, ◌+◌, ◌/◌, ◌%◌, drop, length-drop}
use Rattle.std.proofs.lemmas.List.{take_rest}
use Rattle.hv_stream_model.specs.Bits.{bits_of}
use Rattle.hv_bits.proofs.ReadingLemmas.{left_bits, drop_passed}
use Rattle.hv_bits.proofs.reader.BitReader.take.Goals as goal

pub number_at-number-requires-clause-there : goal.number_at-number-requires-clause-there
number_at-number-requires-clause-there c =
    omega (
      arith,
      left_bits c.self.inside.bytes.now c.args.self.now c.self.inside.skipped
          c.self.view_is,
      c.self.invariant.1,
    )

pub slice_bounds-self-count : goal.slice_bounds-self-count
slice_bounds-self-count c = omega (
  arith,
  left_bits c.self.inside.bytes.now c.args.self.now c.self.inside.skipped c.self.view_is,
  c.self.invariant.1,
)

pub slice_bounds-self-start : goal.slice_bounds-self-start
slice_bounds-self-start c = omega (
  arith,
  left_bits c.self.inside.bytes.now c.args.self.now c.self.inside.skipped c.self.view_is,
  c.self.invariant.1,
)

pub invariant_of-self : goal.invariant_of-self
invariant_of-self c =
    rw take_rest (
      omega arith,
      omega (
        arith,
        left_bits c.self.inside.bytes.now c.args.self.now c.self.inside.skipped
            c.self.view_is,
        c.self.invariant.1,
        length-drop ((c.self.inside.skipped + c.args.count) / 8) c.self.inside.bytes.now,
      ),
    )

pub returns-clause-rest : goal.returns-clause-rest
returns-clause-rest c =
    ap (λ w. drop ((c.self.inside.skipped + c.args.count) % 8) (bits_of w)) (take_rest
    c.self.inside.bytes.now ((c.self.inside.skipped + c.args.count) / 8)) ∙
    drop_passed c.self.inside.bytes.now c.self.inside.skipped c.args.count ∙
    ap (drop c.args.count) c.self.view_is
