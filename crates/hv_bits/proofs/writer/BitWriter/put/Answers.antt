use Rattle.std.proofs.Common.{◌≡◌, ◌+◌, ◌-◌, ◌/◌, ◌^◌, ◌++◌, arith}
use Rattle.std.specs.Int.{w32, to_be_bytes}
use Rattle.hv_stream_model.proofs.BitLemmas.{AreBytes-append, AreBytes-bytes_high_first}
use Rattle.hv_bits.proofs.PuttingLemmas.{put_few, put_word, low, joined}
use Rattle.hv_bits.proofs.writer.BitWriter.put.Goals as goal

pub returns-then-waiting-lt32 : goal.returns-then-waiting-lt32
returns-then-waiting-lt32 c =
    rw (← c.self.view_is, c.from.ensures, c.from-2.ensures, c.from-3.ensures)
    (record {
      unfailed = λ e. e;
      bits =
          λ e. put_few _ _ _ _ _ (omega arith) (omega arith) c.requires.fits;
    })

pub returns-else-is_err : goal.returns-else-is_err
returns-else-is_err c =
    let word : c.to_be_bytes.result ≡
    to_be_bytes w32 (low (joined c.from.result c.args.bits c.from-2.result / 2 ^
    (c.self.inside.waiting + c.from-3.result - 32))) =
    c.to_be_bytes.ensures in
    let stored : c.extend_from_slice.new.self.items ≡
    c.self.inside.bytes.items ++ to_be_bytes w32 (low (joined c.from.result c.args.bits
    c.from-2.result / 2 ^ (c.self.inside.waiting + c.from-3.result - 32))) =
    rw (c.if-is_err.ensures.negation, word) at c.extend_from_slice.ensures.items in
    rw (← c.self.view_is, stored, c.from.ensures, c.from-2.ensures, c.from-3.ensures)
    (record {
      unfailed = λ e. e;
      bits =
          λ e. put_word _ _ _ _ _ (omega arith) c.self.invariant.0 c.requires.width (omega arith)
          c.requires.fits;
    })

pub invariant_of-self-else-is_err : goal.invariant_of-self-else-is_err
invariant_of-self-else-is_err c =
    let word : c.to_be_bytes.result ≡
    to_be_bytes w32 (low (joined c.from.result c.args.bits c.from-2.result / 2 ^
    (c.self.inside.waiting + c.from-3.result - 32))) =
    c.to_be_bytes.ensures in
    let stored : c.extend_from_slice.new.self.items ≡
    c.self.inside.bytes.items ++ to_be_bytes w32 (low (joined c.from.result c.args.bits
    c.from-2.result / 2 ^ (c.self.inside.waiting + c.from-3.result - 32))) =
    rw (c.if-is_err.ensures.negation, word) at c.extend_from_slice.ensures.items in (
      omega arith,
      rw stored (AreBytes-append _ _ c.self.invariant.1 (AreBytes-bytes_high_first 4
          _)),
    )
