use Rattle.std.proofs.Common.{◌≡◌, ◌%◌, arith, ap, sym, ◌∙◌, length}
use Rattle.hv_stream_model.specs.Bits.{bits_of, bytes_of}
use Rattle.hv_stream_model.proofs.BitLemmas.{bytes_of-bits_of, AreBytes-append}
use Rattle.hv_bits.proofs.PuttingLemmas.{flush_byte, flushed, low_byte}
use Rattle.hv_bits.proofs.writer.BitWriter.finish.Goals as goal

pub loop-waiting-preserved : goal.loop-waiting-preserved
loop-waiting-preserved c = (
  omega arith,
  rw c.in_ok-push.ensures.items (flush_byte _ _ _ c.loop-waiting-test.true ∙
      c.loop-waiting.invariant.1),
  rw c.in_ok-push.ensures.items (AreBytes-append _ _ c.loop-waiting.invariant.2 (low_byte _, tt)),
)

pub returns-clause-ok : goal.returns-clause-ok
returns-clause-ok c =
    let whole : length c.args.self.bits % 8 ≡ 0 =
    c.requires (ap (λ s. s.failed) (sym c.self.view_is) ∙ c.if-failed.false) in
    let all : bits_of c.loop-waiting.bytes.items ≡ c.args.self.bits =
    flushed _ _ _ _ (omega arith) c.loop-waiting.invariant.1 whole in
    sym (bytes_of-bits_of c.loop-waiting.bytes.items c.loop-waiting.invariant.2) ∙
    ap (λ b. bytes_of b) all

pub returns-clause-bits : goal.returns-clause-bits
returns-clause-bits c =
    let whole : length c.args.self.bits % 8 ≡ 0 =
    c.requires (ap (λ s. s.failed) (sym c.self.view_is) ∙ c.if-failed.false) in
    flushed _ _ _ _ (omega arith) c.loop-waiting.invariant.1 whole
