use Rattle.std.proofs.Common.{◌≡◌, ◌∙◌, sym, ap, ◌++◌, [], drop, append-nil}
use Rattle.std.proofs.Math.ListN.{drop_of_length-le}
use Rattle.hv_stream_model.specs.ZeroRuns.{escape_after}
use Rattle.hv_stream_model.proofs.UnitLemmas.{escape-runs}
use Rattle.hv_plain.proofs.escaping.escape.Goals as goal

pub returns : goal.returns
returns c =
    let none : drop c.loop-byte.byte-index c.args.bytes.now ≡ [] =
    drop_of_length-le c.args.bytes.now c.loop-byte-test.false in
    sym (append-nil c.loop-byte.escaped.items) ∙
    ap (λ rest. c.loop-byte.escaped.items ++ escape_after c.loop-byte.run rest) (sym none) ∙
    c.loop-byte.invariant.1 ∙ sym (escape-runs c.args.bytes.now)
