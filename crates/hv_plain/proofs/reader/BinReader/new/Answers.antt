use Rattle.std.proofs.Common.{sym, ap, drop}
use Rattle.hv_stream_model.specs.Bits.{bits_of}
use Rattle.hv_entropy_model.specs.Contexts.{first_variables}
use Rattle.hv_entropy_model.specs.Oracle.{if_in_range}
use Rattle.hv_plain.proofs.PlainLemmas.{begun_is, not_begun_is}
use Rattle.hv_plain.proofs.reader.BinReader.new.Goals as goal

pub returns-in-None : goal.returns-in-None
returns-in-None c =
    ap if_in_range (sym (c.in-None.ensures.value (first_variables c.args.kind c.args.qp) 510))

pub returns-then-ivl_offset-lt510 : goal.returns-then-ivl_offset-lt510
returns-then-ivl_offset-lt510 c =
    begun_is (first_variables c.args.kind c.args.qp) c.in_ok-variables.variables.items
    (bits_of c.args.bytes.now)
    (drop c.in-Some.at (bits_of c.args.bytes.now)) c.in-Some.ivl_offset c.in_ok-variables.ensures
    (c.in-Some.ensures.value c.in_ok-variables.variables.items 510) c.if-ivl_offset-lt510.true

pub returns-else-ivl_offset-lt510 : goal.returns-else-ivl_offset-lt510
returns-else-ivl_offset-lt510 c =
    not_begun_is (first_variables c.args.kind c.args.qp) (bits_of c.args.bytes.now)
    (drop c.in-Some.at (bits_of c.args.bytes.now)) c.in-Some.ivl_offset
    (c.in-Some.ensures.value (first_variables c.args.kind c.args.qp) 510)
    c.if-ivl_offset-lt510.false
