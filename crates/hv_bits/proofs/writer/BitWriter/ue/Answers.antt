use Rattle.std.proofs.Common.{sym, arith}
use Rattle.hv_stream_model.proofs.FieldLemmas.{exp_golomb-eq}
use Rattle.hv_bits.proofs.WritingLemmas.{Appends-then, Appends-same}
use Rattle.hv_bits.proofs.writer.BitWriter.ue.Goals as goal

pub returns : goal.returns
returns c =
    Appends-same
    (sym (exp_golomb-eq c.ilog2-zeros.result c.args.value (omega arith)
    (c.ilog2-zeros.ensures.power_le) (c.ilog2-zeros.ensures.next_power_gt)))
    (Appends-then c.put.ensures c.put-2.ensures)
