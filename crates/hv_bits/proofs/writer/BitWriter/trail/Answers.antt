use Rattle.std.proofs.Common.{◌≡◌, ◌%◌, ap, subst, sym, ◌∙◌, length}
use Rattle.hv_stream_model.specs.Fields.{padding_of}
use Rattle.hv_stream_model.proofs.FieldLemmas.{length-aligned}
use Rattle.hv_bits.proofs.PuttingLemmas.{trail_bits}
use Rattle.hv_bits.proofs.WritingLemmas.{Appends-same}
use Rattle.hv_bits.proofs.writer.BitWriter.trail.Goals as goal

pub returns : goal.returns
returns c =
    let added = Appends-same
    (trail_bits c.self.inside.bytes.items c.self.inside.recent c.self.inside.waiting ∙
    ap (λ s. padding_of (length s.bits)) c.self.view_is)
    c.put.ensures in
    record {
      put = added;
      whole = λ e. subst (λ w. length w % 8 ≡
          0) (sym (added.bits e)) (length-aligned c.args.self.now.bits);
    }
