-- The bytes of the header, and behind them those of the code word, which ends in a one.
use Rattle.std.proofs.Common.{◌≡◌, sym, ap, ap₂, ◌∙◌}
use Rattle.std.specs.Prelude.{◌++◌, List, ℕ, length}
use Rattle.hv_stream_model.specs.Bits.{bytes_of}
use Rattle.hv_stream_model.specs.Fields.{aligned, bits_of_fields}
use Rattle.hv_stream_model.specs.Units.{last_of}
use Rattle.hv_tree_model.specs.Trees.{CodingTreeUnit}
use Rattle.hv_tree_model.specs.Sites.{Site}
use Rattle.hv_slice_model.specs.Slices.{header_fields, header_in, word_behind, payload_of_slice}
use Rattle.hv_packet.proofs.HeaderLemmas.{fields_in}
use Rattle.hv_packet.proofs.slice.slice_payload.Goals as goal

pub returns : goal.returns
returns c =
    let cfg = c.args.group.now.input.config in
    let count = length c.args.group.now.input.pictures in
    let picture = c.args.picture in
    let head = header_in cfg count picture in
    let fields = bits_of_fields (header_fields head) in
    let value : (sites : List Site) (units : List CodingTreeUnit) →
    c.args.bytes.now ≡ bytes_of (word_behind head sites units) →
    c.extend_from_slice.new.self.items ≡ payload_of_slice head sites units =
    λ sites units given.
    c.in_ok-extend_from_slice.ensures.items ∙
    ap₂ (λ (a b : List ℕ). a ++ b)
    (c.in_ok-payload.ensures ∙
    ap (λ f. bytes_of (aligned (bits_of_fields f))) (sym (fields_in cfg count picture)))
    given ∙
    sym (c.bytes_append.ensures (aligned fields) (word_behind head sites units)
    (c.aligned_bits_are_whole.ensures fields)) in
    record {
      value = value;
      ends = λ sites units given none.
          c.slices_end.ensures head sites units (ap last_of (sym (value sites units given)) ∙ none);
    }
