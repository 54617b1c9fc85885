-- The encoder stands for the bins of all blocks, of which the last one ends the slice.
use Rattle.std.proofs.Common.{◌≡◌, ◌∙◌, [], sym, ap, subst, arith}
use Rattle.std.proofs.lemmas.Result.{IfOk-weaker}
use Rattle.hv_stream_model.specs.Bits.{bytes_of}
use Rattle.hv_entropy_model.specs.CodeWord.{word, IsEnded}
use Rattle.hv_tree_model.specs.Sites.{sites}
use Rattle.hv_slice_model.specs.BlankUnits.{blank_units}
use Rattle.hv_packet.specs.BlankBins.{picture_bins}
use Rattle.hv_packet.proofs.BlankBinLemmas.{picture_bins_defined}
use Rattle.hv_packet.proofs.blank.blank_data.Goals as goal

pub returns : goal.returns
returns c =
    let slice = c.args.slice in
    let places = sites slice.width slice.height in
    let bins = picture_bins slice.kind slice.width slice.height in
    let least = slice.width_least in
    let least_too = slice.height_least in
    let same = picture_bins_defined slice.kind slice.references slice.width slice.height in
    let ended =
    subst IsEnded same
    (c.slice_data_ends.ensures slice.kind slice.references places (blank_units places)
    (c.sites_are_there.ensures slice.width slice.height (omega (arith, least))
    (omega (arith, least_too)))
    (c.blank_units_are_valid.ensures slice.kind slice.references places)) in
    IfOk-weaker c.finish.result (λ bytes. bytes.items ≡ bytes_of (word slice.kind slice.qp bins)) _
    (λ bytes whole. whole ∙ ap (λ b. bytes_of (word slice.kind slice.qp b)) (sym same))
    (c.finish.ensures slice.kind slice.qp bins
    (c.put_slice_data.ensures slice.kind slice.qp [] c.new-encoder.ensures) ended)
