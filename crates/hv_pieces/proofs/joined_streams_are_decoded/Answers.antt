-- The joined stream is that of all pictures.
use Rattle.std.proofs.Common.{◌++◌, Some, sym, ap, ◌∙◌}
use Rattle.hv_model.specs.Decoding.{decode_of}
use Rattle.hv_pieces.proofs.joined_streams_are_decoded.Goals as goal

pub returns : goal.returns
returns c cfg front behind valid whole =
    ap decode_of (sym (c.streams_are_joined.ensures cfg front behind whole))
    ∙ c.inter_streams_are_decoded.ensures cfg (front ++ behind) valid
    ∙ ap Some (c.reconstructions_are_joined.ensures cfg front behind whole)
