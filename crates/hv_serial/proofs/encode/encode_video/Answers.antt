-- The sink refused at the end, behind the whole output, or it took all, which decodes.
use Rattle.std.proofs.Common.{sym, ◌∙◌}
use Rattle.hv_serial.proofs.EndLemmas.{end_fault, ok_decodes}
use Rattle.hv_serial.proofs.encode.encode_video.Goals as goal

pub returns-in-Err-clause-ends : goal.returns-in-Err-clause-ends
returns-in-Err-clause-ends g c =
    end_fault c.args.config.now c.in_ok-totals.totals _ _ _ _ _ _ _ c.in_ok-totals.ensures c.end.ensures.same c.in-Err.ensures.fault

pub returns-in-Ok-clause-decoded : goal.returns-in-Ok-clause-decoded
returns-in-Ok-clause-decoded g c bytes stream emit told none new =
    ok_decodes c.inter_streams_are_decoded.ensures c.args.config.now c.requires.valid
    c.in_ok-totals.totals _ _ c.in_ok-totals.ensures bytes stream emit told none
    (sym c.end.ensures.same ∙ new)
