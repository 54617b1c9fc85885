use Rattle.hv_entropy_model.proofs.ReadingLemmas.{ended_sound}
use Rattle.hv_cabac.proofs.encoder.Encoder.finish.Goals as goal

pub returns : goal.returns
returns c = λ kind qp bins stood ended.
    c.flush.ensures _ (λ fine. (stood.stands fine (ended_sound bins ended)).interval)
