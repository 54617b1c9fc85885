use Rattle.std.proofs.Common.{sym}
use Rattle.hv_cabac.proofs.encoder.Encoder.new.Goals as goal

pub returns : goal.returns
returns c = record {
  stands = λ kept sound. record { interval = c.new.ensures.whole _; adapted = sym c.first.ensures };
}
