use Rattle.hv_cabac.proofs.StandingLemmas.{stands_terminate}
use Rattle.hv_cabac.proofs.encoder.EncoderBinSink.terminate.Goals as goal

pub returns : goal.returns
returns c = λ kind qp before stood. record {
  stands =
      stands_terminate c.args.self.now.register c.encode_terminate.new.self _ kind qp before
      c.args.value stood.stands c.encode_terminate.ensures.goes_on c.encode_terminate.ensures.ends;
}
