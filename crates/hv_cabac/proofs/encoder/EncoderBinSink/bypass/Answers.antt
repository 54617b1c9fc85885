use Rattle.std.proofs.Common.{refl}
use Rattle.hv_tables.specs.Bins.{Bypass}
use Rattle.hv_cabac.proofs.StandingLemmas.{stands_more}
use Rattle.hv_cabac.proofs.encoder.EncoderBinSink.bypass.Goals as goal

pub returns : goal.returns
returns c = λ kind qp before stood.
    let old = c.args.self.now.register in
    record {
      stands =
          stands_more old _ _ _ kind qp before Bypass c.args.value refl stood.stands c.encode_bypass.ensures
          refl;
    }
