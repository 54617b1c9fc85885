use Rattle.std.proofs.Common.{◌∙◌, ◌+◌, arith, length-set, refl, subst, sym}
use Rattle.hv_sao.specs.Decisions.{HasBandOffsets, AreSmallTo}
use Rattle.hv_sao.proofs.CandidateLemmas.{no_band_offsets, band_offsets_more, small_more}
use Rattle.hv_sao.proofs.candidates.band_offsets.Goals as goal

pub loop-band-init : goal.loop-band-init
loop-band-init c = record {
  room = refl;
  value = λ b squares counted. no_band_offsets b _;
  small = record { small = λ k below. absurd (omega arith) };
}

pub loop-band-preserved : goal.loop-band-preserved
loop-band-preserved c = record {
  room = length-set c.loop-band.offsets c.from.result c.band_offset.result ∙ c.loop-band.invariant.room;
  value = λ b squares counted.
      band_offsets_more c.from.result (c.loop-band.band + 1) b c.loop-band.offsets c.band_offset.result (omega (arith, c.loop-band.invariant.room, c.from.ensures))
      (omega (arith, c.from.ensures))
      (subst (λ n. HasBandOffsets n b c.loop-band.offsets) (sym c.from.ensures) (c.loop-band.invariant.value b squares counted))
      (λ position i last below is. c.band_offset.ensures.value b squares position i counted last below (is ∙ c.from.ensures));
  small = small_more c.from.result (c.loop-band.band + 1) c.loop-band.offsets c.band_offset.result (omega (arith, c.loop-band.invariant.room, c.from.ensures))
      (omega (arith, c.from.ensures))
      (subst (λ n. AreSmallTo n c.loop-band.offsets) (sym c.from.ensures) c.loop-band.invariant.small)
      c.band_offset.ensures.small;
}

pub returns : goal.returns
returns c = record {
  value = λ b squares counted.
      subst (λ n. HasBandOffsets n b c.loop-band.offsets) (omega arith) (c.loop-band.invariant.value b squares counted);
  small = subst (λ n. AreSmallTo n c.loop-band.offsets) (omega arith) c.loop-band.invariant.small;
}
