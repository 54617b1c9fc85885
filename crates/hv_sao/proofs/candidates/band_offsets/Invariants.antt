use Rattle.std.proofs.Common.{ℕ, ◌≡◌, length}
use Rattle.hv_filter_model.specs.OffsetDecision.{Block}
use Rattle.hv_sao.specs.Decisions.{IsCounted, HasBandOffsets, AreSmallTo}
use Rattle.hv_sao.proofs.candidates.band_offsets.Given as goal

abbrev pub invariant-loop-band : goal.invariant-loop-band
invariant-loop-band l = record {
  room : length l.offsets ≡ 32;
  value : (b : Block) (squares : ℕ) → IsCounted b l.tallies squares → HasBandOffsets l.band b l.offsets;
  small : AreSmallTo l.band l.offsets;
}
