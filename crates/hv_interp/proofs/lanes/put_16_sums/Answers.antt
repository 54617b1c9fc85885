use Rattle.std.proofs.Common.{◌∙◌, ap, sym}
use Rattle.std.proofs.lemmas.Simd.{put_chunk_whole}
use lib.Lanes.{put_chunk}
use Rattle.hv_interp.proofs.EightSumLemmas.{kept, small_fit}
use Rattle.hv_interp.proofs.lanes.put_16_sums.Goals as goal

pub returns : goal.returns
returns c =
    ap (put_chunk 0 c.args.out.now) (kept c.args.sums (small_fit c.args.sums c.requires.range)) ∙
    put_chunk_whole c.args.out.now c.args.sums (c.requires.room ∙ sym c.requires.sixteen)
