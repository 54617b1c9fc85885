use Rattle.std.proofs.Common.{◌∙◌, ap, sym, arith, take_all}
use Rattle.std.proofs.lemmas.Simd.{put_chunk_whole}
use lib.Lanes.{put_chunk}
use Rattle.hv_interp.proofs.filters.copy_32.Goals as goal

pub returns : goal.returns
returns c =
    ap (put_chunk 0 c.args.out.now) (take_all 32 c.args.samples.now (omega (arith, c.requires.samples))) ∙
    put_chunk_whole c.args.out.now c.args.samples.now (c.requires.room ∙ sym c.requires.samples)
