use Rattle.std.proofs.Common.{◌∙◌, ap, sym, map}
use Rattle.std.proofs.lemmas.Simd.{put_chunk_whole}
use Rattle.std.proofs.lemmas.List.{length-map}
use lib.Lanes.{put_chunk}
use Rattle.hv_lemmas.specs.Clipping.{clip1}
use Rattle.hv_interp.proofs.RoundedLaneLemmas.{all_ask, clips_are}
use Rattle.hv_interp.proofs.totals.put_clipped.Goals as goal

pub overflow_cast-out : goal.overflow_cast-out
overflow_cast-out c = all_ask 8 _

pub returns : goal.returns
returns c =
    ap (put_chunk 0 c.args.out.now) (clips_are 8 c.args.lanes c.requires.eight c.requires.numbers) ∙
    put_chunk_whole c.args.out.now (map clip1 c.args.lanes) (c.requires.room ∙ sym (length-map c.args.lanes clip1 ∙ c.requires.eight))
