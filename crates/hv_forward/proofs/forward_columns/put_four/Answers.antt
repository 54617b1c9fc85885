use Rattle.std.proofs.Common.{ap, ◌∙◌, sym, map}
use Rattle.std.proofs.lemmas.List.{length-map}
use Rattle.std.proofs.lemmas.Simd.{put_chunk_whole}
use lib.Lanes.{put_chunk}
use Rattle.hv_sample_model.specs.Quantisation.{rounded}
use Rattle.hv_lanes.proofs.LaneStepLemmas.{rounded_is}
use Rattle.hv_forward.proofs.forward_columns.put_four.Goals as goal

pub returns : goal.returns
returns c =
    ap (put_chunk 0 c.args.out.now) (rounded_is 4 c.args.shift c.args.lanes c.requires.some c.requires.shift_most c.requires.four c.requires.small) ∙
    put_chunk_whole c.args.out.now (map (λ z. rounded z c.args.shift) c.args.lanes) (c.requires.room ∙ sym (length-map c.args.lanes (λ z. rounded z c.args.shift) ∙ c.requires.four))
