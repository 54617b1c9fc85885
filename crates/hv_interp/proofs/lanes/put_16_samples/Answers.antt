use Rattle.std.proofs.Common.{◌≡◌, ◌∙◌, ap, sym, map, length, slice_index_or}
use Rattle.std.proofs.lemmas.Simd.{put_chunk_whole}
use Rattle.std.proofs.lemmas.List.{length-map}
use lib.Lanes.{put_chunk}
use Rattle.hv_inter_model.specs.Interpolation.{weighted_sample}
use Rattle.hv_interp.proofs.RoundedLaneLemmas.{all_ask, samples_are, sample_at}
use Rattle.hv_interp.proofs.lanes.put_16_samples.Goals as goal

pub overflow_cast-out : goal.overflow_cast-out
overflow_cast-out c = all_ask 16 _

pub returns-clause-each : goal.returns-clause-each
returns-clause-each c j below =
    let count : length (map weighted_sample c.args.sums) ≡ 16 = length-map c.args.sums weighted_sample ∙ c.requires.sixteen in
    ap (λ s. slice_index_or (put_chunk 0 c.args.out.now s) j 0) (samples_are 16 c.args.sums c.requires.sixteen c.requires.range) ∙
    ap (λ s. slice_index_or s j 0) (put_chunk_whole c.args.out.now (map weighted_sample c.args.sums) (c.requires.room ∙ sym count)) ∙
    sample_at 16 j c.args.sums c.requires.sixteen below
