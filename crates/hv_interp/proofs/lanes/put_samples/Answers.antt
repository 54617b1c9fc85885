use Rattle.std.proofs.Common.{◌≡◌, ◌∙◌, ap, sym, map, length, slice_index_or}
use Rattle.std.proofs.lemmas.Simd.{put_chunk_whole}
use Rattle.std.proofs.lemmas.List.{length-map}
use lib.Lanes.{put_chunk}
use Rattle.hv_inter_model.specs.Interpolation.{weighted_sample}
use Rattle.hv_interp.proofs.RoundedLaneLemmas.{all_ask, samples_are, sample_at}
use Rattle.hv_interp.proofs.lanes.put_samples.Goals as goal

pub overflow_cast-out : goal.overflow_cast-out
overflow_cast-out c = all_ask 8 _

pub returns-clause-each : goal.returns-clause-each
returns-clause-each c j below =
    let eight : length (map weighted_sample c.args.sums) ≡ 8 = length-map c.args.sums weighted_sample ∙ c.requires.eight in
    ap (λ s. slice_index_or (put_chunk 0 c.args.out.now s) j 0) (samples_are 8 c.args.sums c.requires.eight c.requires.range) ∙
    ap (λ s. slice_index_or s j 0) (put_chunk_whole c.args.out.now (map weighted_sample c.args.sums) (c.requires.room ∙ sym eight)) ∙
    sample_at 8 j c.args.sums c.requires.eight below
