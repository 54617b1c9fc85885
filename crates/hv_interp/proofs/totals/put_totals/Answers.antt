use Rattle.std.proofs.Common.{◌∙◌, ap, sym, subst, map, ◌≤◌}
use Rattle.std.specs.Int.RustNames.{unsigned_abs}
use Rattle.hv_lemmas.specs.Clipping.{clip1, clip16}
use Rattle.hv_interp.specs.Lanes.{lane}
use Rattle.hv_interp.proofs.RoundedTotalLemmas.{sums_kept, means_fit, clips_pass, sample_of_total}
use Rattle.hv_interp.proofs.totals.put_totals.Goals as goal

pub means-requires-clause-range : goal.means-requires-clause-range
means-requires-clause-range c j =
    subst (λ l. unsigned_abs (lane l j) ≤ 3670016) (sym (sums_kept c.args.sums c.requires.range)) (c.requires.range j)

pub clipped-requires-clause-numbers : goal.clipped-requires-clause-numbers
clipped-requires-clause-numbers c = (means_fit c.args.sums c.means.result c.requires.range c.means.ensures).1

pub put_clipped-requires-clause-numbers : goal.put_clipped-requires-clause-numbers
put_clipped-requires-clause-numbers c = (clips_pass _ c.clipped.result c.clipped.ensures).1

pub returns-clause-each : goal.returns-clause-each
returns-clause-each c j below =
    sample_of_total j c.args.sums c.put_clipped.new.out c.requires.eight below
    (c.put_clipped.ensures ∙ ap (map clip1) ((clips_pass _ c.clipped.result c.clipped.ensures).0 ∙
    ap (map clip16) (means_fit c.args.sums c.means.result c.requires.range c.means.ensures).0))
