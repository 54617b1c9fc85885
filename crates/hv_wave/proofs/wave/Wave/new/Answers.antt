use Rattle.hv_wave.proofs.StepLemmas.{seen_new}
use Rattle.hv_wave.proofs.wave.Wave.new.Goals as goal

pub returns : goal.returns
returns c =
    seen_new c.args.columns c.args.segment c.args.rows c.in_ok-vec.field-0.items
    (c.in_ok-vec.ensures.items_if_clones_equal (λ y e. e))
