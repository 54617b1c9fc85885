use Rattle.hv_cabac.proofs.CutLemmas.{part_is_cut}
use Rattle.hv_cabac.proofs.register.Register.renormalise.Goals as goal

pub returns : goal.returns
returns c fine =
    part_is_cut _ _ _ _ _ _ _ (c.put_bits.ensures fine) c.new_range.ensures
    c.doublings-times.ensures.shift c.new_low-low.ensures.value c.requires.inside c.requires.least
