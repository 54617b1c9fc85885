use Rattle.hv_cabac.proofs.CutLemmas.{half_is_cut}
use Rattle.hv_cabac.proofs.register.Register.encode_bypass.Goals as goal

pub returns : goal.returns
returns c fine =
    let skip = c.skip_of-skip in
    half_is_cut _ _ c.args.value skip.result _ (c.put_bits.ensures fine) c.bypass_low-low.ensures.value
    skip.ensures.value skip.ensures.most
