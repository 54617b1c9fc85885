use Rattle.std.proofs.Common.{arith}
use Rattle.hv_recon_model.proofs.SeenNodeLemmas.{power_luma, power_chroma}
use Rattle.hv_mode.proofs.copy.copy_samples.Goals as goal

pub copy_luma-requires-clause-across : goal.copy_luma-requires-clause-across
copy_luma-requires-clause-across c =
    omega (arith, power_luma c.args.size, c.requires.across, c.column_of.ensures.value)

pub copy_luma-requires-clause-down : goal.copy_luma-requires-clause-down
copy_luma-requires-clause-down c =
    omega (arith, power_luma c.args.size, c.requires.down, c.row_of.ensures.value)

pub copy_cb-requires-clause-across : goal.copy_cb-requires-clause-across
copy_cb-requires-clause-across c =
    omega (arith, power_chroma c.args.size, c.requires.across, c.column_of.ensures.value)

pub copy_cb-requires-clause-down : goal.copy_cb-requires-clause-down
copy_cb-requires-clause-down c =
    omega (arith, power_chroma c.args.size, c.requires.down, c.row_of.ensures.value)

pub copy_cr-requires-clause-across : goal.copy_cr-requires-clause-across
copy_cr-requires-clause-across c =
    omega (arith, power_chroma c.args.size, c.requires.across, c.column_of.ensures.value)

pub copy_cr-requires-clause-down : goal.copy_cr-requires-clause-down
copy_cr-requires-clause-down c =
    omega (arith, power_chroma c.args.size, c.requires.down, c.row_of.ensures.value)
