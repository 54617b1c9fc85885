use Rattle.std.proofs.Common.{get_or, ap, ◌∙◌}
use Rattle.hv_tables.specs.ArithmeticTables.{transIdxLps}
use Rattle.hv_tables.proofs.ArithmeticTableLemmas.{successor_default}
use Rattle.hv_tables.proofs.arithmetic.trans_idx_lps.Goals as goal

pub returns : goal.returns
returns c =
    ap (λ i. get_or transIdxLps i 0) c.from.ensures ∙ successor_default c.args.p_state_idx c.requires
