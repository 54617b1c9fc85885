use Rattle.std.proofs.Common.{◌≡◌, ◌∙◌, List, ℤ, ℕ, ap, sym, refl}
use Rattle.hv_residual_model.specs.ResidualSyntax.{positions}
use Rattle.hv_residual_model.specs.ResidualBins.{levels_below}
use Rattle.hv_residual.specs.Blocks.{block_of}
use Rattle.hv_residual.proofs.EarlierLemmas.{value_is, positions_are}
use Rattle.hv_residual.proofs.counting.count_sub_block.Goals as goal

pub returns-clause-value : goal.returns-clause-value
returns-clause-value c =
    let b = block_of c.args.block in
    let these : List ℤ = levels_below b c.args.levels.now c.args.s positions in
    let el : c.gather-these.result ≡ these = c.gather-these.ensures ∙
    ap (λ (n : ℕ). levels_below b c.args.levels.now c.args.s n) (sym positions_are) in
    let v = value_is c.args.s these c.gather-these.result c.any_significant.result
    c.flag_value-flag.result el c.any_significant.ensures c.flag_value-flag.ensures in
    rw (c.count_flag.ensures.value, c.count_coded.ensures.value, v, el) refl
