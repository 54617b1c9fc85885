use Rattle.std.proofs.Common.{◌≡◌, List, ℤ, ap, ◌∙◌, ℕ, sym, subst}
use Rattle.hv_residual_model.specs.ResidualSyntax.{Earlier, positions}
use Rattle.hv_residual_model.specs.ResidualBins.{levels_below, coded_sub_block_value}
use Rattle.hv_residual.specs.Blocks.{block_of, spot_of}
use Rattle.hv_residual.specs.Earlier.{Shows}
use Rattle.hv_residual.proofs.PuttingLemmas.{puts_both, puts_same}
use Rattle.hv_residual.proofs.EarlierLemmas.{sub_block_parts, behind_is, value_is, positions_are}
use Rattle.hv_residual.proofs.sub_blocks.put_sub_block.Goals as goal

pub returns : goal.returns
returns g c = λ e sh.
    let b = block_of c.args.block in
    let S = spot_of c.sub_block-corner.result in
    let these : List ℤ = levels_below b c.args.levels.now c.args.s positions in
    let el : c.gather-these.result ≡ these = c.gather-these.ensures ∙
    ap (λ (n : ℕ). levels_below b c.args.levels.now c.args.s n) (sym positions_are) in
    let v = value_is c.args.s these c.gather-these.result c.any_significant-any.result
    c.flag_value-flag.result el c.any_significant-any.ensures c.flag_value-flag.ensures in
    let parts = sub_block_parts b c.args.s e these c.gather-these.result S c.flag-right.result
    c.flag-below.result c.any_significant-any.result c.flag_value-flag.result
    c.args.coded.now.had_greater1 c.sub_block-corner.ensures.spot (c.flag-right.ensures e sh)
    (c.flag-below.ensures e sh) el c.any_significant-any.ensures c.flag_value-flag.ensures sh.had in
    let behind = behind_is b c.args.s e these c.gather-these.result S c.flag_value-flag.result
    (coded_sub_block_value c.args.s these) c.args.coded.now.had_greater1 c.put_if_coded-now.result
    c.sub_block-corner.ensures.spot v el sh.had c.put_if_coded-now.ensures.had in (
      puts_same g.B.BinSink.stands_for _ _ _ _ parts
          (puts_both g.B.BinSink.stands_for _ c.put_coded_flag.new.sink _ _ _ c.put_coded_flag.ensures
          c.put_if_coded-now.ensures.puts),
      subst (λ (x : Earlier). Shows c.set.new.self x) behind (c.set.ensures e sh),
    )
