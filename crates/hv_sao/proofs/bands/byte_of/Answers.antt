use Rattle.std.proofs.Common.{◌≡◌, ◌-◌, cond, nat_lt, ◌∙◌, ap, sym, subst, to_z, of_z, w8, rules}
use Rattle.hv_sao.specs.Bands.{raise, lower}
use Rattle.hv_sao.proofs.BandLemmas.{byte_raises, byte_lowers}
use Rattle.hv_sao.proofs.bands.byte_of.Goals as goal

pub returns-clause-raised : goal.returns-clause-raised
returns-clause-raised c =
    let fits : to_z w8 (of_z w8 c.args.offset) ≡ c.args.offset = search rules in
    subst (λ n. raise c.args.offset ≡ cond (nat_lt n 128) n 0) (sym (c.cast_unsigned.ensures ∙ ap (of_z w8) fits))
    (byte_raises c.args.offset c.ranges.offset)

pub returns-clause-lowered : goal.returns-clause-lowered
returns-clause-lowered c =
    let fits : to_z w8 (of_z w8 c.args.offset) ≡ c.args.offset = search rules in
    subst (λ n. lower c.args.offset ≡ cond (nat_lt n 128) 0 (256 - n)) (sym (c.cast_unsigned.ensures ∙ ap (of_z w8) fits))
    (byte_lowers c.args.offset c.ranges.offset)
