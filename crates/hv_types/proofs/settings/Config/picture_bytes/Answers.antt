use Rattle.std.proofs.Common.{◌≤◌, subst, sym}
use Rattle.hv_types.proofs.ConfigurationLemmas.{valid, picture_bytes-most}
use Rattle.hv_types.proofs.settings.Config.picture_bytes.Goals as goal

pub returns-clause-most : goal.returns-clause-most
returns-clause-most c =
    subst (λ bytes. bytes ≤ 13369344) (sym c.bytes_of_sides.ensures)
    (picture_bytes-most c.self.inside.settings (valid c.self.inside.settings c.self.invariant))
