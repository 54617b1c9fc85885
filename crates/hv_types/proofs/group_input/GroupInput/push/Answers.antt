use Rattle.std.proofs.Common.{subst, sym, ◌<◌, length}
use Rattle.hv_types.specs.GroupInput.{GroupInput, IsGroup}
use Rattle.hv_types.proofs.GroupLemmas.{IsGroup-push}
use Rattle.hv_types.proofs.group_input.GroupInput.push.Goals as goal

pub invariant_of-self-2 : goal.invariant_of-self-2
invariant_of-self-2 c =
    let group : GroupInput = record
    { config = c.self.inside.config; pictures = c.self.inside.pictures.items } in
    let room : length group.pictures < group.config.group =
    subst (λ (g : GroupInput). length g.pictures < g.config.group) (sym c.self.view_is)
    c.requires.room in
    subst (λ pictures. IsGroup record { config = group.config; pictures = pictures })
    (sym c.in_ok-push.ensures.items)
    (IsGroup-push group c.in_ok-picture.picture c.self.invariant room
    c.in_ok-picture.ensures.padded)
