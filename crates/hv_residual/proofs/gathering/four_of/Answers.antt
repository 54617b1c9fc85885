use Rattle.std.proofs.Common.{◌≡◌, ◌+◌, ℕ, ℤ, get_or, pos, rules, add-zero, refl, ◌∙◌}
use mir.Syntax.{w16}
use mir.Val.{to_z, of_z}
use Rattle.hv_residual.proofs.GatheringLemmas.{four_entries}
use Rattle.hv_residual.proofs.gathering.four_of.Goals as goal

pub returns : goal.returns
returns c =
    let f : ℕ → ℤ = λ x. get_or c.args.levels.now (c.args.at + x) (pos 0) in
    let first : to_z w16 (of_z w16 (get_or c.args.levels.now c.args.at (pos 0))) ≡
    get_or c.args.levels.now c.args.at (pos 0) = search rules in
    let start : get_or c.args.levels.now c.args.at (pos 0) ≡ f 0 = rw (add-zero) refl in
    let second : to_z w16 (of_z w16 (f 1)) ≡ f 1 = search rules in
    let third : to_z w16 (of_z w16 (f 2)) ≡ f 2 = search rules in
    let fourth : to_z w16 (of_z w16 (f 3)) ≡ f 3 = search rules in
    four_entries f _ _ _ _ (first ∙ start) second third fourth
