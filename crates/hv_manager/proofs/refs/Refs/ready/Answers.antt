use Rattle.std.proofs.Common.{◌≡◌, ◌<◌, ◌∙◌, sym, subst, true}
use Rattle.hv_manager.specs.Progress.{IsReady}
use Rattle.hv_manager.proofs.StructureLemmas.{first_below, second_below}
use Rattle.hv_manager.proofs.CountLemmas.{ready_else, ready_then, reference_there}
use Rattle.hv_manager.proofs.refs.Refs.ready.Goals as goal

pub is_filtered_or_none-first-requires : goal.is_filtered_or_none-first-requires
is_filtered_or_none-first-requires c x e =
    let below = subst (λ p. c.args.k < p.count) (sym c.self.view_is) c.requires in
    reference_there c.self.inside.structure c.self.inside.filtered.items c.deref.result.now x
    c.self.invariant.filtered c.deref.ensures.value
    (first_below c.self.inside.structure c.args.k c.first.result c.self.invariant.ranges below c.first.ensures x e)

pub is_filtered_or_none-second-requires : goal.is_filtered_or_none-second-requires
is_filtered_or_none-second-requires c x e =
    let below = subst (λ p. c.args.k < p.count) (sym c.self.view_is) c.requires in
    reference_there c.self.inside.structure c.self.inside.filtered.items c.deref-2.result.now x
    c.self.invariant.filtered c.deref-2.ensures.value
    (second_below c.self.inside.structure c.args.k c.second.result c.self.invariant.ranges below
    c.second.ensures x e)

pub returns-then-first : goal.returns-then-first
returns-then-first c =
    let below = subst (λ p. c.args.k < p.count) (sym c.self.view_is) c.requires in
    let answer = c.is_filtered_or_none-second.result in
    subst (λ p. (answer ≡ true → IsReady p c.args.k) × (IsReady p c.args.k → answer ≡ true)) c.self.view_is
    (ready_then c.self.inside.structure c.self.inside.filtered.items c.deref.result.now c.deref-2.result.now
    c.args.k c.first.result c.second.result answer c.self.invariant.ranges below c.deref.ensures.value
    c.deref-2.ensures.value c.first.ensures c.second.ensures
    (sym c.is_filtered_or_none-first.ensures ∙ c.if-first.true) c.is_filtered_or_none-second.ensures)

pub returns-else-first : goal.returns-else-first
returns-else-first c =
    let answer = c.is_filtered_or_none-first.result in
    subst (λ p. (answer ≡ true → IsReady p c.args.k) × (IsReady p c.args.k → answer ≡ true)) c.self.view_is
    (ready_else c.self.inside.structure c.self.inside.filtered.items c.deref.result.now c.args.k c.first.result
    answer c.deref.ensures.value c.first.ensures c.if-first.false c.is_filtered_or_none-first.ensures)
