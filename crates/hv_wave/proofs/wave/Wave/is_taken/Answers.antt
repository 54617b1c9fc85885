use Rattle.std.proofs.Common.{◌∙◌, sym, ap, refl}
use Rattle.std.proofs.lemmas.Bool.{both_ways, ltb-true, ltb-false}
use Rattle.hv_wave.specs.Segments.{per_row}
use Rattle.hv_wave.proofs.StepLemmas.{taken_some, taken_none}
use Rattle.hv_wave.proofs.wave.Wave.is_taken.Goals as goal

pub returns-in-Some : goal.returns-in-Some
returns-in-Some c =
    let same = c.per_row-per_row.ensures.value ∙ ap (λ v. per_row v.columns v.segment) (sym c.self.view_is) in
    taken_some c.self.inside.columns c.self.inside.segment c.per_row-per_row.result c.self.inside.rows.items
    c.deref.result.now c.args.self.now c.args.segment c.in-Some.row.now c.has_taken.result
    same c.deref.ensures.value c.self.view_is (ltb-true _ _ (sym c.in-Some.ensures.lookup.0))
    c.in-Some.ensures.lookup.1 c.has_taken.ensures

pub returns-in-None : goal.returns-in-None
returns-in-None c =
    let same = c.per_row-per_row.ensures.value ∙ ap (λ v. per_row v.columns v.segment) (sym c.self.view_is) in
    let none = taken_none c.self.inside.columns c.self.inside.segment c.per_row-per_row.result c.self.inside.rows.items
    c.deref.result.now c.args.self.now c.args.segment same c.deref.ensures.value c.self.view_is
    (ltb-false _ _ (sym c.in-None.ensures.lookup.0)) in
    (λ e. absurd (both_ways _ refl e), λ e. absurd (none e))
