use Rattle.std.proofs.Common.{rules, ◌≡◌, ℕ, suc, ◌+◌, List, set, sym, ap, subst, ◌∙◌, arith, ℤ, to_z, of_z}
use Rattle.std.proofs.lemmas.Int.{to_z-of_z}
use Rattle.std.specs.Int.RustNames.{FitsSigned}
use mir.Syntax.{w16}
use Rattle.hv_forward.specs.Ranges.{AreDifferences}
use Rattle.hv_recon.proofs.CodedBlockLemmas.{subtracted, subtract_next, all_subtracted, are_differences}
use Rattle.hv_recon.proofs.coded_block.subtract.Goals as goal

pub loop-i-preserved : goal.loop-i-preserved
loop-i-preserved c =
    let samples : List ℕ = c.args.samples.now in
    let predicted : List ℕ = c.args.predicted.now in
    let old : List ℤ = c.args.out.now in
    let i : ℕ = c.loop-i.i in
    let narrow : FitsSigned w16 c.difference.result = search rules in
    let next : suc i ≡ i + 1 = omega arith in
    ap (λ (l : List ℤ). set l i (to_z w16 (of_z w16 c.difference.result))) c.loop-i.invariant ∙
    ap (λ v. set (subtracted samples predicted old i) i v)
    (to_z-of_z w16 c.difference.result narrow ∙ c.difference.ensures) ∙
    subtract_next samples predicted old i (omega (arith, c.requires.room)) c.requires.even
    c.requires.room ∙
    ap (λ n. subtracted samples predicted old n) next

pub returns-clause-range : goal.returns-clause-range
returns-clause-range c =
    subst (λ l. AreDifferences l)
    (sym (c.loop-i.invariant ∙
    all_subtracted c.args.samples.now c.args.predicted.now c.args.out.now c.loop-i.i
    (omega (arith, c.requires.room)) c.requires.even c.requires.room))
    (are_differences c.args.samples.now c.args.predicted.now (λ k. (c.type_inv.samples k).fits)
    (λ k. (c.type_inv.predicted k).fits))

pub returns-clause-value : goal.returns-clause-value
returns-clause-value c =
    c.loop-i.invariant ∙
    all_subtracted c.args.samples.now c.args.predicted.now c.args.out.now c.loop-i.i
    (omega (arith, c.requires.room)) c.requires.even c.requires.room
