use Rattle.std.proofs.Common.{◌∙◌, subst, sym, ap, arith}
use Rattle.std.specs.Int.RustNames.{unsigned_abs}
use Rattle.hv_lemmas.proofs.SignedLemmas.{passed_small}
use Rattle.hv_sao.specs.Decisions.{growth}
use Rattle.hv_sao.proofs.NumberLemmas.{code_growth, growth_most, growth_passes, first_fits, growth_fits}
use Rattle.std.proofs.Common.{pos, ◌≤◌, ℤ, ◌≡◌}
use Rattle.hv_lemmas.proofs.SignedLemmas.{passed}
use Rattle.hv_sao.proofs.offset.growth.Goals as goal

pub overflow_mul-result-2 : goal.overflow_mul-result-2
overflow_mul-result-2 c = first_fits c.args.tally.count c.args.tally.sum c.args.by c.requires.by c.requires.count c.requires.sum

pub overflow_sub-result : goal.overflow_sub-result
overflow_sub-result c = growth_fits c.args.tally.count c.args.tally.sum c.args.by c.requires.by c.requires.count c.requires.sum

pub returns-clause-value : goal.returns-clause-value
returns-clause-value c =
    let most = growth_most c.args.tally.count c.args.tally.sum c.args.by c.requires.by c.requires.count c.requires.sum in
    ap passed (growth_passes c.args.tally.count c.args.tally.sum c.args.by c.requires.by c.requires.count c.requires.sum)
    ∙ passed_small (growth (pos c.args.tally.count) c.args.tally.sum c.args.by) (omega (arith, most))

pub returns-clause-most : goal.returns-clause-most
returns-clause-most c =
    let most = growth_most c.args.tally.count c.args.tally.sum c.args.by c.requires.by c.requires.count c.requires.sum in
    let same : passed (code_growth c.args.tally.count c.args.tally.sum c.args.by) ≡ growth (pos c.args.tally.count) c.args.tally.sum c.args.by =
    ap passed (growth_passes c.args.tally.count c.args.tally.sum c.args.by c.requires.by c.requires.count c.requires.sum)
    ∙ passed_small (growth (pos c.args.tally.count) c.args.tally.sum c.args.by) (omega (arith, most)) in
    subst (λ (z : ℤ). unsigned_abs z ≤ 16777216) (sym same) most
