use Rattle.std.proofs.Common.{◌≡◌, ℕ, ◌+◌, sym, ap, ◌∙◌, arith}
use Rattle.hv_lemmas.specs.Lists.{tabulate}
use Rattle.hv_tree_model.specs.MostProbableModes.{planar}
use Rattle.hv_filter_model.specs.Costs.{first_least}
use Rattle.hv_mode.specs.LumaModes.{mode_score, further_count, further_mode}
use Rattle.hv_mode.proofs.ScoreLemmas.{no_modes, one_mode_more, modes_are, best_more}
use Rattle.hv_mode.proofs.luma_mode.best_mode.Goals as goal

pub modes-init : goal.modes-init
modes-init c =
    let b = c.args.block in
    let f : ℕ → ℕ = mode_score b.log2 b.qp b.candidates b.samples.now b.line.now in
    let is = c.score_mode-best.ensures.mode in (
      is ∙ ap (λ list. first_least f planar list) (sym (no_modes (further_mode c.args.effort))),
      c.score_mode-best.ensures.score ∙ ap f (sym is),
    )

pub modes-preserved : goal.modes-preserved
modes-preserved c =
    let b = c.args.block in
    let f : ℕ → ℕ = mode_score b.log2 b.qp b.candidates b.samples.now b.line.now in
    let F : ℕ → ℕ = further_mode c.args.effort in
    best_more f (tabulate c.modes.i F) (tabulate (c.modes.i + 1) F) (F c.modes.i) c.modes.best
    c.score_mode.result c.better-best.result c.modes.invariant
    (c.score_mode.ensures.mode ∙ c.further_mode.ensures.value)
    (c.score_mode.ensures.score ∙ ap f c.further_mode.ensures.value)
    c.better-best.ensures (one_mode_more c.modes.i F)

pub returns : goal.returns
returns c =
    let b = c.args.block in
    let f : ℕ → ℕ = mode_score b.log2 b.qp b.candidates b.samples.now b.line.now in
    let F : ℕ → ℕ = further_mode c.args.effort in
    let end : c.modes.i ≡ further_count c.args.effort =
    omega (arith, c.further_count-i-end.ensures.value) in
    c.modes.invariant.0 ∙
    ap (λ list. first_least f planar list) (ap (λ n. tabulate n F) end ∙ modes_are c.args.effort)
