use Rattle.std.proofs.Common.{◌∷◌, [], false, ℕ, subst, ◌∙◌}
use Rattle.hv_tables.specs.declared.bins.CtxTable.TheVariants.{PrevIntra}
use Rattle.hv_residual_model.specs.UnitBins.{PutsUnit}
use Rattle.hv_residual_model.specs.Binarization.{fixed_length_bins}
use Rattle.hv_tree_model.specs.MostProbableModes.{remaining_of}
use Rattle.hv_unit_model.specs.Bins.{bin}
use Rattle.hv_residual.proofs.PuttingLemmas.{puts_both, puts_same}
use Rattle.hv_syntax.proofs.ModeLemmas.{first_bins, second_bins, third_bins, other_bins}
use Rattle.hv_syntax.proofs.modes.put_mode_by.Goals as goal

pub returns-then-mode-first : goal.returns-then-mode-first
returns-then-mode-first g c =
    puts_same g.B.BinSink.stands_for _ _ _ _
    (first_bins c.args.first c.args.second c.args.third c.args.mode c.if-mode-first.true)
    c.put_index.ensures

pub returns-then-mode-second : goal.returns-then-mode-second
returns-then-mode-second g c =
    puts_same g.B.BinSink.stands_for _ _ _ _
    (second_bins c.args.first c.args.second c.args.third c.args.mode c.if-mode-first.false
    c.if-mode-second.true)
    c.put_index-then-mode-second.ensures

pub returns-then-mode-third : goal.returns-then-mode-third
returns-then-mode-third g c =
    puts_same g.B.BinSink.stands_for _ _ _ _
    (third_bins c.args.first c.args.second c.args.third c.args.mode c.if-mode-first.false
    c.if-mode-second.false c.if-mode-third.true)
    c.put_index-then-mode-third.ensures

pub returns : goal.returns
returns g c =
    puts_same g.B.BinSink.stands_for _ _ _ _
    (other_bins c.args.first c.args.second c.args.third c.args.mode c.if-mode-first.false
    c.if-mode-second.false c.if-mode-third.false)
    (puts_both g.B.BinSink.stands_for _ c.put_bin.new.sink _ (bin PrevIntra 0 false ∷ [])
    (fixed_length_bins 5 (remaining_of (c.args.first ∷ c.args.second ∷ c.args.third ∷ []) c.args.mode))
    c.put_bin.ensures
    (subst (λ (n : ℕ). PutsUnit g.B.BinSink.stands_for c.put_bin.new.sink
    c.put_fixed_length.new.sink (fixed_length_bins 5 n))
    (c.from.ensures ∙ c.remaining.ensures) c.put_fixed_length.ensures))
