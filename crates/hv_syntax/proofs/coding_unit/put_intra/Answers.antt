use Rattle.std.proofs.Common.{ℕ, sym, subst}
use Rattle.hv_residual_model.specs.UnitBins.{PutsUnit}
use Rattle.hv_tree_model.specs.Trees.{Intra}
use Rattle.hv_unit_model.specs.Bins.{transform_tree_bins}
use Rattle.hv_syntax.specs.Levels.{units_of}
use Rattle.hv_syntax.proofs.PartLemmas.{puts_intra}
use Rattle.hv_syntax.proofs.coding_unit.put_intra.Goals as goal

pub returns : goal.returns
returns g c =
    let s = g.B.BinSink.stands_for in
    puts_intra s c.args.sink.now c.put_intra_part.new.sink
    c.put_luma_mode.new.sink c.put_bin.new.sink c.put_transform_tree.new.sink c.args.size
    c.args.candidates c.args.mode (units_of c.args.levels.now) c.put_intra_part.ensures
    c.put_luma_mode.ensures c.put_bin.ensures
    (subst (λ (n : ℕ). PutsUnit s c.put_bin.new.sink c.put_transform_tree.new.sink
    (transform_tree_bins (Intra c.args.mode) n (units_of c.args.levels.now))) (sym c.requires)
    c.put_transform_tree.ensures)
