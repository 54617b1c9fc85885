use Rattle.std.proofs.Common.{◌≡◌, ℕ, length, subst, sym, arith}
use Rattle.hv_tree_model.specs.Trees.{Intra}
use Rattle.hv_unit_model.specs.Bins.{transform_tree_bins}
use Rattle.hv_syntax.specs.Levels.{units_of}
use Rattle.hv_syntax.proofs.CountLemmas.{length_intra}
use Rattle.hv_syntax.proofs.counting.count_intra.Goals as goal

pub returns-clause-value : goal.returns-clause-value
returns-clause-value c =
    let units = units_of c.args.levels.now in
    let tree : c.count_transform_tree-tree.result ≡
    length (transform_tree_bins (Intra c.args.mode) c.args.size units) =
    subst (λ (n : ℕ). c.count_transform_tree-tree.result ≡
    length (transform_tree_bins (Intra c.args.mode) n units)) (sym c.requires)
    c.count_transform_tree-tree.ensures.value in
    omega (
      arith,
      tree,
      c.count_where.ensures.value,
      c.count_luma_mode.ensures.value,
      length_intra c.args.size c.args.candidates c.args.mode units,
    )
