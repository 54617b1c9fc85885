use Rattle.std.proofs.Common.{ap, arith, length-set, refl, ◌∙◌}
use Rattle.std.proofs.lemmas.List.{get_or_default}
use Rattle.hv_lemmas.specs.Lists.{tabulate}
use Rattle.hv_block.specs.Edges.{unit_at}
use Rattle.hv_block.specs.Plans.{opening_unit}
use Rattle.std.specs.Prelude.{slice_index_or}
use Rattle.hv_block.proofs.EdgeLemmas.{tabulate-filled}
use Rattle.hv_block.proofs.edges.right_units.Goals as goal

pub loop-row-init : goal.loop-row-init
unfolding tabulate
loop-row-init c = (refl, refl)

pub loop-row-preserved : goal.loop-row-preserved
loop-row-preserved c = (
  length-set c.loop-row.out c.loop-row.row _ ∙ c.loop-row.invariant.0,
  tabulate-filled (λ row. unit_at c.args.units.now 7 row) c.loop-row.out c.loop-row.row _
      (omega (arith, c.loop-row.invariant.0)) c.loop-row.invariant.1
      (get_or_default c.args.units.now c.address_of.result _ opening_unit (omega arith) ∙
      ap (λ a. slice_index_or c.args.units.now a opening_unit) c.address_of.ensures.value),
)
