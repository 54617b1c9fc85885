use Rattle.std.proofs.Common.{ap, arith, length-set, refl, ◌∙◌}
use Rattle.std.proofs.lemmas.List.{get_or_default}
use Rattle.hv_lemmas.specs.Lists.{tabulate}
use Rattle.hv_block.specs.Edges.{unit_at}
use Rattle.hv_block.specs.Plans.{opening_unit}
use Rattle.std.specs.Prelude.{slice_index_or}
use Rattle.hv_block.proofs.EdgeLemmas.{tabulate-filled}
use Rattle.hv_block.proofs.edges.bottom_units.Goals as goal

pub loop-column-init : goal.loop-column-init
unfolding tabulate
loop-column-init c = (refl, refl)

pub loop-column-preserved : goal.loop-column-preserved
loop-column-preserved c = (
  length-set c.loop-column.out c.loop-column.column _ ∙ c.loop-column.invariant.0,
  tabulate-filled (λ column. unit_at c.args.units.now column 7) c.loop-column.out
      c.loop-column.column _
      (omega (arith, c.loop-column.invariant.0)) c.loop-column.invariant.1
      (get_or_default c.args.units.now c.address_of.result _ opening_unit (omega arith) ∙
      ap (λ a. slice_index_or c.args.units.now a opening_unit) c.address_of.ensures.value),
)
