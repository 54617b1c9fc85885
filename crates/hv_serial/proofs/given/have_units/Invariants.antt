-- The plans of the blocks before this one have their units.
use Rattle.hv_serial.specs.CodedBlocks.{HaveUnits}
use Rattle.hv_serial.proofs.given.have_units.Given as goal

abbrev pub invariant-loop-index : goal.invariant-loop-index
invariant-loop-index l = HaveUnits l.index l.blocks
