-- The colour components of a choice.
use Rattle.hv_plan.specs.declared.offsets.SaoComponent.{SaoComponent}
use Rattle.hv_plan.specs.declared.offsets.SaoParam.{SaoParam}
use Rattle.hv_sao.specs.declared.component.Component.{Component}
use Rattle.hv_sao.specs.declared.component.Component.TheVariants.{Luma, Cb, Cr}

abbrev pub component_of : Component → SaoParam → SaoComponent
component_of Luma = λ param. param.luma
component_of Cb = λ param. param.cb
component_of Cr = λ param. param.cr
