-- What is told of settings that are refused.
use Rattle.std.specs.Prelude.{ℕ, List, codes}
use Rattle.hv_types.specs.declared.settings.ConfigError.{ConfigError}
use Rattle.hv_types.specs.declared.settings.ConfigError.TheVariants.{OddSize, SizeRange, GroupTooLarge, OutOfRange}

abbrev pub fault_text : ConfigError → List ℕ
fault_text OddSize = codes "odd size"
fault_text SizeRange = codes "size out of range"
fault_text GroupTooLarge = codes "group too large"
fault_text (OutOfRange field) = codes "value out of range"
